-- `places::places_ok`: each place is tested with its number.
use Rattle.std.proofs.Common.{◌≡◌, rules, true, false}
use borrow.Author.Tests.{tests}
use Rattle.std.proofs.lemmas.Iterator.{cases_from_all, YieldsList-from_slice}
use Rattle.std.proofs.lemmas.Iterator.Consumers.{YieldsList-from_enumerate}
use Rattle.queue.proofs.PlaceTests.{place_at, places_exact}
use Rattle.queue.proofs.places.places_ok.Goals as goal

pub returns : goal.returns
returns c =
    let n = c.args.count in
    places_exact n c.args.places.now c.all.result (search rules)
    (cases_from_all _ _ _ (λ p. place_at n p ≡ true) (λ p. place_at n p ≡ false) c.all.ensures.ran
    (YieldsList-from_enumerate (YieldsList-from_slice c.args.places.now cc) cc) (λ x q k. search (rules, tests)) (λ x q k. search (rules, tests)))
