-- `places::all_zero`: the fold is the definition.
use Rattle.std.proofs.Common.{rules, ◌∙◌, true, ◌&&◌}
use lib.Dec.{eqb}
use borrow.Author.Tests.{tests}
use Rattle.std.proofs.lemmas.Iterator.{YieldsList-from_slice}
use Rattle.std.proofs.lemmas.Iterator.Consumers.{fold_from_yields_List}
use Rattle.queue.proofs.PlaceTests.{zeros_folded}
use Rattle.queue.proofs.places.all_zero.Goals as goal

pub returns : goal.returns
returns c =
    fold_from_yields_List _ (λ ok x. ok && eqb x 0) true _ c.fold.ensures.ran (YieldsList-from_slice c.args.bytes.now cc) (λ a x b q k. search (rules, tests))
    ∙ zeros_folded true c.args.bytes.now
