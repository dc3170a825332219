-- `escape::escaped_all_length` meets its contract: a message takes what its bytes take.
use Rattle.std.proofs.Common.{ℕ, ◌≡◌, ◌∙◌, length, arith, rules}
use borrow.Author.Tests.{tests}
use Rattle.std.proofs.lemmas.Iterator.{YieldsList-from_slice, YieldsList-from_map}
use Rattle.std.proofs.lemmas.Iterator.Consumers.{sum_by_from_yields_List}
use Rattle.framing.specs.Framing.{escaped, escaped_all}
use Rattle.framing.proofs.Escapes.{escaped_sum, escaped_max}
use Rattle.framing.proofs.escape.escaped_all_length.Goals as goal

pub returns : goal.returns
returns c =
    let m = c.args.message.now in
    let size = λ (b : ℕ). length (escaped b) in
    let sum : c.sum.result ≡ length (escaped_all m)
    = sum_by_from_yields_List size m c.map.result c.sum.result c.sum.ensures.ran
    (YieldsList-from_map _ size (YieldsList-from_slice m (search rules)) c.map.ensures.closure (λ x r q k. search (rules, tests)))
    ∙ escaped_sum m in
    (sum, omega (arith, sum, escaped_max m, c.requires))
