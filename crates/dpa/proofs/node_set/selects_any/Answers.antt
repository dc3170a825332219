-- `node_set::selects_any`: a byte that is not 0 names an address, and bytes of zeros name none.
use Rattle.std.proofs.Common.{rules, ◌≡◌}
use Rattle.std.proofs.lemmas.Iterator.{cases_from_any, YieldsList-from_slice}
use borrow.Author.Tests.{tests}
use Rattle.dpa.proofs.NodeSets.{any_exact}
use Rattle.dpa.proofs.node_set.selects_any.Goals as goal

pub returns : goal.returns
returns c =
    any_exact c.args.nodes.bits c.any.result (search rules) (search rules)
    (cases_from_any _ _ _ (λ x. x ≡ 0 → ⊥) (λ x. x ≡ 0) c.any.ensures.ran (YieldsList-from_slice c.args.nodes.bits cc) (λ x q k. search (rules, tests)) (λ x q k. search (rules, tests)))
