-- `node_set::selects`: the bit of the address, or false if the set has no such byte.
use mathlib.Core.Path.{sym}
use native.Mathlib.Omega.{arith}
use Rattle.dpa.proofs.NodeSets.{selects_at, selects_outside}
use Rattle.dpa.proofs.node_set.selects.Goals as goal

pub returns-then-set-index : goal.returns-then-set-index
returns-then-set-index c = sym (selects_outside _ _ (omega (arith, c.from-index.ensures, c.if-set-index.true)))

pub returns : goal.returns
returns c = selects_at _ _ c.from-index.ensures
