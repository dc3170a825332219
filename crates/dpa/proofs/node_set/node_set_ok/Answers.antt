-- `node_set::node_set_ok`: address 0, then all bytes.
use mathlib.Core.Path.{sym, ◌∙◌}
use Rattle.dpa.specs.NodeSet.{node_set_ok}
use Rattle.dpa.proofs.node_set.node_set_ok.Goals as goal

pub returns-then-selects : goal.returns-then-selects
unfolding node_set_ok
returns-then-selects c = rw (sym c.selects.ensures ∙ c.if-selects.true)

pub returns : goal.returns
unfolding node_set_ok
returns c = rw (sym c.selects.ensures ∙ c.if-selects.false) c.selects_any.ensures
