-- `levels::each_level` meets its contract. The invariant: the levels before `i` are those of the lamps, the others are still 0.
use native.Mathlib.Omega.{arith}
use Rattle.lights.specs.Lamp.{off}
use Rattle.node.proofs.Maps.{map_next}
use Rattle.node.proofs.levels.each_level.Goals as goal

pub loop-i-preserved : goal.loop-i-preserved
loop-i-preserved c = rw c.actual_level.ensures (map_next _ _ _ _ _ c.loop-i.invariant off (omega arith) (omega arith))
