-- `levels::each_level` meets its contract. The invariant: the levels before `i` are those of the lamps, the others are still 0.
use mathlib.Core.Path.{◌≡◌}
use mathlib.Core.List.{◌++◌, map}
use lib.ListN.{take, drop}
use Rattle.lights.specs.declared.lamp.Lamp.{Lamp}
use Rattle.lights.specs.Lamp.{actual_level}
use Rattle.node.proofs.levels.each_level.Given as goal

abbrev pub invariant-loop-i : goal.invariant-loop-i
invariant-loop-i l = l.levels ≡ map (λ (x : Lamp). actual_level l.rounding.settings x.level) (take l.i l.fn.lamps) ++ drop l.i l.initial.levels
