-- `tick::tick_lamps` meets its contract. The invariant: the lamps before the index have ticked, the others are unchanged.
use mathlib.Core.Path.{◌≡◌}
use mathlib.Core.List.{◌++◌, map}
use lib.ListN.{take, drop}
use Rattle.lights.specs.Lamp.{tick_lamp}
use Rattle.node.proofs.tick.tick_lamps.Given as goal

abbrev pub invariant-loop-lamp : goal.invariant-loop-lamp
invariant-loop-lamp l = l.lamp-items ≡ map tick_lamp (take l.lamp-index l.fn.lamps) ++ drop l.lamp-index l.fn.lamps
