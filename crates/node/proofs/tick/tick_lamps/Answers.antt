-- `tick::tick_lamps` meets its contract. The invariant: the lamps before the index have ticked, the others are unchanged.
use native.Mathlib.Omega.{arith}
use Rattle.lights.specs.Lamp.{off, tick_lamp}
use Rattle.node.proofs.Maps.{map_next, map_unchanged}
use Rattle.node.proofs.tick.tick_lamps.Goals as goal

pub loop-lamp-preserved : goal.loop-lamp-preserved
loop-lamp-preserved c =
    let l = c.loop-lamp in
    let e = l.invariant in
    rw (c.tick_lamp.ensures, map_unchanged tick_lamp _ l.lamp-items l.lamp-index off (omega arith) e) (map_next _ _ _ _ _ e off (omega arith) (omega arith))
