-- The loop: a body that fits is followed by the next.
use mathlib.Core.Path.{◌∙◌}
use native.Mathlib.Omega.{arith}
use Rattle.book.proofs.Checks.{bodies_next}
use Rattle.book.proofs.check.check_bodies.Goals as goal

pub loop-scene-preserved : goal.loop-scene-preserved
loop-scene-preserved c =
    let l = c.loop-scene in
    let here = c.scene_location-offset.ensures.0 in
    (omega arith, rw here (l.invariant.1 ∙ bodies_next _ l.scene l.start _ (omega arith) (rw here at c.if-offset-start.false) (rw here at c.if-steps-gt-STEPS_MAX.false)))
