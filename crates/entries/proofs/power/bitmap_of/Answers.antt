-- The loop: the bits of the steps that the iterator has left are still to be added.
use mathlib.Core.Path.{ap}
use native.Mathlib.Omega.{arith}
use Rattle.book.proofs.Positions.{steps_length}
use Rattle.entries.specs.Entry.{bitmap_of}
use Rattle.entries.proofs.Writing.{in_range, bitmap_lamp, bitmap_next}
use Rattle.entries.proofs.power.bitmap_of.Goals as goal

pub loop-step-init : goal.loop-step-init
loop-step-init c =
    let steps = c.args.steps in
    rw c.into_iter-step-iterator.ensures.into_iter_gives
    (record { sum = omega arith; bound = omega arith; lamps = in_range steps.count steps.body.now c.requires })

pub lamp_bit-bitmap-requires : goal.lamp_bit-bitmap-requires
lamp_bit-bitmap-requires c = (bitmap_lamp c.loop-step.invariant c.in-Some.ensures.steps).1

pub overflow_add-bitmap : goal.overflow_add-bitmap
overflow_add-bitmap c =
    let steps = c.args.steps in
    let l = bitmap_next c.loop-step.invariant c.in-Some.ensures.steps c.lamp_bit-bitmap.ensures.0 c.lamp_bit-bitmap.ensures.1 in
    omega (arith, l.bound, steps_length steps.count steps.body.now, steps.few)

pub loop-step-preserved : goal.loop-step-preserved
loop-step-preserved c = bitmap_next c.loop-step.invariant c.in-Some.ensures.steps c.lamp_bit-bitmap.ensures.0 c.lamp_bit-bitmap.ensures.1

pub returns : goal.returns
returns c = omega (arith, c.loop-step.invariant.sum, ap bitmap_of c.in-None.ensures.steps.0)
