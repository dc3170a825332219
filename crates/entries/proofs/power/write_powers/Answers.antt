-- The loop: the power bytes of the steps that the iterator has left remain, and these are in range.
use mathlib.Core.Path.{ap}
use Rattle.book.specs.Steps.{steps_of}
use Rattle.entries.specs.Entry.{power_bytes, powers_bytes}
use Rattle.entries.proofs.Writers.{remaining_start, remaining_room, remaining_more, remaining_none}
use Rattle.entries.proofs.Writing.{in_range}
use Rattle.entries.proofs.power.write_powers.Goals as goal

pub loop-step-init : goal.loop-step-init
loop-step-init c =
    let steps = c.args.steps in
    rw c.into_iter-step-iterator.ensures.into_iter_gives (remaining_start _ _, in_range steps.count steps.body.now c.requires.1)

pub write_power-requires : goal.write_power-requires
write_power-requires c = (
  (rw c.in-Some.ensures.steps at c.loop-step.invariant.1).0.0,
  remaining_room c.loop-step.invariant.0 (power_bytes c.in-Some.step) (powers_bytes (steps_of c.next.new.self)) (ap powers_bytes c.in-Some.ensures.steps) c.requires.0,
)

pub loop-step-preserved : goal.loop-step-preserved
loop-step-preserved c = (
  remaining_more c.loop-step.invariant.0 (power_bytes c.in-Some.step) _ (ap powers_bytes c.in-Some.ensures.steps) c.write_power.ensures,
  (rw c.in-Some.ensures.steps at c.loop-step.invariant.1).1,
)

pub returns : goal.returns
returns c = remaining_none c.loop-step.invariant.0 (ap powers_bytes c.in-None.ensures.steps.0)
