-- The loop: the values of the steps that the iterator has left remain.
use mathlib.Core.List.{[], ◌∷◌}
use mathlib.Core.Path.{ap}
use native.Mathlib.Omega.{arith}
use Rattle.book.specs.Steps.{steps_of}
use Rattle.entries.specs.Entry.{values}
use Rattle.entries.proofs.Writers.{remaining_start, remaining_room, remaining_more, remaining_none}
use Rattle.entries.proofs.Writing.{values_count}
use Rattle.entries.proofs.entry.write_values.Goals as goal

pub loop-step-init : goal.loop-step-init
loop-step-init c = rw c.into_iter-step-iterator.ensures.into_iter_gives (remaining_start _ _)

pub write_byte-requires : goal.write_byte-requires
write_byte-requires c =
    let steps = c.args.steps in
    remaining_room c.loop-step.invariant (c.in-Some.step.value ∷ []) (values (steps_of c.next.new.self)) (ap values c.in-Some.ensures.steps)
    (omega (arith, values_count steps.count steps.body.now))

pub loop-step-preserved : goal.loop-step-preserved
loop-step-preserved c =
    remaining_more c.loop-step.invariant (c.in-Some.step.value ∷ []) _ (ap values c.in-Some.ensures.steps) c.write_byte.ensures

pub returns : goal.returns
returns c = remaining_none c.loop-step.invariant (ap values c.in-None.ensures.steps.0)
