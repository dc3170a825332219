-- The loop: the values of the steps that the iterator has left remain.
use Rattle.book.specs.Steps.{steps_of}
use Rattle.entries.specs.Entry.{values}
use Rattle.entries.proofs.Writers.{Remaining}
use Rattle.entries.proofs.entry.write_values.Given as goal

abbrev pub invariant-loop-step : goal.invariant-loop-step
invariant-loop-step l = Remaining l.initial.out (values (steps_of l.steps)) l.out (values (steps_of l.step-iterator))
