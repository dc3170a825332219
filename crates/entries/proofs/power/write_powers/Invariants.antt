-- The loop: the power bytes of the steps that the iterator has left remain, and these are in range.
use Rattle.dpa.specs.Lists.{All}
use Rattle.book.specs.Steps.{steps_of}
use Rattle.entries.specs.Entry.{powers_bytes}
use Rattle.entries.proofs.Writers.{Remaining}
use Rattle.entries.proofs.Writing.{LampStepInRange}
use Rattle.entries.proofs.power.write_powers.Given as goal

abbrev pub invariant-loop-step : goal.invariant-loop-step
invariant-loop-step l =
    Remaining l.initial.out (powers_bytes (steps_of l.steps)) l.out (powers_bytes (steps_of l.step-iterator))
    × All LampStepInRange (steps_of l.step-iterator)
