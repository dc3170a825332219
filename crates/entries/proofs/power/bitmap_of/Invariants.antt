-- The loop: the bits of the steps that the iterator has left are still to be added.
use Rattle.book.specs.Steps.{steps_of}
use Rattle.entries.proofs.Writing.{BitmapSoFar}
use Rattle.entries.proofs.power.bitmap_of.Given as goal

abbrev pub invariant-loop-step : goal.invariant-loop-step
invariant-loop-step l = BitmapSoFar (steps_of l.steps) (steps_of l.step-iterator) l.bitmap
