-- The loop: the first bad step of all steps is the first bad one from step i on.
use mathlib.Core.Path.{◌≡◌}
use lib.ListN.{drop}
use Rattle.book.specs.Steps.{steps_of}
use Rattle.step.specs.Step.{first_bad_from}
use Rattle.step.proofs.fault.check_steps.Given as goal

abbrev pub invariant-loop-i : goal.invariant-loop-i
invariant-loop-i l = first_bad_from 0 (steps_of l.steps) ≡ first_bad_from l.i (drop l.i (steps_of l.steps))
