-- The loop: the first i steps are in one entry, of `size` bytes so far.
use Rattle.entries.proofs.FirstEntry.{FirstSteps}
use Rattle.entries.proofs.join.first_entry.Given as goal

abbrev pub invariant-loop-i : goal.invariant-loop-i
invariant-loop-i l = FirstSteps l.limit l.steps.count l.steps.body.now l.i l.size
