-- `fill::write_lengths`: each iteration keeps the span of one entry, and writes a length byte if the entry does not fit the open list.
use Prim.Native.Nat.{◌+◌}
use lib.ListN.{length}
use Rattle.dpa.specs.Frame.{header_size}
use Rattle.book.specs.Steps.{steps_of}
use Rattle.output.proofs.Remaining.{remaining_lengths}
use Rattle.output.proofs.Progress.{Progress}
use Rattle.output.proofs.EntrySpans.{SpansBefore}
use Rattle.output.proofs.fill.write_lengths.Given as goal

abbrev pub invariant-loop-rest : goal.invariant-loop-rest
invariant-loop-rest l =
    let limits = l.form.limits in
    let steps = steps_of l.steps.steps in
    let rest = steps_of l.rest.steps in
    Progress limits.entry limits.list (remaining_lengths limits.list (header_size + length l.form.front.now)) steps l.initial.out rest l.size l.out
    × SpansBefore limits.entry steps rest l.spans

abbrev pub decreases-loop-rest : goal.decreases-loop-rest
decreases-loop-rest l = l.rest.steps.count
