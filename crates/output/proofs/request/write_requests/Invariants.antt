-- `request::write_requests`: each iteration writes the entry of one span, and what separates it from the entry before.
use mathlib.Core.List.{◌++◌}
use mathlib.Core.Path.{◌≡◌}
use lib.ListN.{drop}
use Rattle.dpa.specs.Frame.{header_bytes}
use Rattle.book.specs.Steps.{steps_of}
use Rattle.entries.specs.Join.{entries_of}
use Rattle.output.specs.Fill.{spans_of}
use Rattle.output.proofs.Remaining.{remaining_bytes}
use Rattle.output.proofs.Progress.{Progress}
use Rattle.output.proofs.request.write_requests.Given as goal

abbrev pub invariant-loop-span : goal.invariant-loop-span
invariant-loop-span l =
    let limits = l.form.limits in
    let header = l.form.header in
    let rest = steps_of l.rest.steps in
    Progress limits.entry limits.list (remaining_bytes limits.list (header_bytes header ++ l.form.front.now) header.hwpid) (steps_of l.steps.steps) l.initial.out rest l.size l.out
    × (drop l.span-index l.spans ≡ spans_of (entries_of limits.entry rest))
