-- `requests::print_all`: the rest of the bytes holds the requests that are left.
use Rattle.std.proofs.Common.{ℕ, ◌*◌, ◌≤◌, length, drop}
use Rattle.output.specs.Output.{total_length}
use Rattle.scenedump.proofs.requests.print_all.Given as goal

-- the longest wait that is known
abbrev pub wait_bound : ℕ
wait_bound = 4294967295

abbrev pub invariant-loop-length : goal.invariant-loop-length
invariant-loop-length g l = (total_length (drop l.length-index l.lengths) ≤ length l.rest) × (l.total ≤ wait_bound * l.length-index)
