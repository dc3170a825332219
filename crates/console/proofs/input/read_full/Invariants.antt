-- `input::read_full`: each turn reads at least one byte, into the part of the buffer that is left.
use Rattle.std.proofs.Common.{◌-◌, ◌≤◌, length, take}
use Rattle.std.specs.Io.KnownBytes.{Consumes}
use Rattle.console.proofs.input.read_full.Given as goal

abbrev pub invariant-loop-n : goal.invariant-loop-n
invariant-loop-n g l =
    (l.n ≤ length l.book) × Consumes (g.R.Read.remaining l.fn.file) (g.R.Read.remaining l.file) (take l.n l.book)

abbrev pub decreases-loop-n : goal.decreases-loop-n
decreases-loop-n g l = length l.book - l.n
