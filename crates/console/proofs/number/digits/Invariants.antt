-- `number::digits`: the value never exceeds the limit.
use Rattle.std.proofs.Common.{◌≤◌}
use Rattle.console.proofs.number.digits.Given as goal

abbrev pub invariant-loop-byte : goal.invariant-loop-byte
invariant-loop-byte l = l.value ≤ l.most
