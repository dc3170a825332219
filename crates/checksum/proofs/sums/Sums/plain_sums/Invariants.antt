-- The plain sums of the bytes before the current one. The bounds keep both sums in u32.
use Rattle.std.proofs.Common.{◌≡◌, ◌+◌, ◌*◌, ◌≤◌, take}
use Rattle.checksum.specs.Blocks.{plain, plain_sums}
use Rattle.checksum.proofs.sums.Sums.plain_sums.Given as goal

abbrev pub invariant-loop-byte : goal.invariant-loop-byte
invariant-loop-byte l = record {
  low_max : l.low ≤ 255 + 255 * l.byte-index;
  high_max : l.high ≤ 255 + 16575 * l.byte-index;
  added : plain l.low l.high ≡ plain_sums (plain l.initial.low l.initial.high) (take l.byte-index l.block);
}
