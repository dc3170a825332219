-- The sums over one more byte.
use Rattle.std.proofs.Common.{arith}
use Rattle.checksum.proofs.Blocks.{plain_sums_more}
use Rattle.checksum.proofs.sums.Sums.plain_sums.Goals as goal

pub loop-byte-preserved : goal.loop-byte-preserved
loop-byte-preserved c = record {
  low_max = omega arith;
  high_max = omega arith;
  added = plain_sums_more _ _ _ _ _ c.loop-byte-test.true c.from-low-in-loop-byte.ensures c.loop-byte.invariant.added;
}
