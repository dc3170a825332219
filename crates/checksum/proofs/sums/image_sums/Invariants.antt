-- The bytes that are left, added to the sums, give the sums of the image. A block has at most 64 bytes.
use Rattle.std.proofs.Common.{◌≡◌, ◌<◌, ◌≤◌}
use Rattle.std.specs.Slice.Iter.{chunks_rest, chunks_size}
use Rattle.checksum.specs.Sums.{sums, start}
use Rattle.checksum.specs.Blocks.{block_max}
use Rattle.checksum.proofs.sums.image_sums.Given as goal

abbrev pub invariant-loop-block : goal.invariant-loop-block
invariant-loop-block l = record {
  some : 0 < chunks_size l.block-iterator;
  size_max : chunks_size l.block-iterator ≤ block_max;
  rest : sums l.sums (chunks_rest l.block-iterator) ≡ sums (start l.initial_low) l.image;
}
