-- The law `block_sums_lem`.
use Rattle.std.proofs.Common.{sym, ap, ◌∙◌, arith}
use Rattle.checksum.specs.Blocks.{reduce_sums}
use Rattle.checksum.proofs.Blocks.{block_sums_lem}
use Rattle.checksum.proofs.sums.Sums.add_block.Goals as goal

pub returns : goal.returns
returns c =
    let a = c.args in
    rw (c.reduce.ensures, c.reduce-2.ensures)
    (ap reduce_sums c.plain_sums-plain.ensures ∙ sym (block_sums_lem a.self a.block.now (omega arith) (omega arith) (λ i. (c.type_inv.block i).fits)))
