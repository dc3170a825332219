-- `check_byte::crc_block` meets its contract.
use borrow.Author.Rules.{rules}
use Rattle.crc.proofs.CheckBytes.{block_sum}
use Rattle.crc.proofs.check_byte.crc_block.Goals as goal

pub returns : goal.returns
returns c = rw (c.shifted.ensures, c.shifted-2.ensures, c.shifted-3.ensures, c.shifted-4.ensures) (block_sum c.args.crc c.args.block.now (search rules))
