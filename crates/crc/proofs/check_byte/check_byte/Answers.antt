-- `check_byte::check_byte` meets its contract: blocks, then what is left.
use Rattle.std.proofs.Common.{rules}
use borrow.Author.Tests.{tests}
use Rattle.std.proofs.lemmas.Iterator.{YieldsList-from_slice}
use Rattle.std.proofs.lemmas.Iterator.Consumers.{fold_from_yields_List}
use Rattle.crc.specs.CheckByte.{crc_byte, crc_bytes}
use Rattle.crc.proofs.CheckBytes.{message_added}
use Rattle.crc.proofs.check_byte.check_byte.Goals as goal

pub returns : goal.returns
returns c =
    message_added c.args.bytes.now _ _ _ _ c.as_chunks.ensures.front c.as_chunks.ensures.back
    (fold_from_yields_List _ crc_bytes _ c.fold-crc.result c.fold-crc.ensures.ran (YieldsList-from_slice _ c.iter.ensures.rest) (λ a x b q k. search (rules, tests)))
    (fold_from_yields_List _ crc_byte _ c.fold.result c.fold.ensures.ran (YieldsList-from_slice _ c.iter-2.ensures.rest) (λ a x b q k. search (rules, tests)))
