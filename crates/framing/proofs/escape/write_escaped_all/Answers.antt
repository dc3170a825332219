-- `escape::write_escaped_all` meets its contract: proofs/Escapes has the invariant and its laws.
use Rattle.framing.proofs.Escapes.{write_room, write_next, write_end}
use Rattle.framing.proofs.escape.write_escaped_all.Goals as goal

pub write_escaped-next-requires : goal.write_escaped-next-requires
write_escaped-next-requires c = write_room c.loop-byte.invariant c.loop-byte-test.true c.requires

pub loop-byte-preserved : goal.loop-byte-preserved
loop-byte-preserved c = write_next c.loop-byte.invariant c.loop-byte-test.true _ _ c.write_escaped-next.ensures.0 c.write_escaped-next.ensures.1

pub returns : goal.returns
returns c = write_end c.loop-byte.invariant c.loop-byte-test.false
