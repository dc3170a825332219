-- `escape::write_escaped_all` meets its contract: proofs/Escapes has the invariant and its laws.
use Rattle.framing.proofs.Escapes.{Unwritten}
use Rattle.framing.proofs.escape.write_escaped_all.Given as goal

abbrev pub invariant-loop-byte : goal.invariant-loop-byte
invariant-loop-byte l = Unwritten l.message l.initial.out l.at l.out l.next l.byte-index
