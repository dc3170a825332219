-- `receive::receive` meets its contract: proofs/Receiving has the invariant and its laws.
use Rattle.uart.specs.Progress.{receiver_of}
use Rattle.uart.proofs.Receiving.{Taken}
use Rattle.uart.proofs.receive.receive.Given as goal

abbrev pub invariant-loop-i : goal.invariant-loop-i
invariant-loop-i l = Taken l.fn.receiver l.bytes l.i (receiver_of l.progress)
