-- `record::lamps_ok` meets its contract. The invariant: `ok` is the test of every lamp, and of zeros from the count on.
use Prim.Native.Nat.{◌+◌}
use mathlib.Core.Path.{◌≡◌}
use mathlib.Core.Bool.{◌&&◌}
use Rattle.node.proofs.LampTests.{each_ok, zeros_to}
use Rattle.node.proofs.record.lamps_ok.Given as goal

abbrev pub invariant-loop-lamp : goal.invariant-loop-lamp
invariant-loop-lamp l = l.ok ≡ (each_ok l.fn.lamps && zeros_to l.count (l.count + l.lamp-index) l.fn.lamps)
