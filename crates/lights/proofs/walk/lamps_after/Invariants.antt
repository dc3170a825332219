-- `walk::lamps_after`: `LampsDone` is the invariant of its loop.
use Prim.Native.Nat.{◌-◌}
use lib.ListN.{length}
use Rattle.lights.proofs.LampsLoop.{LampsDone}
use Rattle.lights.proofs.walk.lamps_after.Given as goal

abbrev pub invariant-loop-walk : goal.invariant-loop-walk
invariant-loop-walk l = LampsDone l.implemented l.src l.initial.walk l.initial.after l.walk l.after

abbrev pub decreases-loop-walk : goal.decreases-loop-walk
decreases-loop-walk l = length l.src - l.walk.at
