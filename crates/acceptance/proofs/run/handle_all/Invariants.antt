-- The loop: the requests that are left lead from the state so far to the state after all of them.
use mathlib.Core.Path.{◌≡◌}
use Prim.Native.Nat.{◌≤◌}
use lib.ListN.{length, drop}
use Rattle.node.specs.State.{state}
use Rattle.output.specs.Output.{split_by, total_length}
use Rattle.acceptance.specs.SceneTheorem.{after_calls}
use Rattle.acceptance.specs.RunScene.{zero_buffer}
use Rattle.acceptance.proofs.run.handle_all.Given as goal

abbrev pub invariant-loop-len : goal.invariant-loop-len
invariant-loop-len l =
    let left = drop l.len-index l.lengths in
    (total_length left ≤ length l.rest)
    × (after_calls (λ _. zero_buffer) (split_by left l.rest) (state l.next l.eeprom l.external)
    ≡ after_calls (λ _. zero_buffer) (split_by l.lengths l.requests) (state l.fn.node l.fn.eeprom l.fn.external))
