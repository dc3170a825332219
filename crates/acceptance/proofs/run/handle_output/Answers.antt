-- `run::handle_output`: the length bytes and the requests are the two parts of the output.
use mathlib.Core.Path.{ap, ◌∙◌}
use mathlib.Core.List.{List}
use Prim.Native.Nat.{ℕ}
use Rattle.node.specs.State.{state}
use Rattle.output.proofs.CompleteOutputs.{parts_covered, parts_requests}
use Rattle.acceptance.specs.SceneTheorem.{after_calls}
use Rattle.acceptance.specs.RunScene.{zero_buffer}
use Rattle.acceptance.proofs.run.handle_output.Goals as goal

pub handle_all-requires : goal.handle_all-requires
handle_all-requires c = parts_covered c.args.output.now c.from-start.ensures c.requires

pub returns : goal.returns
returns c =
    let a = c.args in
    c.handle_all.ensures
    ∙ ap (λ (rs : List (List ℕ)). after_calls (λ _. zero_buffer) rs (state a.node a.eeprom.now a.external.now)) (parts_requests a.output.now c.from-start.ensures)
