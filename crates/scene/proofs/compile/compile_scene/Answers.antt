-- `compile::compile_scene`: the steps of the scene.
use mathlib.Core.Path.{◌∙◌}
use native.Mathlib.Omega.{arith}
use Rattle.scene.proofs.Calls.{in_book}
use Rattle.scene.proofs.compile.compile_scene.Goals as goal

pub returns-clause-answer : goal.returns-clause-answer
returns-clause-answer c = c.compile_steps.ensures.answer ∙ rw c.scene_steps.ensures (in_book _ _ _ _ c.in_ok-check_book.ensures (omega arith))
