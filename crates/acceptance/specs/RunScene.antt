-- `run_scene`: compiles a scene for the node's own address and profile, then handles its requests in order.
use Rattle.std.specs.Prelude.{ℕ, List, cond, length, replicate, eqb, Result, Ok, Err}
use Rattle.dpa.specs.Frame.{longest_response}
use Rattle.memory.specs.declared.block.Memory.TheVariants.{Eeprom, External}
use Rattle.memory.specs.Block.{size_of}
use Rattle.node.specs.Node.{node_ok}
use Rattle.node.specs.declared.record.Node.{Node}
use Rattle.node.specs.State.{State, state}
use Rattle.book.specs.Book.{scene_of}
use Rattle.step.specs.Machine.{machine}
use Rattle.scene.specs.Call.{CompileResult, compile_for}
use Rattle.scene.specs.Answer.{compile_answer}
use Rattle.scene.specs.declared.compile.CompileError.{CompileError}
use Rattle.acceptance.specs.declared.run.SceneAnswer.{SceneAnswer}

-- the response buffer of each call: a scratch buffer of zeros
abbrev pub zero_buffer : List ℕ
zero_buffer = replicate longest_response 0

-- the result: the refusal, the number of a bad step, the state, and the output buffer
pub record SceneResult : Type 0 where
  pub refusal : ℕ
  pub step : ℕ
  pub after : State
  pub out : List ℕ

-- a result from its parts
abbrev pub result : ℕ → ℕ → State → List ℕ → SceneResult
result refusal step st out = record { refusal = refusal; step = step; after = st; out = out }

-- the result of a call for this node that returned r and left these memories and this output buffer: a refused call leaves the node
abbrev pub scene_result : Node → Result Node CompileError → (e x o : List ℕ) → SceneResult
scene_result node (Ok after) e x o = result 0 0 (state after e x) o
scene_result node (Err error) e x o = let refused = compile_answer (Err error) in result refused.refusal refused.step (state node e x) o

-- the result of a call that gave this answer and left these memories and this output buffer
abbrev pub answer_result : SceneAnswer → (e x o : List ℕ) → SceneResult
answer_result r e x o = result r.refusal r.step (state r.node e x) o

-- after compiling: a refusal of the compiler leaves the state unchanged, otherwise it is `done`
unfoldable pub after_compile : CompileResult → State → State → SceneResult
after_compile c st done = cond (eqb c.refusal 0) (result 0 0 done c.buffer) (result c.refusal c.step st c.buffer)

-- the node and the memories are tested before compiling (refusals 1 and 4); a scene that is run ends as the step machine does
unfoldable pub run_scene : List ℕ → ℕ → State → List ℕ → SceneResult
run_scene book k st out =
    cond (node_ok st.node)
    (cond (eqb (length st.eeprom) (size_of Eeprom))
    (cond (eqb (length st.external) (size_of External))
    (after_compile (compile_for book k st.node.settings.address st.node.settings.hwpid out) st (machine (scene_of book k) st))
    (result 4 0 st out))
    (result 4 0 st out))
    (result 1 0 st out)
