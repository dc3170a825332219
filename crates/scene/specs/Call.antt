-- Document 01, "Scenes" and "Frames", with document 02, changes 1 and 3: the compile calls, their refusals and their output.
use Rattle.std.specs.Prelude.{Bool, cond, not, List, ℕ, ltb, leb, length, take}
use Rattle.dpa.specs.Lists.{overwrite_front}
use Rattle.dpa.specs.NodeSet.{node_set_ok}
use Rattle.dpa.specs.Settings.{address_ok}
use Rattle.book.specs.declared.step.Step.{Step}
use Rattle.book.specs.Book.{scene_count, book_ok, scene_of}
use Rattle.step.specs.Step.{StepsCheck, AllGood, Bad, first_bad_from}
use Rattle.output.specs.Requests.{scene_requests, selected_requests}
use Rattle.output.specs.Output.{output, min_output}
use Rattle.scene.specs.declared.compile.CompileAnswer.{CompileAnswer}

-- the result of a call: the refusal, the number of a bad step, the length of the output, and the buffer afterwards
pub record CompileResult : Type 0 where
  pub refusal : ℕ
  pub step : ℕ
  pub length : ℕ
  pub buffer : List ℕ

-- the result of a call that returned r and left `out` in the buffer
abbrev pub compile_result : CompileAnswer → List ℕ → CompileResult
compile_result r out = record { refusal = r.refusal; step = r.step; length = r.length; buffer = out }

-- the output of a call: the first `length` bytes of the buffer
abbrev pub output_of : CompileResult → List ℕ
output_of r = take r.length r.buffer

-- refused with this number and this step: nothing is written
abbrev pub refused_with : (r s : ℕ) (out : List ℕ) → CompileResult
refused_with r s out = record { refusal = r; step = s; length = 0; buffer = out }

-- an output at the front of the buffer; the bytes after it stay
abbrev pub output_in_buffer : List ℕ → List ℕ → CompileResult
output_in_buffer o out = record { refusal = 0; step = 0; length = length o; buffer = overwrite_front o out }

-- the fault of the first bad step, with its number; else refusal 9 if the buffer is too small; else the output
abbrev pub compile_steps : StepsCheck → List (List ℕ) → List ℕ → CompileResult
compile_steps (Bad j r) requests out = refused_with r j out
compile_steps AllGood requests out =
    cond (ltb (length out) min_output) (refused_with 9 0 out)
    (output_in_buffer (output requests) out)

-- scene k of book b, where `requests` turns steps into requests: refusal 6 for an ill-formed book, 7 if it has no scene k
unfoldable pub compile_scene : List ℕ → ℕ → (List Step → List (List ℕ)) → List ℕ → CompileResult
compile_scene b k requests out =
    cond (not (book_ok b)) (refused_with 6 0 out)
    (cond (leb (scene_count b) k) (refused_with 7 0 out)
    (compile_steps (first_bad_from 0 (scene_of b k)) (requests (scene_of b k)) out))

-- a call: refusal 1 for a target that is not valid, then the scene
unfoldable pub compile_to : Bool → List ℕ → ℕ → (List Step → List (List ℕ)) → List ℕ → CompileResult
compile_to valid b k requests out = cond (not valid) (refused_with 1 0 out) (compile_scene b k requests out)

-- scene k of book b for address a and profile h
abbrev pub compile_for : (b : List ℕ) (k a h : ℕ) (out : List ℕ) → CompileResult
compile_for b k a h out = compile_to (address_ok a) b k (scene_requests a h) out

-- for the nodes of a set and profile h
abbrev pub compile_selected : (b : List ℕ) (k : ℕ) (nodes : List ℕ) (h : ℕ) (out : List ℕ) → CompileResult
compile_selected b k nodes h out = compile_to (node_set_ok nodes) b k (selected_requests nodes h) out
