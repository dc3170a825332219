-- Condition 3 as one statement: `Condition3`, at the end of this file. A scene is compiled in two modes: for an address, into batches,
-- and for the nodes of a set, into broadcast selective batches. The statement has seven parts:
--   refusals           compiling for an address is refused exactly for the faults that the papers name, each with its own number
--   selected_refusals  the same of compiling for a set of nodes
--   faults             what 81 to 84 say about a step
--   steps              the steps without a fault are exactly those that the step machine executes, by a rule of its own
--   for_address        a node that handles the requests of a scene in order refuses none of them, reports no error for any entry in
--                      them, and ends in the state that the step machine ends in
--   selected           the same of a scene for a set of nodes and a node that the set names
--   not_selected       a node that the set does not name answers no call; the node, its memories and the buffers stay
-- Each of the last three is said of the requests that the compiling rule gives, and of those that are read back from the output of
-- the compile call, in any buffer.
-- Proved in proofs/Scenes (`condition_3`). proofs/Instance gives nodes and a book that meet all assumptions.
--
-- Sources: document 01, "Frames", "Scenes" and "Strength of the contracts"; document 02, changes 1 and 3. The statement is about what
-- the contracts say that the calls compute: `compile_for`, `compile_selected`, `output_of` (scene/specs/Call) and `requests_in`
-- (output/specs/Output), `handle_request` and `execute` (outcome/specs/Request); about the refusals of compiling (`Refusals`,
-- `SceneRule`, scene/specs/Refusals); and about the rules of a node set (`selects`, dpa/specs/NodeSet), of the book (`book_ok`,
-- book/specs/Book), of a step (`step_fault`, step/specs/Step), of compiling (`scene_requests`, `selected_requests`, output/specs/Requests)
-- and of the step machine (`step_formed`, `machine`, step/specs/Machine).
use Rattle.std.specs.Prelude.{ℕ, suc, ◌≤◌, ◌≡◌, ◌⊎◌, ◌↔◌, true, false, cond, List, [], ◌∷◌, length, eqb}
use Rattle.dpa.specs.declared.settings.Settings.{Settings}
use Rattle.dpa.specs.Lists.{overwrite_front, All}
use Rattle.dpa.specs.Frame.{response_header_size, longest_response, broadcast_nadr, any_hwpid, response_header}
use Rattle.dpa.specs.NodeSet.{node_set_size, selects, Selectable}
use Rattle.dpa.specs.Pnum.{os_pnum}
use Rattle.batch.specs.Batch.{batch_pcmd}
use Rattle.batch.specs.Selective.{selective_pcmd}
use Rattle.node.specs.State.{State, SoundState}
use Rattle.outcome.specs.Request.{frame_request, no_report, execute, handle_request}
use Rattle.book.specs.declared.step.Step.{Step}
use Rattle.book.specs.Book.{scene_of}
use Rattle.step.specs.Step.{FaultMeaning}
use Rattle.step.specs.Machine.{step_formed, machine}
use Rattle.output.specs.Requests.{scene_requests, selected_requests}
use Rattle.output.specs.Output.{requests_in}
use Rattle.scene.specs.Refusals.{Addressable, NoFault, SceneRule, Refusals}
use Rattle.scene.specs.Call.{CompileResult, output_of, compile_for, compile_selected}

-- ---- the requests of a scene, handled by a node

-- The assumptions: the node is sound and its memories have their sizes; lamps, timers and bytes are arbitrary. Call k has the
-- response buffer `buffers k`, large enough and with any contents. The scene is compiled for the node's address or for
-- broadcast, and for the node's profile or for any profile.
pub record Given (st : State) (buffers : ℕ → List ℕ) (a h : ℕ) : Type 0 where
  pub sound : SoundState st
  pub room : (k : ℕ) → longest_response ≤ length (buffers k)
  pub address : (a ≡ st.node.settings.address) ⊎ (a ≡ broadcast_nadr)
  pub profile : (h ≡ st.node.settings.hwpid) ⊎ (h ≡ any_hwpid)

-- A request to peripheral OS, sent to address a, that a node with settings s handles without any error.
pub record Success (pcmd a : ℕ) (s : Settings) (request : List ℕ) (st : State) (buffer : List ℕ) : Type 0 where
  -- the call is not refused
  pub refusal : (handle_request request st buffer).refusal ≡ 0
  -- neither the request nor any entry in it has an error, sent or not
  pub error : (execute (frame_request request) st).error ≡ 0
  pub entries : All (λ (e : ℕ). e ≡ 0) (execute (frame_request request) st).entries
  -- the response is a header without PData, the later bytes of the buffer unchanged; a broadcast has no response
  pub length : (handle_request request st buffer).length ≡ cond (eqb a broadcast_nadr) 0 response_header_size
  pub response : (handle_request request st buffer).response
      ≡ cond (eqb a broadcast_nadr) buffer (overwrite_front (response_header s os_pnum pcmd 0) buffer)
  -- nothing is reported (no load mark, reason 0, place 0), and the request is addressed to this node or to all
  pub report : (handle_request request st buffer).report ≡ no_report
  pub addressed : (handle_request request st buffer).addressed ≡ true

-- All requests succeed, in order: each call starts from the state that the one before left.
abbrev pub AllSucceed : ℕ → ℕ → Settings → (ℕ → List ℕ) → List (List ℕ) → State → Type 0
AllSucceed pcmd a s buffers [] st = Unit
AllSucceed pcmd a s buffers (r ∷ rs) st =
    Success pcmd a s r st (buffers 0)
    × AllSucceed pcmd a s (λ k. buffers (suc k)) rs (handle_request r st (buffers 0)).after

-- The state after these calls.
abbrev pub after_calls : (ℕ → List ℕ) → List (List ℕ) → State → State
after_calls buffers [] st = st
after_calls buffers (r ∷ rs) st = after_calls (λ k. buffers (suc k)) rs (handle_request r st (buffers 0)).after

-- Every call succeeds, and the final state is the one that the step machine reaches from the same start.
pub record MatchesMachine (pcmd a : ℕ) (buffers : ℕ → List ℕ) (requests : List (List ℕ)) (steps : List Step) (st : State) : Type 0 where
  pub calls : AllSucceed pcmd a st.node.settings buffers requests st
  pub final : after_calls buffers requests st ≡ machine steps st

-- A call that does nothing: it is not refused, there is no response and no report, and the buffer, the node and both memories stay.
pub record Ignored (request : List ℕ) (st : State) (buffer : List ℕ) : Type 0 where
  pub refusal : (handle_request request st buffer).refusal ≡ 0
  pub length : (handle_request request st buffer).length ≡ 0
  pub response : (handle_request request st buffer).response ≡ buffer
  pub report : (handle_request request st buffer).report ≡ no_report
  pub addressed : (handle_request request st buffer).addressed ≡ true
  pub after : (handle_request request st buffer).after ≡ st

-- Every call does nothing; each starts from the state that the one before left.
abbrev pub AllIgnored : (ℕ → List ℕ) → List (List ℕ) → State → Type 0
AllIgnored buffers [] st = Unit
AllIgnored buffers (r ∷ rs) st = Ignored r st (buffers 0) × AllIgnored (λ k. buffers (suc k)) rs (handle_request r st (buffers 0)).after

-- Every call does nothing, and the final state is the first.
pub record StaysUnchanged (buffers : ℕ → List ℕ) (requests : List (List ℕ)) (st : State) : Type 0 where
  pub calls : AllIgnored buffers requests st
  pub final : after_calls buffers requests st ≡ st

-- A claim about the requests of a scene. `requests` are those that the compiling rule gives; `call out` is the result of the
-- compile call with output buffer `out`.
pub record ClaimOfScene (book : List ℕ) (scene : ℕ) (requests : List (List ℕ)) (call : List ℕ → CompileResult)
    (Claim : List (List ℕ) → Type 0) : Type 0 where
  -- it holds for the requests of a scene without a fault
  pub rule : SceneRule book scene → Claim requests
  -- and for those read back from the output of any call that is not refused
  pub buffer : (out : List ℕ) → (call out).refusal ≡ 0 → Claim (requests_in (output_of (call out)))

-- A scene for an address.
abbrev pub AddressedTheorem : Type 0
AddressedTheorem =
    (st : State) (buffers : ℕ → List ℕ) (book : List ℕ) (scene a h : ℕ) → Given st buffers a h
    → ClaimOfScene book scene (scene_requests a h (scene_of book scene)) (compile_for book scene a h)
    (λ requests. MatchesMachine batch_pcmd a buffers requests (scene_of book scene) st)

-- A scene for a set of nodes, and a node that the set names. The requests are broadcasts.
abbrev pub SelectedTheorem : Type 0
SelectedTheorem =
    (st : State) (buffers : ℕ → List ℕ) (book : List ℕ) (scene : ℕ) (nodes : List ℕ) (h : ℕ) → Given st buffers broadcast_nadr h
    → length nodes ≡ node_set_size → selects nodes st.node.settings.address ≡ true
    → ClaimOfScene book scene (selected_requests nodes h (scene_of book scene)) (compile_selected book scene nodes h)
    (λ requests. MatchesMachine selective_pcmd broadcast_nadr buffers requests (scene_of book scene) st)

-- The same scene, and a node that the set does not name, of any profile.
abbrev pub NotSelectedTheorem : Type 0
NotSelectedTheorem =
    (st : State) (buffers : ℕ → List ℕ) (book : List ℕ) (scene : ℕ) (nodes : List ℕ) (h : ℕ) → SoundState st
    → ((k : ℕ) → longest_response ≤ length (buffers k)) → length nodes ≡ node_set_size → selects nodes st.node.settings.address ≡ false
    → ClaimOfScene book scene (selected_requests nodes h (scene_of book scene)) (compile_selected book scene nodes h)
    (λ requests. StaysUnchanged buffers requests st)

-- ---- condition 3

pub record Condition3 : Type 0 where
  pub refusals : (book : List ℕ) (scene a h : ℕ) (out : List ℕ) → Refusals (Addressable a) book scene out (compile_for book scene a h out)
  pub selected_refusals : (book : List ℕ) (scene : ℕ) (nodes : List ℕ) (h : ℕ) (out : List ℕ)
      → Refusals (Selectable nodes) book scene out (compile_selected book scene nodes h out)
  pub faults : (s : Step) → FaultMeaning s
  pub steps : (s : Step) → NoFault s ↔ (step_formed s ≡ true)
  pub for_address : AddressedTheorem
  pub selected : SelectedTheorem
  pub not_selected : NotSelectedTheorem
