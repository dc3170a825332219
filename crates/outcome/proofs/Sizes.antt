-- The response data of a request fits a frame, a request that is not answered has none, and a reported place is at most the length
-- of PData.
use mathlib.Core.Path.{◌≡◌, refl}
use mathlib.Core.List.{List, []}
use mathlib.Core.Bool.{true, false}
use Prim.Native.Nat.{ℕ, ◌≤◌}
use native.Mathlib.Omega.{arith}
use lib.ListN.{length}
use Rattle.dpa.specs.Frame.{pdata_max}
use Rattle.dpa.specs.Reply.{Reply}
use Rattle.memory.proofs.Requests.{request_max}
use Rattle.lights.proofs.Requests.{answer_max}
use Rattle.batch.specs.Batch.{Request}
use Rattle.batch.proofs.Selections.{place_max_from}
use Rattle.checksum.proofs.Checks.{check_max}
use Rattle.node.proofs.Nodes.{node_lamps}
use Rattle.node.specs.State.{State, SoundState, memory_of}
use Rattle.outcome.specs.Request.{peripheral_request, Outcome, code_check_request, execute}
use Rattle.outcome.proofs.Peripherals.{peripheral_cases}
use Rattle.outcome.proofs.Outcomes.{os_cases, execute_cases}

-- the data of a reply and of an outcome fits a frame
abbrev ReplyFits : Reply State → Type 0
ReplyFits a = length a.bytes ≤ pdata_max

abbrev OutcomeFits : Outcome → Type 0
OutcomeFits a = length a.bytes ≤ pdata_max

-- the data of a request to a peripheral fits a frame
peripheral_fits : (pnum pcmd : ℕ) (d : List ℕ) (st : State) → SoundState st → ReplyFits (peripheral_request pnum pcmd d st)
peripheral_fits pnum pcmd d st h =
    peripheral_cases pnum pcmd d st ReplyFits (λ m. request_max m d (memory_of m st) pcmd)
    (omega (arith, answer_max st.node.settings d st.node.lamps (node_lamps st.node h.node_valid) pcmd))
    (λ e. omega arith)

-- the response data of every request fits a frame
pub execute_fits : (i : Request) (st : State) → SoundState st → OutcomeFits (execute i st)
unfolding code_check_request
execute_fits i st h =
    execute_cases OutcomeFits st (λ e. omega arith) i
    (os_cases OutcomeFits st (λ e. omega arith) i.pcmd i.pdata (λ _. omega arith) (λ _ _ _. omega arith) (omega arith)
    (omega (arith, check_max st.external i.pdata)))
    (peripheral_fits i.pnum i.pcmd i.pdata st h)

-- a request that is not answered has no data
pub unanswered_empty : (i : Request) (st : State) → (execute i st).answered ≡ false → (execute i st).bytes ≡ []
unfolding code_check_request
unanswered_empty i st =
    let Empty : Outcome → Type 0 = λ a. a.answered ≡ false → a.bytes ≡ [] in
    execute_cases Empty st (λ _ _. refl) i
    (os_cases Empty st (λ _ _. refl) i.pcmd i.pdata (λ _ _. refl) (λ _ _ _ _. refl) (λ _. refl) (λ e. absurd (not_answered e)))
    (λ e. absurd (not_answered e))
  where
    not_answered : true ≡ false → ⊥
    not_answered e = cc

-- the reported place is at most the length of PData
pub execute_place : (i : Request) (st : State) → (execute i st).report.place ≤ length i.pdata
unfolding code_check_request
execute_place i st =
    let InPData : Outcome → Type 0 = λ a. a.report.place ≤ length i.pdata in
    execute_cases InPData st (λ e. omega arith) i
    (os_cases InPData st (λ e. omega arith) i.pcmd i.pdata (λ _. omega arith) (λ n _ h. place_max_from i.pdata n h) (omega arith) (omega arith))
    (omega arith)
