-- A request with an error and a refused call leave the node and both memories as they were.
use mathlib.Core.Path.{◌≡◌, refl, ap, sym, ◌∙◌}
use mathlib.Core.List.{List, []}
use mathlib.Core.Bool.{true}
use Prim.Native.Nat.{ℕ}
use Rattle.dpa.specs.Reply.{Reply, Harmless, error_reply, map_state}
use Rattle.memory.proofs.Requests.{request_harmless}
use Rattle.lights.proofs.Requests as lights
use Rattle.checksum.specs.Check.{code_check}
use Rattle.checksum.proofs.Checks.{check_harmless}
use Rattle.batch.specs.Batch.{Request, ListCheck, Sound}
use Rattle.node.specs.Node.{with_lamps}
use Rattle.node.specs.State.{State, with_node, memory_of, with_memory}
use Rattle.outcome.specs.Request.{peripheral_request, execute_entry, load_report, fault_report, no_report, Outcome, outcome, reply_only, list_request, code_check_request, execute, frame_request, CallResult, unhandled_result, call_refusal, handle_request}
use Rattle.outcome.proofs.Peripherals.{memory_same, peripheral_cases}
use Rattle.outcome.proofs.BatchEntries.{entry_cases}
use Rattle.outcome.proofs.Outcomes.{list_broken, os_cases, execute_cases}
use Rattle.outcome.proofs.Calls.{call_refused, call_cases}

-- a harmless request to a part of a state is harmless to the state
harmless_mapped : {S T : Type 0} (put : S → T) (s : S) (t : T) (a : Reply S) → put s ≡ t → Harmless s a → Harmless t (map_state put a)
harmless_mapped put s t a e h n = (ap put (h n).0 ∙ e, (h n).1)

-- a request to a peripheral with an error changes nothing and has no data
pub peripheral_harmless : (pnum pcmd : ℕ) (d : List ℕ) (st : State) → Harmless st (peripheral_request pnum pcmd d st)
peripheral_harmless pnum pcmd d st =
    peripheral_cases pnum pcmd d st (λ (a : Reply State). Harmless st a)
    (λ m. harmless_mapped (with_memory m st) (memory_of m st) st _ (memory_same m st) (request_harmless m d (memory_of m st) pcmd))
    (harmless_mapped (λ ls. with_node st (with_lamps st.node ls)) st.node.lamps st _ refl (lights.request_harmless st.node.settings d st.node.lamps pcmd))
    (λ e n. (refl, refl))

-- an entry of a batch with an error changes nothing and has no data
pub entry_harmless : (i : Request) (st : State) → Harmless st (execute_entry i st)
entry_harmless i st =
    entry_cases i st (λ (a : Reply State). Harmless st a) (peripheral_harmless i.pnum i.pcmd i.pdata st) (λ n. (refl, refl))

-- a list that cannot be read runs nothing, in a batch and in a selective batch
pub list_unread : (check : ListCheck) (list : List ℕ) (st : State) → ¬ (check ≡ Sound)
    → ((list_request check list st).after ≡ st) × ((list_request check list st).entries ≡ [])
list_unread check list st n = let e = list_broken check list st n in (ap (λ (a : Outcome). a.after) e, ap (λ (a : Outcome). a.entries) e)

-- an outcome with an error: nothing changed, no data, no entry ran, no load mark
abbrev HarmlessOutcome : State → Outcome → Type 0
HarmlessOutcome st a = (a.error ≡ 0 → ⊥) → a ≡ outcome (error_reply st a.error) [] (fault_report a.report.reason a.report.place)

-- a code check with an error
check_outcome_harmless : (d : List ℕ) (st : State) → HarmlessOutcome st (code_check_request d st)
unfolding code_check_request
check_outcome_harmless d st n =
    let h = check_harmless st.external d n in
    λ j. record { answered = true; after = st; error = (code_check st.external d).error; bytes = h.1 j; entries = []; report = load_report (h.0 j) }

-- a request to a peripheral with an error
peripheral_outcome_harmless : (pnum pcmd : ℕ) (d : List ℕ) (st : State) → HarmlessOutcome st (reply_only (peripheral_request pnum pcmd d st))
peripheral_outcome_harmless pnum pcmd d st n =
    let h = peripheral_harmless pnum pcmd d st n in
    λ j. record { answered = true; after = h.0 j; error = (peripheral_request pnum pcmd d st).error; bytes = h.1 j; entries = []; report = no_report }

-- a request with an error changes nothing, has no data, ran no entry and has no load mark
pub execute_harmless : (i : Request) (st : State) → ((execute i st).error ≡ 0 → ⊥)
    → execute i st ≡ outcome (error_reply st (execute i st).error) [] (fault_report (execute i st).report.reason (execute i st).report.place)
execute_harmless i st =
    execute_cases (HarmlessOutcome st) st (λ e n. refl) i
    (os_cases (HarmlessOutcome st) st (λ e n. refl) i.pcmd i.pdata (λ _ n. absurd (n refl)) (λ _ _ _ n. refl) (λ n. absurd (n refl))
    (check_outcome_harmless i.pdata st))
    (peripheral_outcome_harmless i.pnum i.pcmd i.pdata st)

-- a call whose request has an error leaves the state as it was, whether the ErrN is sent or not
pub error_keeps : (f : List ℕ) (st : State) (o : List ℕ) → ((execute (frame_request f) st).error ≡ 0 → ⊥) → (handle_request f st o).after ≡ st
error_keeps f st o n =
    let e : (execute (frame_request f) st).after ≡ st = ap (λ (a : Outcome). a.after) (execute_harmless (frame_request f) st n) in
    call_cases (λ (a : CallResult). a.after ≡ st) f st o (λ k. refl) (λ _. e) (λ _. e)

-- a refused call changes nothing
pub refused_keeps : (f : List ℕ) (st : State) (o : List ℕ) → (call_refusal f st o ≡ 0 → ⊥) → handle_request f st o ≡ unhandled_result st (call_refusal f st o) o
refused_keeps f st o n = sym (call_refused f st o refl n)
