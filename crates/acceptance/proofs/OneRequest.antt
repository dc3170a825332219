-- One request to peripheral OS, unicast or broadcast: if it is executed without an error, the call succeeds; if it is a broadcast that
-- changes and reports nothing, the call does nothing.
use mathlib.Core.Path.{◌≡◌, refl, sym, ap, subst, ◌∙◌}
use mathlib.Core.Logic.{◌⊎◌, inl, inr}
use mathlib.Core.List.{List, ◌++◌}
use mathlib.Core.Bool.{Bool, true, false, cond}
use Prim.Native.Nat.{ℕ, ◌≤◌}
use native.Mathlib.Omega.{arith}
use lib.Dec.{eqb}
use lib.ListN.{length}
use borrow.Author.Tests.{eq-eqb, ne_eqb, le-ltb, le-leb}
use Rattle.dpa.specs.declared.settings.Settings.{Settings}
use Rattle.dpa.specs.declared.frame.Frame.{Frame}
use Rattle.dpa.specs.Lists.{overwrite_front, All}
use Rattle.dpa.specs.Frame.{frame, header_bytes, header_of, header_size, longest_frame, response_header_size, longest_response, broadcast_nadr, frame_fits, response_header}
use Rattle.dpa.specs.Pnum.{os_pnum}
use Rattle.dpa.proofs.Bool.{both}
use Rattle.dpa.proofs.Headers.{read_written}
use Rattle.dpa.proofs.Ranges.{settings_facts}
use Rattle.memory.specs.declared.block.Memory.TheVariants.{Eeprom, External}
use Rattle.memory.specs.Block.{size_of}
use Rattle.batch.specs.Batch.{Request, request_of}
use Rattle.node.specs.State.{State, SoundState}
use Rattle.node.proofs.Nodes.{node_settings}
use Rattle.outcome.specs.Request.{frame_request, no_report, Outcome, execute, CallResult, unanswered_result, unicast_result, request_refusal, call_refusal, handle_request}
use Rattle.outcome.proofs.Calls.{frame_broadcast, frame_unicast, call_accepted}
use Rattle.outcome.proofs.Soundness.{execute_sound}
use Rattle.acceptance.specs.SceneTheorem.{Success, Ignored}
use Rattle.acceptance.proofs.Batches.{no_error_outcome}

-- a sound state, a frame of a valid size and a response buffer with room: the call is not refused
not_refused : (f : List ℕ) (st : State) (o : List ℕ) → SoundState st → header_size ≤ length f → length f ≤ longest_frame → longest_response ≤ length o → call_refusal f st o ≡ 0
unfolding request_refusal frame_fits
not_refused f st o k lo hi room =
    rw (
      k.node_valid,
      both (le-leb header_size (length f) lo) (le-leb (length f) longest_frame hi),
      le-ltb (length o) longest_response room,
      eq-eqb (length st.eeprom) (size_of Eeprom) k.eeprom_sized,
      eq-eqb (length st.external) (size_of External) k.external_sized,
    )

-- the result of a call by its address: no response to a broadcast
abbrev result_at : ℕ → Settings → Request → Outcome → List ℕ → CallResult
result_at a s i x o = cond (eqb a broadcast_nadr) (unanswered_result x o) (unicast_result s i x o)

-- a call that is not refused, at the node's address or at the broadcast address
result_at_lem : (f : List ℕ) (st : State) (o : List ℕ) → SoundState st → call_refusal f st o ≡ 0
    → (a : ℕ) → (header_of f).nadr ≡ a → (a ≡ st.node.settings.address) ⊎ (a ≡ broadcast_nadr)
    → handle_request f st o ≡ result_at a st.node.settings (frame_request f) (execute (frame_request f) st) o
result_at_lem f st o k z a e (inl own) =
    let max = (settings_facts st.node.settings (node_settings st.node k.node_valid)).address_max in
    rw (ne_eqb a broadcast_nadr (λ q. omega arith)) (call_accepted f st o z ∙ frame_unicast f st o (λ q. omega arith) (e ∙ own))
result_at_lem f st o k z a e (inr all) = rw (eq-eqb a broadcast_nadr all) (call_accepted f st o z ∙ frame_broadcast f st o (e ∙ all))

-- the fields of that result, without an error and without PData
result_fields : (s : Settings) (i : Request) (end : State) (es o : List ℕ) (b : Bool)
    → let c : CallResult = cond b (unanswered_result (no_error_outcome end es) o) (unicast_result s i (no_error_outcome end es) o) in
    (c.refusal ≡ 0) × (c.length ≡ cond b 0 response_header_size) × (c.response ≡ cond b o (overwrite_front (response_header s i.pnum i.pcmd 0) o))
    × (c.report ≡ no_report) × (c.addressed ≡ true) × (c.after ≡ end)
result_fields s i end es o true = (refl, refl, refl, refl, refl, refl)
result_fields s i end es o false = (refl, refl, refl, refl, refl, refl)

module _ (pcmd a h : ℕ) (pdata : List ℕ) (st : State) (o : List ℕ) (k : SoundState st)
    (length_max : length (header_bytes (frame a os_pnum pcmd h) ++ pdata) ≤ longest_frame) (room : longest_response ≤ length o)
    (addressed-to : (a ≡ st.node.settings.address) ⊎ (a ≡ broadcast_nadr)) where
  abbrev request : List ℕ
  request = header_bytes (frame a os_pnum pcmd h) ++ pdata

  header_read : header_of request ≡ frame a os_pnum pcmd h
  header_read = read_written (frame a os_pnum pcmd h) pdata

  -- the request_of in the frame is this one
  request_read : execute (frame_request request) st ≡ execute (request_of os_pnum pcmd h pdata) st
  request_read = ap (λ (x : Frame). execute (request_of x.pnum x.pcmd x.hwpid pdata) st) header_read

  call_result_lem : {x : Outcome} → execute (request_of os_pnum pcmd h pdata) st ≡ x → handle_request request st o ≡ result_at a st.node.settings (frame_request request) x o
  call_result_lem executed =
      result_at_lem request st o k (not_refused request st o k (omega arith) length_max room) a (ap (λ (x : Frame). x.nadr) header_read) addressed-to
      ∙ ap (λ (x : Outcome). result_at a st.node.settings (frame_request request) x o) (request_read ∙ executed)

  module _ {end : State} {es : List ℕ} (executed : execute (request_of os_pnum pcmd h pdata) st ≡ no_error_outcome end es) where
    request_executed : execute (frame_request request) st ≡ no_error_outcome end es
    request_executed = request_read ∙ executed

    -- the call leaves the state that executing leaves
    pub call_leaves : (handle_request request st o).after ≡ end
    call_leaves =
        ap (λ (c : CallResult). c.after) (call_result_lem executed)
        ∙ (result_fields st.node.settings (frame_request request) end es o (eqb a broadcast_nadr)).5

    -- which is sound
    pub call_sound : SoundState (handle_request request st o).after
    call_sound = subst SoundState (ap (λ (x : Outcome). x.after) request_executed ∙ sym call_leaves) (execute_sound (frame_request request) st k)

    -- if no entry has an error, the call succeeds
    pub call_succeeds : All (λ (e : ℕ). e ≡ 0) es → Success pcmd a st.node.settings request st o
    call_succeeds none =
        let is = result_fields st.node.settings (frame_request request) end es o (eqb a broadcast_nadr) in
        let c = call_result_lem executed in
        record {
          refusal = ap (λ (c : CallResult). c.refusal) c ∙ is.0;
          error = ap (λ (x : Outcome). x.error) request_executed;
          entries = subst (λ (x : Outcome). All (λ (e : ℕ). e ≡ 0) x.entries) (sym request_executed) none;
          length = ap (λ (c : CallResult). c.length) c ∙ is.1;
          response = ap (λ (c : CallResult). c.response) c ∙ is.2;
          report = ap (λ (c : CallResult). c.report) c ∙ is.3;
          addressed = ap (λ (c : CallResult). c.addressed) c ∙ is.4;
        }

-- a broadcast whose execution leaves the state and reports nothing does nothing
pub broadcast_ignored : (pcmd h : ℕ) (pdata : List ℕ) (st : State) (o : List ℕ) → SoundState st
    → length (header_bytes (frame broadcast_nadr os_pnum pcmd h) ++ pdata) ≤ longest_frame → longest_response ≤ length o
    → ((execute (request_of os_pnum pcmd h pdata) st).after ≡ st) × ((execute (request_of os_pnum pcmd h pdata) st).report ≡ no_report)
    → Ignored (header_bytes (frame broadcast_nadr os_pnum pcmd h) ++ pdata) st o
broadcast_ignored pcmd h pdata st o k length_max room stays =
    let c = call_result_lem pcmd broadcast_nadr h pdata st o k length_max room (inr refl) refl in
    record {
      refusal = ap (λ (c : CallResult). c.refusal) c;
      length = ap (λ (c : CallResult). c.length) c;
      response = ap (λ (c : CallResult). c.response) c;
      report = ap (λ (c : CallResult). c.report) c ∙ stays.1;
      addressed = ap (λ (c : CallResult). c.addressed) c;
      after = ap (λ (c : CallResult). c.after) c ∙ stays.0;
    }
