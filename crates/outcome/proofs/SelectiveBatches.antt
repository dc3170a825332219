-- A selective batch: a node that the set does not name does nothing, and a node that it names treats the list as a batch.
use mathlib.Core.Path.{◌≡◌, refl, sym, ap, subst, ◌∙◌}
use mathlib.Core.Logic.{◌⊎◌, inl, inr}
use mathlib.Core.List.{List, ◌++◌}
use mathlib.Core.Bool.{true, false}
use Prim.Native.Nat.{ℕ, ◌≤◌}
use native.Mathlib.Omega.{arith}
use lib.Dec.{eqb}
use lib.ListN.{length}
use lib.Seq.{drop_at}
use borrow.Author.Tests.{eqb-true, eqb-false}
use Rattle.dpa.specs.declared.frame.Frame.{Frame}
use Rattle.dpa.specs.Frame.{broadcast_nadr, frame, header_bytes, header_of}
use Rattle.dpa.specs.NodeSet.{node_set_size, selects}
use Rattle.dpa.specs.Pnum.{os_pnum}
use Rattle.dpa.proofs.Bool.{by_test}
use Rattle.dpa.proofs.Headers.{read_written}
use Rattle.batch.specs.Batch.{request_of, reading, shift_fault, Sound}
use Rattle.batch.proofs.Selections.{not_named, named_list}
use Rattle.node.specs.State.{State}
use Rattle.batch.specs.Selective.{selective_pcmd}
use Rattle.outcome.specs.Request.{hwpid_matches, no_report, Outcome, list_request, batch_request, unanswered_outcome, execute, frame_request, unanswered_result, unicast_result, handle_frame, call_refusal, handle_request}
use Rattle.outcome.proofs.Outcomes.{list_runs, batch_runs, selective_as, os_selective, execute_os, execute_mismatch}
use Rattle.outcome.proofs.Calls.{frame_broadcast, frame_unicast, call_accepted}

-- a node set in front of a list, which has at least one byte
module _ (h : ℕ) (set list : List ℕ) (size : length set ≡ node_set_size) (some : 1 ≤ length list) (st : State) where
  abbrev executed : Outcome
  executed = execute (request_of os_pnum selective_pcmd h (set ++ list)) st

  module _ (own : hwpid_matches st.node.settings h ≡ true) where
    -- the node is not named: whatever the list is, nothing is done and nothing is answered
    pub not_selected : selects set st.node.settings.address ≡ false → executed ≡ unanswered_outcome st
    not_selected e =
        execute_os (request_of os_pnum selective_pcmd h (set ++ list)) st own refl
        ∙ os_selective selective_pcmd (set ++ list) st refl
        ∙ selective_as (set ++ list) st (not_named set list size some st.node.settings.address e)

    -- the node is named: the list is that of a batch, and the place of its fault counts in PData
    pub selected : selects set st.node.settings.address ≡ true → executed ≡ list_request (shift_fault node_set_size (reading list).check) list st
    selected e =
        execute_os (request_of os_pnum selective_pcmd h (set ++ list)) st own refl
        ∙ os_selective selective_pcmd (set ++ list) st refl
        ∙ selective_as (set ++ list) st (named_list set list size some st.node.settings.address e)
        ∙ ap (λ (l : List ℕ). list_request (shift_fault node_set_size (reading list).check) l st) (drop_at set list node_set_size size)

    -- so a list that can be read is executed as a batch
    pub selected_as_batch : selects set st.node.settings.address ≡ true → (reading list).check ≡ Sound → executed ≡ batch_request list st
    selected_as_batch e sound =
        selected e
        ∙ list_runs (shift_fault node_set_size (reading list).check) list st (ap (shift_fault node_set_size) sound)
        ∙ sym (batch_runs list st (λ z. omega arith) sound)

  -- a node that is not named, of any profile, changes and reports nothing
  pub not_selected_stays : selects set st.node.settings.address ≡ false → (executed.after ≡ st) × (executed.report ≡ no_report)
  not_selected_stays e =
      by_test (hwpid_matches st.node.settings h)
      (λ own. (ap (λ (a : Outcome). a.after) (not_selected own e), ap (λ (a : Outcome). a.report) (not_selected own e)))
      (λ other. let z = execute_mismatch (request_of os_pnum selective_pcmd h (set ++ list)) st other in
      (ap (λ (a : Outcome). a.after) z, ap (λ (a : Outcome). a.report) z))

-- a call whose request is not answered: no response, also to the node's own address, and nothing changes
unanswered_call : (f : List ℕ) (st : State) (o : List ℕ) → call_refusal f st o ≡ 0
    → ((header_of f).nadr ≡ st.node.settings.address) ⊎ ((header_of f).nadr ≡ broadcast_nadr)
    → execute (frame_request f) st ≡ unanswered_outcome st → handle_request f st o ≡ unanswered_result (unanswered_outcome st) o
unanswered_call f st o z to e = call_accepted f st o z ∙ by_test (eqb (header_of f).nadr broadcast_nadr) all (own to)
  where
    all : eqb (header_of f).nadr broadcast_nadr ≡ true → handle_frame f st o ≡ unanswered_result (unanswered_outcome st) o
    all t = frame_broadcast f st o (eqb-true _ _ t) ∙ ap (λ (a : Outcome). unanswered_result a o) e

    own : ((header_of f).nadr ≡ st.node.settings.address) ⊎ ((header_of f).nadr ≡ broadcast_nadr) → eqb (header_of f).nadr broadcast_nadr ≡ false
        → handle_frame f st o ≡ unanswered_result (unanswered_outcome st) o
    own (inl q) t =
        frame_unicast f st o (eqb-false _ _ t) q ∙ ap (λ (a : Outcome). unicast_result st.node.settings (frame_request f) a o) e
    own (inr q) t = absurd (eqb-false (header_of f).nadr broadcast_nadr t q)

-- a selective batch that does not name the node: no response, also at its own address, and nothing changes, whatever the list is
pub not_selected_call : (a h : ℕ) (set list : List ℕ) (st : State) (o : List ℕ) → length set ≡ node_set_size → 1 ≤ length list
    → (a ≡ st.node.settings.address) ⊎ (a ≡ broadcast_nadr) → hwpid_matches st.node.settings h ≡ true
    → selects set st.node.settings.address ≡ false
    → let f = header_bytes (frame a os_pnum selective_pcmd h) ++ (set ++ list) in
    call_refusal f st o ≡ 0 → handle_request f st o ≡ unanswered_result (unanswered_outcome st) o
not_selected_call a h set list st o size some to own e z =
    let header = frame a os_pnum selective_pcmd h in
    let f = header_bytes header ++ (set ++ list) in
    let read : header_of f ≡ header = read_written header (set ++ list) in
    unanswered_call f st o z (subst (λ (n : ℕ). (n ≡ st.node.settings.address) ⊎ (n ≡ broadcast_nadr)) (sym (ap (λ (x : Frame). x.nadr) read)) to)
    (ap (λ (x : Frame). execute (request_of x.pnum x.pcmd x.hwpid (set ++ list)) st) read ∙ not_selected h set list size some st own e)
