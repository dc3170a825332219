-- The requests of a scene, handled in order. With a node that they are for, each succeeds, and together they do what the steps of
-- the scene do; a node that they are not for stays unchanged.
use mathlib.Core.Path.{◌≡◌, refl, sym, ap, subst, ◌∙◌}
use mathlib.Core.Logic.{◌⊎◌}
use mathlib.Core.List.{List, [], ◌∷◌, ◌++◌, map}
use mathlib.Core.Bool.{true, false}
use Prim.Native.Nat.{ℕ, suc, ◌≤◌}
use native.Mathlib.Omega.{arith}
use lib.ListN.{length}
use Rattle.dpa.specs.declared.settings.Settings.{Settings}
use Rattle.dpa.specs.Frame.{longest_response, broadcast_nadr, frame}
use Rattle.dpa.specs.NodeSet.{node_set_size, selects}
use Rattle.dpa.specs.Pnum.{os_pnum}
use Rattle.dpa.specs.Lists.{All}
use Rattle.batch.specs.Batch.{Request, request_of, list_bytes}
use Rattle.batch.specs.Selective.{selective_pcmd}
use Rattle.batch.proofs.RoundTrip.{list_nonempty}
use Rattle.node.specs.State.{State, SoundState}
use Rattle.outcome.specs.Request.{hwpid_matches, batch_request, execute, handle_request}
use Rattle.outcome.proofs.SelectiveBatches.{not_selected_stays}
use Rattle.book.specs.declared.step.Step.{Step}
use Rattle.step.specs.Machine.{machine}
use Rattle.step.proofs.MachineLaws.{machine_append, machine_stays}
use Rattle.step.proofs.Faults.{Good}
use Rattle.entries.specs.Group.{concat}
use Rattle.entries.proofs.Groups.{concat_append}
use Rattle.entries.proofs.EntryGroups.{EntryGroup, joining_keeps}
use Rattle.output.specs.Requests.{Limits, joined_entries, batches_of, request_bytes, requests_of, selected_entry_limit, selected_list_limit, selected_requests}
use Rattle.output.proofs.Batches.{BatchRule, batches_rule, selected_limits, filling_keeps}
use Rattle.output.proofs.Sizes.{batch_fits}
use Rattle.acceptance.specs.SceneTheorem.{Success, AllSucceed, after_calls, MatchesMachine, Ignored, AllIgnored, StaysUnchanged}
use Rattle.acceptance.proofs.Batches.{AllPerform, entries_perform, batch_performs}
use Rattle.acceptance.proofs.OneRequest.{call_leaves, call_sound, call_succeeds, broadcast_ignored}

-- a call succeeds, leaves the state that the step machine reaches by these steps, and leaves it sound
pub record Done (pcmd a : ℕ) (s : Settings) (request : List ℕ) (steps : List Step) (st : State) (o : List ℕ) : Type 0 where
  pub success : Success pcmd a s request st o
  pub after : (handle_request request st o).after ≡ machine steps st
  pub sound : SoundState (handle_request request st o).after

-- For any two limits, and any PCMD and bytes in front of the list with which a node with settings s executes the list as a batch.
-- This is asked of readable lists only.
module _ {entry_max list_max : ℕ} {front : List ℕ} (limits : Limits entry_max list_max front) (pcmd a h : ℕ) (s : Settings)
    (addressed-to : (a ≡ s.address) ⊎ (a ≡ broadcast_nadr)) (hwpid-matches : hwpid_matches s h ≡ true)
    (as-batch : (entries : List Request) (st : State) → st.node.settings ≡ s
    → execute (request_of os_pnum pcmd h (front ++ list_bytes entries)) st ≡ batch_request (list_bytes entries) st)
    (performs : AllPerform h (EntryGroup entry_max)) where
  -- a request with a batch that joining and filling make
  pub request_done : (groups : List (List Step)) (st : State) (o : List ℕ) → BatchRule entry_max list_max h groups
      → SoundState st → st.node.settings ≡ s → longest_response ≤ length o → Done pcmd a s (request_bytes pcmd front a h groups) (concat groups) st o
  request_done groups st o b k e room =
      let list = list_bytes (joined_entries h groups) in
      let own : hwpid_matches st.node.settings h ≡ true = ap (λ (n : Settings). hwpid_matches n h) e ∙ hwpid-matches in
      let to : (a ≡ st.node.settings.address) ⊎ (a ≡ broadcast_nadr) = subst (λ (n : Settings). (a ≡ n.address) ⊎ (a ≡ broadcast_nadr)) (sym e) addressed-to in
      let executed = as-batch (joined_entries h groups) st e ∙ batch_performs h (EntryGroup entry_max) performs groups st b.entries k own in
      let length_max = (batch_fits limits (frame a os_pnum pcmd h) groups b).1 in
      record {
        success =
            subst (λ (n : Settings). Success pcmd a n (request_bytes pcmd front a h groups) st o) e
            (call_succeeds pcmd a h (front ++ list) st o k length_max room to executed
            (entries_perform h (EntryGroup entry_max) performs groups st b.entries k own).0);
        after = call_leaves pcmd a h (front ++ list) st o k length_max room to executed;
        sound = call_sound pcmd a h (front ++ list) st o k length_max room to executed;
      }

  requests_done : (bs : List (List (List Step))) (buffers : ℕ → List ℕ) (st : State)
      → All (BatchRule entry_max list_max h) bs → SoundState st → st.node.settings ≡ s → ((k : ℕ) → longest_response ≤ length (buffers k))
      → AllSucceed pcmd a s buffers (map (request_bytes pcmd front a h) bs) st
      × (after_calls buffers (map (request_bytes pcmd front a h) bs) st ≡ machine (concat (concat bs)) st)
  requests_done [] buffers st b k e room = (tt, refl)
  requests_done (groups ∷ bs) buffers st b k e room =
      let first = request_done groups st (buffers 0) b.0 k e (room 0) in
      let next = (handle_request (request_bytes pcmd front a h groups) st (buffers 0)).after in
      let same : next.node.settings ≡ s = ap (λ (t : State). t.node.settings) first.after ∙ (machine_stays (concat groups) st).settings ∙ e in
      let rest = requests_done bs (λ j. buffers (suc j)) next b.1 first.sound same (λ j. room (suc j)) in (
        (first.success, rest.0),
        rest.1
            ∙ ap (machine (concat (concat bs))) first.after
            ∙ sym (machine_append (concat groups) (concat (concat bs)) st)
            ∙ sym (ap (λ (l : List Step). machine l st) (concat_append groups (concat bs))),
      )

  -- the requests of good steps
  pub steps_done : (steps : List Step) (buffers : ℕ → List ℕ) (st : State)
      → All Good steps → SoundState st → st.node.settings ≡ s → ((k : ℕ) → longest_response ≤ length (buffers k))
      → MatchesMachine pcmd a buffers (requests_of entry_max list_max pcmd front a h steps) steps st
  steps_done steps buffers st all_valid k e room =
      let bs = batches_of entry_max list_max h steps in
      let executed = requests_done bs buffers st (batches_rule limits h steps all_valid) k e room in
      let whole : concat (concat bs) ≡ steps = ap concat (filling_keeps entry_max list_max h steps) ∙ joining_keeps entry_max steps in
      record {
        calls = subst (λ (n : Settings). AllSucceed pcmd a n buffers (requests_of entry_max list_max pcmd front a h steps) st) (sym e) executed.0;
        final = executed.1 ∙ ap (λ (l : List Step). machine l st) whole;
      }

-- The selective batches of a scene, and a node that the set does not name.
module _ (nodes : List ℕ) (size : length nodes ≡ node_set_size) (h : ℕ) (st : State) (k : SoundState st)
    (unnamed : selects nodes st.node.settings.address ≡ false) where
  abbrev selected_request : List (List Step) → List ℕ
  selected_request groups = request_bytes selective_pcmd nodes broadcast_nadr h groups

  request_ignored : (groups : List (List Step)) (o : List ℕ) → BatchRule selected_entry_limit selected_list_limit h groups → longest_response ≤ length o
      → Ignored (selected_request groups) st o
  request_ignored groups o b room =
      let list = list_bytes (joined_entries h groups) in
      broadcast_ignored selective_pcmd h (nodes ++ list) st o k (batch_fits (selected_limits nodes size) (frame broadcast_nadr os_pnum selective_pcmd h) groups b).1 room
      (not_selected_stays h nodes list size (omega (arith, list_nonempty (joined_entries h groups))) st unnamed)

  requests_ignored : (bs : List (List (List Step))) (buffers : ℕ → List ℕ) (st' : State) → st' ≡ st
      → All (BatchRule selected_entry_limit selected_list_limit h) bs → ((j : ℕ) → longest_response ≤ length (buffers j))
      → AllIgnored buffers (map selected_request bs) st' × (after_calls buffers (map selected_request bs) st' ≡ st)
  requests_ignored [] buffers st' e b room = (tt, e)
  requests_ignored (groups ∷ bs) buffers st' e b room =
      let first = subst (λ (t : State). Ignored (selected_request groups) t (buffers 0)) (sym e) (request_ignored groups (buffers 0) b.0 (room 0)) in
      let rest = requests_ignored bs (λ j. buffers (suc j)) (handle_request (selected_request groups) st' (buffers 0)).after (first.after ∙ e) b.1 (λ j. room (suc j)) in
      ((first, rest.0), rest.1)

  -- such a node ignores the requests of good steps
  pub steps_ignored : (steps : List Step) (buffers : ℕ → List ℕ) → All Good steps → ((j : ℕ) → longest_response ≤ length (buffers j))
      → StaysUnchanged buffers (selected_requests nodes h steps) st
  steps_ignored steps buffers good room =
      let all = requests_ignored (batches_of selected_entry_limit selected_list_limit h steps) buffers st refl (batches_rule (selected_limits nodes size) h steps good) room in
      record { calls = all.0; final = all.1 }
