-- Condition 3: its parts.
use mathlib.Core.Path.{◌≡◌, refl, sym, ap, subst, ◌∙◌}
use mathlib.Core.Logic.{◌⊎◌, inl, inr, ◌↔◌}
use mathlib.Core.List.{List}
use mathlib.Core.Bool.{Bool, true, or-true}
use Prim.Native.Nat.{ℕ}
use native.Mathlib.Omega.{arith}
use lib.Dec.{eqb}
use borrow.Author.Tests.{eq-eqb, eqb-true}
use Rattle.dpa.specs.Frame.{broadcast_nadr, any_hwpid}
use Rattle.dpa.specs.NodeSet.{selects, node_set_ok, Selectable}
use Rattle.dpa.specs.Pnum.{os_pnum}
use Rattle.dpa.specs.declared.settings.Settings.{Settings}
use Rattle.dpa.specs.Settings.{address_ok}
use Rattle.dpa.proofs.NodeSets.{set_ok_exact}
use Rattle.batch.specs.Batch.{request_of, list_bytes, Reading, batch_pcmd}
use Rattle.batch.specs.Selective.{selective_pcmd}
use Rattle.batch.proofs.RoundTrip.{round_trip, list_nonempty}
use Rattle.node.specs.State.{State}
use Rattle.outcome.specs.Request.{hwpid_matches, batch_request, execute}
use Rattle.outcome.proofs.Outcomes.{execute_os, os_batch}
use Rattle.outcome.proofs.SelectiveBatches.{selected_as_batch}
use Rattle.book.specs.declared.step.Step.{Step}
use Rattle.book.specs.Book.{scene_of}
use Rattle.step.specs.Step.{no_fault, step_fault}
use Rattle.step.specs.Machine.{step_formed}
use Rattle.step.proofs.Faults.{fault_meaning, good_formed}
use Rattle.output.specs.Requests.{scene_requests, selected_requests}
use Rattle.output.proofs.Batches.{batch_limits, selected_limits}
use Rattle.scene.specs.Call.{compile_to}
use Rattle.scene.specs.Refusals.{Addressable, NoFault, SceneRule}
use Rattle.scene.proofs.Calls.{buffer_back}
use Rattle.scene.proofs.Refusals.{addressable, no_fault_good, rule_faultless, target_refusals, compile_refusals, selected_refusals}
use Rattle.acceptance.specs.SceneTheorem.{MatchesMachine, StaysUnchanged, ClaimOfScene, AddressedTheorem, SelectedTheorem, NotSelectedTheorem, Condition3}
use Rattle.acceptance.proofs.Entries.{group_performs}
use Rattle.acceptance.proofs.AllRequests.{steps_done, steps_ignored}

-- a node accepts its own profile and the one for all nodes
own_profile : (s : Settings) (h : ℕ) → (h ≡ s.hwpid) ⊎ (h ≡ any_hwpid) → hwpid_matches s h ≡ true
unfolding hwpid_matches
own_profile s h (inl e) = rw (eq-eqb h s.hwpid e)
own_profile s h (inr e) = rw (eq-eqb h any_hwpid e) (or-true (eqb h s.hwpid))

-- a batch request is executed as its list
batch_executed : (h : ℕ) (d : List ℕ) (st : State) → hwpid_matches st.node.settings h ≡ true → execute (request_of os_pnum batch_pcmd h d) st ≡ batch_request d st
batch_executed h d st own = execute_os (request_of os_pnum batch_pcmd h d) st own refl ∙ os_batch batch_pcmd d st refl

-- what holds for the requests of the compiling rule holds for those in the output, since these are the same
of_scene : (Target : Type 0) (valid : Bool) → Target ↔ (valid ≡ true) → (book : List ℕ) (scene : ℕ) (requests : List Step → List (List ℕ))
    (Claim : List (List ℕ) → Type 0) → (SceneRule book scene → Claim (requests (scene_of book scene)))
    → ClaimOfScene book scene (requests (scene_of book scene)) (compile_to valid book scene requests) Claim
of_scene Target valid exact book scene requests Claim claim =
    record {
      rule = claim;
      buffer = λ out z.
          let f = (target_refusals Target valid exact book scene requests out).none.0 z in
          subst Claim (sym (buffer_back valid book scene requests out (exact.0 f.0) f.2 (rule_faultless book scene f.1))) (claim f.1);
    }

-- part `for_address`
pub addressed_theorem : AddressedTheorem
addressed_theorem st buffers book scene a h g =
    let s = st.node.settings in
    let steps = scene_of book scene in
    let own = own_profile s h g.profile in
    of_scene (Addressable a) (address_ok a) (addressable a) book scene (scene_requests a h) (λ rs. MatchesMachine batch_pcmd a buffers rs steps st)
    (λ r. steps_done batch_limits batch_pcmd a h s g.address own
    (λ entries t e. batch_executed h (list_bytes entries) t (ap (λ (n : Settings). hwpid_matches n h) e ∙ own))
    (group_performs batch_limits h)
    steps buffers st (no_fault_good steps r.fault_free) g.sound refl g.room)

-- part `selected`
selected_theorem : SelectedTheorem
selected_theorem st buffers book scene nodes h g size named =
    let s = st.node.settings in
    let steps = scene_of book scene in
    let own = own_profile s h g.profile in
    let limits = selected_limits nodes size in
    of_scene (Selectable nodes) (node_set_ok nodes) (set_ok_exact nodes) book scene (selected_requests nodes h)
    (λ rs. MatchesMachine selective_pcmd broadcast_nadr buffers rs steps st)
    (λ r. steps_done limits selective_pcmd broadcast_nadr h s g.address own
    (λ entries t e. selected_as_batch h nodes (list_bytes entries) size (omega (arith, list_nonempty entries)) t
    (ap (λ (n : Settings). hwpid_matches n h) e ∙ own) (ap (λ (n : Settings). selects nodes n.address) e ∙ named)
    (ap (λ (x : Reading). x.check) (round_trip entries)))
    (group_performs limits h)
    steps buffers st (no_fault_good steps r.fault_free) g.sound refl g.room)

-- part `not_selected`
not_selected_theorem : NotSelectedTheorem
not_selected_theorem st buffers book scene nodes h sound room size unnamed =
    let steps = scene_of book scene in
    of_scene (Selectable nodes) (node_set_ok nodes) (set_ok_exact nodes) book scene (selected_requests nodes h) (λ rs. StaysUnchanged buffers rs st)
    (λ r. steps_ignored nodes size h st sound unnamed steps buffers (no_fault_good steps r.fault_free) room)

-- part `steps`: a step without a fault passes the compiler's test, which agrees with the step machine's rule
steps_formed : (s : Step) → NoFault s ↔ (step_formed s ≡ true)
steps_formed s = (λ e. (good_formed s).0 (eq-eqb (step_fault s) no_fault e), λ f. eqb-true (step_fault s) no_fault ((good_formed s).1 f))

-- all parts
pub condition_3 : Condition3
condition_3 =
    record {
      refusals = compile_refusals;
      selected_refusals = selected_refusals;
      faults = fault_meaning;
      steps = steps_formed;
      for_address = addressed_theorem;
      selected = selected_theorem;
      not_selected = not_selected_theorem;
    }
