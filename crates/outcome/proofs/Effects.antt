-- The two phases of a request: it changes what its effect changes, and what the effect relies on is known from the answer.
use mathlib.Core.Path.{◌≡◌, refl, ap, sym, subst, ◌∙◌}
use mathlib.Core.List.{List}
use mathlib.Core.Bool.{Bool, true, false, cond}
use Prim.Native.Nat.{ℕ, ◌≤◌}
use native.Mathlib.Omega.{arith}
use lib.Dec.{eqb}
use lib.ListN.{length, drop}
use borrow.Author.Tests.{eqb-true, eqb-false}
use Rattle.dpa.specs.NodeSet.{node_set_size}
use Rattle.dpa.specs.Pnum.{os_pnum, lights_pnum}
use Rattle.dpa.specs.Reply.{Reply, error_reply}
use Rattle.dpa.proofs.Bool.{and_right, by_cond, by_test}
use Rattle.lights.specs.declared.apply.Command.TheVariants.{Lower}
use Rattle.lights.specs.Lights.{command_pcmd, changes_lamps}
use Rattle.lights.proofs.Requests.{success_changes}
use Rattle.checksum.specs.Check.{code_check_pcmd}
use Rattle.batch.specs.Batch.{ListCheck, Request, reading, list_error, run_entries, batch_pcmd}
use Rattle.batch.specs.Selective.{Selection, selective_pcmd}
use Rattle.batch.proofs.Selections.{select_cases}
use Rattle.node.specs.State.{State}
use Rattle.outcome.specs.declared.reply.Effect.{Effect}
use Rattle.outcome.specs.declared.reply.Effect.TheVariants.{Nothing, Lamps, Alone, Batch, Selective}
use Rattle.outcome.specs.Request.{peripheral_request, hwpid_matches, entry_after, Outcome, reply_only, batch_outcome, broken_outcome, list_request, batch_request, selection_outcome, selective_request, code_check_request, os_request, execute}
use Rattle.outcome.specs.Effect.{succeeded, on_success, os_effect, peripheral_effect, request_effect, effect_of, after_effect, EffectKnown}
use Rattle.outcome.proofs.Peripherals.{peripheral_lights}
use Rattle.outcome.proofs.Outcomes.{execute_mismatch, execute_os, execute_peripheral, os_selective}
use Rattle.outcome.proofs.Errors.{peripheral_harmless}

-- an effect is that of a success
effect_success : (a : Outcome) {x y : Effect} → on_success a x ≡ y → (Nothing ≡ y → ⊥) → (succeeded a ≡ true) × (x ≡ y)
unfolding on_success
effect_success a {x} {y} e n = go (succeeded a) refl e
  where
    go : (b : Bool) → succeeded a ≡ b → cond b x Nothing ≡ y → (succeeded a ≡ true) × (x ≡ y)
    go true s q = (s, q)
    go false s q = absurd (n q)

module _ (i : Request) (st : State) where
  -- ---- what a request changes

  -- an outcome leaves the state after its effect
  abbrev ByEffect : Effect → Outcome → Type 0
  ByEffect effect a = a.after ≡ after_effect (on_success a effect) i st

  -- a request that changes nothing
  no_effect : (a : Outcome) → a.after ≡ st → ByEffect Nothing a
  unfolding on_success
  no_effect a e = e ∙ ap (λ (x : Effect). after_effect x i st) (same (succeeded a))
    where
      same : (b : Bool) → Nothing ≡ cond b Nothing Nothing
      same true = refl
      same false = refl

  -- a list that can be read runs, any other changes nothing
  list_effect : (effect : Effect) (check : ListCheck) (list : List ℕ) → run_entries entry_after (reading list).entries st ≡ after_effect effect i st
      → ByEffect effect (list_request check list st)
  unfolding list_request on_success
  list_effect effect check list e =
      by_cond (ByEffect effect) (eqb (list_error check) 0) (batch_outcome (reading list).entries st) (broken_outcome check st) (λ _. e) (λ z. rw z)

  batch_effect : ByEffect Batch (batch_request i.pdata st)
  unfolding batch_request on_success
  batch_effect =
      by_cond (ByEffect Batch) (eqb (length i.pdata) 0) (reply_only (error_reply st 5)) (list_request (reading i.pdata).check i.pdata st) (λ _. refl)
      (λ _. list_effect Batch (reading i.pdata).check i.pdata refl)

  selective_effect : ByEffect Selective (selective_request i.pdata st)
  unfolding selective_request on_success
  selective_effect =
      select_cases i.pdata st.node.settings.address (λ (x : Selection). ByEffect Selective (selection_outcome x (drop node_set_size i.pdata) st)) refl refl
      (λ _ _. list_effect Selective _ (drop node_set_size i.pdata) refl)

  check_effect : ByEffect Nothing (code_check_request i.pdata st)
  unfolding code_check_request
  check_effect = no_effect (code_check_request i.pdata st) refl

  os_effect_lem : ByEffect (os_effect i.pcmd) (os_request i.pcmd i.pdata st)
  unfolding os_request on_success
  os_effect_lem =
      let P : Outcome → Type 0 = ByEffect (os_effect i.pcmd) in
      let unknown : Outcome = reply_only (error_reply st 2) in
      let selective : Outcome = cond (eqb i.pcmd selective_pcmd) (selective_request i.pdata st) unknown in
      let check : Outcome = code_check_request i.pdata st in
      by_cond P (eqb i.pcmd batch_pcmd) (batch_request i.pdata st) (cond (eqb i.pcmd code_check_pcmd) check selective) (λ a. rw a batch_effect)
      (λ a. by_cond P (eqb i.pcmd code_check_pcmd) check selective
      (λ b. subst (λ (x : Effect). ByEffect x check) (sym (ap os_effect (eqb-true i.pcmd code_check_pcmd b))) check_effect)
      (λ _. by_cond P (eqb i.pcmd selective_pcmd) (selective_request i.pdata st) unknown (λ c. rw (a, c) selective_effect) (λ _. refl)))

  -- both effects of a peripheral are what its request does
  peripheral_after : (lights : Bool) → (peripheral_request i.pnum i.pcmd i.pdata st).after ≡ after_effect (cond lights Lamps Alone) i st
  peripheral_after true = refl
  peripheral_after false = refl

  peripheral_effect_lem : ByEffect (peripheral_effect i.pnum) (reply_only (peripheral_request i.pnum i.pcmd i.pdata st))
  unfolding on_success
  peripheral_effect_lem =
      let reply = peripheral_request i.pnum i.pcmd i.pdata st in
      by_test (eqb reply.error 0) (λ z. rw z (peripheral_after (eqb i.pnum lights_pnum)))
      (λ z. rw z (peripheral_harmless i.pnum i.pcmd i.pdata st (eqb-false _ _ z)).0)

  -- the state after a request is that after its effect
  pub request_effect_lem : (execute i st).after ≡ after_effect (effect_of i (execute i st)) i st
  unfolding execute on_success
  request_effect_lem =
      let P : Outcome → Type 0 = ByEffect (request_effect i) in
      let os : Outcome = os_request i.pcmd i.pdata st in
      let peripheral : Outcome = reply_only (peripheral_request i.pnum i.pcmd i.pdata st) in
      by_cond P (hwpid_matches st.node.settings i.hwpid) (cond (eqb i.pnum os_pnum) os peripheral) (reply_only (error_reply st 7))
      (λ _. by_cond P (eqb i.pnum os_pnum) os peripheral (λ p. rw p os_effect_lem) (λ p. rw p peripheral_effect_lem))
      (λ _. refl)

  -- ---- what is known of a request that succeeded

  -- the HWPID is accepted
  hwpid_accepted : succeeded (execute i st) ≡ true → hwpid_matches st.node.settings i.hwpid ≡ true
  hwpid_accepted h =
      by_test (hwpid_matches st.node.settings i.hwpid) (λ e. e)
      (λ e. let y : false ≡ true = ap succeeded (sym (execute_mismatch i st e)) ∙ h in cc)

  -- set, raise and lower have valid power entries
  lights_known : succeeded (execute i st) ≡ true → i.pnum ≡ lights_pnum → i.pcmd ≤ command_pcmd Lower → changes_lamps i.pcmd i.pdata ≡ true
  lights_known h p c =
      let z : (execute i st).error ≡ 0 = eqb-true _ _ (and_right (execute i st).answered _ h) in
      success_changes st.node.settings i.pcmd i.pdata st.node.lamps c
      (sym (ap (λ (x : Reply State). x.error) (peripheral_lights i.pnum i.pcmd i.pdata st p))
      ∙ sym (ap (λ (a : Outcome). a.error) (execute_peripheral i st (hwpid_accepted h) (λ q. omega arith))) ∙ z)

  -- a selective batch has a node set
  selective_long : succeeded (selective_request i.pdata st) ≡ true → node_set_size ≤ length i.pdata
  unfolding selective_request
  selective_long =
      select_cases i.pdata st.node.settings.address
      (λ (x : Selection). succeeded (selection_outcome x (drop node_set_size i.pdata) st) ≡ true → node_set_size ≤ length i.pdata)
      (λ e. cc) (λ e. cc) (λ h _ _. omega (arith, h))

  -- the effect of a selective batch is that of its PNUM and PCMD alone
  selective_only : request_effect i ≡ Selective → (i.pnum ≡ os_pnum) × (i.pcmd ≡ selective_pcmd)
  selective_only = go (eqb i.pnum os_pnum) (eqb i.pcmd batch_pcmd) (eqb i.pcmd selective_pcmd) (eqb i.pnum lights_pnum) refl refl
    where
      go : (b c d l : Bool) → eqb i.pnum os_pnum ≡ b → eqb i.pcmd selective_pcmd ≡ d
          → cond b (cond c Batch (cond d Selective Nothing)) (cond l Lamps Alone) ≡ Selective → (i.pnum ≡ os_pnum) × (i.pcmd ≡ selective_pcmd)
      go true true d l p q e = cc
      go true false true l p q e = (eqb-true _ _ p, eqb-true _ _ q)
      go true false false l p q e = cc
      go false c d true p q e = cc
      go false c d false p q e = cc

  -- only the lights have an effect on the lamps, and no other
  lamps_only : request_effect i ≡ Lamps → i.pnum ≡ lights_pnum
  lamps_only = go (eqb i.pnum os_pnum) (eqb i.pcmd batch_pcmd) (eqb i.pcmd selective_pcmd) (eqb i.pnum lights_pnum) refl
    where
      go : (b c d l : Bool) → eqb i.pnum lights_pnum ≡ l → cond b (cond c Batch (cond d Selective Nothing)) (cond l Lamps Alone) ≡ Lamps → i.pnum ≡ lights_pnum
      go true true d l p e = cc
      go true false true l p e = cc
      go true false false l p e = cc
      go false c d true p e = eqb-true _ _ p
      go false c d false p e = cc

  alone_others : request_effect i ≡ Alone → i.pnum ≡ lights_pnum → ⊥
  alone_others e p =
      let q : Lamps ≡ Alone = sym (rw p) ∙ e in
      cc

  lamps_success : effect_of i (execute i st) ≡ Lamps → (succeeded (execute i st) ≡ true) × (request_effect i ≡ Lamps)
  lamps_success e = effect_success (execute i st) e (λ q. cc)

  -- what the effect of a request relies on
  pub effect_known : EffectKnown (effect_of i (execute i st)) i
  effect_known =
      record {
        lights = λ e. lamps_only (lamps_success e).1;
        changes = λ e. lights_known (lamps_success e).0 (lamps_only (lamps_success e).1);
        not_lights = λ e. alone_others (effect_success (execute i st) e (λ q. cc)).1;
        node_set = λ e.
            let s = effect_success (execute i st) e (λ q. cc) in
            let k = selective_only s.1 in
            selective_long (ap succeeded (sym (os_selective i.pcmd i.pdata st k.1) ∙ sym (execute_os i st (hwpid_accepted s.0) k.0)) ∙ s.0);
      }
