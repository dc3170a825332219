-- When a reason and a place are reported: for a list that this node should run but cannot read, and for nothing else.
use mathlib.Core.Path.{◌≡◌, refl, sym, ap, subst, ◌∙◌}
use mathlib.Core.List.{List}
use mathlib.Core.Bool.{true, cond}
use Prim.Native.Nat.{ℕ, ◌-◌, ◌≤◌}
use lib.Dec.{eqb}
use lib.ListN.{length, take, drop}
use borrow.Author.Tests.{eqb-true, eqb-false}
use Rattle.dpa.specs.Lists.{Bytes}
use Rattle.dpa.specs.NodeSet.{node_set_size, selects}
use Rattle.dpa.specs.Pnum.{os_pnum}
use Rattle.dpa.proofs.Bool.{by_cond}
use Rattle.batch.specs.Batch.{Request, reading, list_error, ListFault, batch_pcmd, ListCheck, Sound}
use Rattle.batch.specs.Selective.{selective_pdata_min, check_from, selective_pcmd, Selection}
use Rattle.batch.proofs.Faults.{sound_error}
use Rattle.batch.proofs.Selections.{check_from_front, reported_from, sound_from, select_list, select_cases}
use Rattle.node.specs.State.{State}
use Rattle.checksum.specs.Check.{code_check_pcmd}
use Rattle.outcome.specs.Request.{hwpid_matches, no_report, Outcome, broken_outcome, list_request, batch_request, selection_outcome, selective_request, code_check_request, os_request, execute, frame_request, CallResult, handle_request}
use Rattle.outcome.proofs.Outcomes.{list_start, list_broken, batch_list, selective_as, os_batch, os_selective, execute_os, os_cases, execute_cases}
use Rattle.outcome.proofs.Calls.{call_cases}

-- an OS request with a list for this node: a batch, or a selective batch that names the node
pub data HasList (i : Request) (st : State) : Type 0 where
  batch : i.pcmd ≡ batch_pcmd → ¬ (length i.pdata ≡ 0) → HasList i st
  selective : i.pcmd ≡ selective_pcmd → selective_pdata_min ≤ length i.pdata
      → selects (take node_set_size i.pdata) st.node.settings.address ≡ true → HasList i st

-- such a request that passes the test of the HWPID, with a list that is not sound
pub record BrokenBatch (i : Request) (st : State) : Type 0 where
  pub profile : hwpid_matches st.node.settings i.hwpid ≡ true
  pub pnum : i.pnum ≡ os_pnum
  pub has_list : HasList i st
  pub broken : ¬ ((reading (drop (list_start i.pcmd) i.pdata)).check ≡ Sound)

module _ (i : Request) (st : State) where
  -- the check of its list
  abbrev list_check : ListCheck
  list_check = check_from (list_start i.pcmd) i.pdata

  -- what it does with the list from place n on
  abbrev list_from : ℕ → Outcome
  list_from n = list_request (check_from n i.pdata) (drop n i.pdata) st

  -- it does what its list says
  list_request_lem : HasList i st → os_request i.pcmd i.pdata st ≡ list_from (list_start i.pcmd)
  list_request_lem (batch c d) =
      os_batch i.pcmd i.pdata st c
      ∙ batch_list i.pdata st d (check_from_front i.pdata)
      ∙ ap (λ (pcmd : ℕ). list_from (list_start pcmd)) (sym c)
  list_request_lem (selective c h s) =
      os_selective i.pcmd i.pdata st c
      ∙ selective_as i.pdata st (select_list i.pdata st.node.settings.address h s)
      ∙ ap (λ (pcmd : ℕ). list_from (list_start pcmd)) (sym c)

  -- a broken list is reported, and nothing runs
  pub fault_reported : BrokenBatch i st → execute i st ≡ broken_outcome list_check st
  fault_reported b =
      execute_os i st b.profile b.pnum
      ∙ list_request_lem b.has_list
      ∙ list_broken list_check (drop (list_start i.pcmd) i.pdata) st (λ z. b.broken ((sound_from i.pdata (list_start i.pcmd)).0 z))

  abbrev NoFault : Outcome → Type 0
  NoFault a = (a.report.reason ≡ 0) × (a.report.place ≡ 0)

  -- every other request reports reason 0 and place 0
  pub no_fault_reported : ¬ BrokenBatch i st → ((execute i st).report.reason ≡ 0) × ((execute i st).report.place ≡ 0)
  unfolding execute os_request list_request batch_request selective_request code_check_request
  no_fault_reported n =
      by_cond NoFault (hwpid_matches st.node.settings i.hwpid) _ _
      (λ m. by_cond NoFault (eqb i.pnum os_pnum) _ _
      (λ p. let listed : HasList i st → NoFault (list_from (list_start i.pcmd)) =
      λ has. by_cond NoFault (eqb (list_error list_check) 0) _ _ (λ _. (refl, refl))
      (λ l. absurd (n (record {
        profile = m;
        pnum = eqb-true _ _ p;
        has_list = has;
        broken = λ z. eqb-false (list_error list_check) 0 l (sound_error ((sound_from i.pdata (list_start i.pcmd)).1 z));
      }))) in
      by_cond NoFault (eqb i.pcmd batch_pcmd) _ _
      (λ c. by_cond NoFault (eqb (length i.pdata) 0) _ _ (λ _. (refl, refl))
      (λ d. subst (λ (x : ListCheck). NoFault (list_request x i.pdata st)) (check_from_front i.pdata)
      (subst (λ (k : ℕ). NoFault (list_from k)) (ap list_start (eqb-true i.pcmd batch_pcmd c)) (listed (batch (eqb-true _ _ c) (eqb-false _ _ d))))))
      (λ _. by_cond NoFault (eqb i.pcmd code_check_pcmd) _ _ (λ _. (refl, refl))
      (λ _. by_cond NoFault (eqb i.pcmd selective_pcmd) _ _
      (λ c. select_cases i.pdata st.node.settings.address (λ (x : Selection). NoFault (selection_outcome x (drop node_set_size i.pdata) st))
      (refl, refl) (refl, refl)
      (λ h s. subst (λ (k : ℕ). NoFault (list_from k)) (ap list_start (eqb-true i.pcmd selective_pcmd c)) (listed (selective (eqb-true _ _ c) h s))))
      (λ _. (refl, refl)))))
      (λ _. (refl, refl)))
      (λ _. (refl, refl))

-- a reported reason is that of a fault of the list, at the reported place of PData
pub reported_meaning : (i : Request) (st : State) → Bytes i.pdata → ¬ ((execute i st).report.reason ≡ 0)
    → let n = list_start i.pcmd in
    (n ≤ (execute i st).report.place) × ListFault (drop n i.pdata) (execute i st).report.reason ((execute i st).report.place - n)
unfolding code_check_request
reported_meaning i st by =
    let Meant : ℕ → Outcome → Type 0 =
    λ n a. ¬ (a.report.reason ≡ 0) → (n ≤ a.report.place) × ListFault (drop n i.pdata) a.report.reason (a.report.place - n) in
    execute_cases (Meant (list_start i.pcmd)) st (λ e n. absurd (n refl)) i
    (os_cases (Meant (list_start i.pcmd)) st (λ e n. absurd (n refl)) i.pcmd i.pdata (λ _ n. absurd (n refl))
    (λ n e _. subst (λ (k : ℕ). Meant k (broken_outcome (check_from n i.pdata) st)) e (reported_from i.pdata n by))
    (λ n. absurd (n refl)) (λ n. absurd (n refl)))
    (λ n. absurd (n refl))

-- a call reports what executing its request reports, for a broadcast too; a refused call and a frame for another node report nothing
pub call_report : (f : List ℕ) (st : State) (o : List ℕ)
    → (handle_request f st o).report ≡ cond (handle_request f st o).addressed (execute (frame_request f) st).report no_report
call_report f st o =
    call_cases (λ (a : CallResult). a.report ≡ cond a.addressed (execute (frame_request f) st).report no_report) f st o (λ _. refl) (λ _. refl) (λ _. refl)
