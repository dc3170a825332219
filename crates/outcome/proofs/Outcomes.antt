-- Executing a request, by the tests on the way: list, batch, selective batch, OS request, HWPID and PNUM.
use mathlib.Core.Path.{◌≡◌, refl, ap, sym, subst, ◌∙◌}
use mathlib.Core.List.{List}
use mathlib.Core.Bool.{true, false, cond}
use Prim.Native.Nat.{ℕ, ◌≤◌}
use native.Mathlib.Omega.{arith}
use lib.Dec.{eqb}
use lib.ListN.{length, drop}
use borrow.Author.Tests.{eq-eqb, ne_eqb, eqb-true}
use Rattle.dpa.specs.NodeSet.{node_set_size}
use Rattle.dpa.specs.Pnum.{os_pnum}
use Rattle.dpa.specs.Reply.{error_reply}
use Rattle.dpa.proofs.Bool.{by_cond}
use Rattle.checksum.specs.Check.{code_check_pcmd}
use Rattle.batch.specs.Batch.{Request, reading, list_error, batch_pcmd, ListCheck, Sound}
use Rattle.batch.specs.Selective.{Selection, selective_pdata_min, check_from, selection_of, selective_pcmd}
use Rattle.batch.proofs.Faults.{error_sound}
use Rattle.batch.proofs.Selections.{check_from_front, select_cases}
use Rattle.node.specs.State.{State}
use Rattle.outcome.specs.Request.{peripheral_request, hwpid_matches, Outcome, reply_only, batch_outcome, broken_outcome, list_request, batch_request, unanswered_outcome, selection_outcome, selective_request, code_check_request, os_request, execute}

module _ (check : ListCheck) (list : List ℕ) (st : State) where
  -- a list that cannot be read runs nothing, and its fault is reported
  pub list_broken : ¬ (check ≡ Sound) → list_request check list st ≡ broken_outcome check st
  unfolding list_request
  list_broken b = rw (ne_eqb (list_error check) 0 (λ z. b (error_sound check z)))

  -- a sound list runs its entries
  pub list_runs : check ≡ Sound → list_request check list st ≡ batch_outcome (reading list).entries st
  unfolding list_request
  list_runs e = rw e

module _ (d : List ℕ) (st : State) where
  -- a batch without PData
  pub batch_empty : length d ≡ 0 → batch_request d st ≡ reply_only (error_reply st 5)
  unfolding batch_request
  batch_empty e = rw (eq-eqb (length d) 0 e)

  -- any other batch
  pub batch_list : (length d ≡ 0 → ⊥) → {x : ListCheck} → x ≡ (reading d).check → batch_request d st ≡ list_request x d st
  unfolding batch_request
  batch_list n e = rw (ne_eqb (length d) 0 n) (ap (λ (x : ListCheck). list_request x d st) (sym e))

  -- a sound list runs its entries
  pub batch_runs : (length d ≡ 0 → ⊥) → (reading d).check ≡ Sound → batch_request d st ≡ batch_outcome (reading d).entries st
  batch_runs n e = batch_list n refl ∙ list_runs (reading d).check d st e

  -- a selective batch, by what its PData is to the node
  pub selective_as : {x : Selection} → selection_of d st.node.settings.address ≡ x
      → selective_request d st ≡ selection_outcome x (drop node_set_size d) st
  unfolding selective_request
  selective_as e = ap (λ (x : Selection). selection_outcome x (drop node_set_size d) st) e

module _ (pcmd : ℕ) (d : List ℕ) (st : State) where
  -- the PCMD of a batch
  pub os_batch : pcmd ≡ batch_pcmd → os_request pcmd d st ≡ batch_request d st
  unfolding os_request
  os_batch e = ap (λ (c : ℕ). os_request c d st) e

  -- the PCMD of a code check
  pub os_check : pcmd ≡ code_check_pcmd → os_request pcmd d st ≡ code_check_request d st
  unfolding os_request
  os_check e = ap (λ (c : ℕ). os_request c d st) e

  -- the PCMD of a selective batch
  pub os_selective : pcmd ≡ selective_pcmd → os_request pcmd d st ≡ selective_request d st
  unfolding os_request
  os_selective e = ap (λ (c : ℕ). os_request c d st) e

  -- any other PCMD
  pub os_unknown : (pcmd ≡ batch_pcmd → ⊥) → (pcmd ≡ code_check_pcmd → ⊥) → (pcmd ≡ selective_pcmd → ⊥) → os_request pcmd d st ≡ reply_only (error_reply st 2)
  unfolding os_request
  os_unknown a b c = simp (ne_eqb pcmd batch_pcmd a, ne_eqb pcmd code_check_pcmd b, ne_eqb pcmd selective_pcmd c)

module _ (i : Request) (st : State) where
  -- another HWPID is ErrN 7
  pub execute_mismatch : hwpid_matches st.node.settings i.hwpid ≡ false → execute i st ≡ reply_only (error_reply st 7)
  unfolding execute
  execute_mismatch e = rw e

  module _ (e : hwpid_matches st.node.settings i.hwpid ≡ true) where
    -- the PNUM of the OS
    pub execute_os : i.pnum ≡ os_pnum → execute i st ≡ os_request i.pcmd i.pdata st
    unfolding execute
    execute_os p = rw (e, eq-eqb i.pnum os_pnum p)

    -- any other PNUM
    pub execute_peripheral : (i.pnum ≡ os_pnum → ⊥) → execute i st ≡ reply_only (peripheral_request i.pnum i.pcmd i.pdata st)
    unfolding execute
    execute_peripheral p = rw (e, ne_eqb i.pnum os_pnum p)

-- where the list of a batch or of a selective batch starts in PData
abbrev pub list_start : ℕ → ℕ
list_start pcmd = cond (eqb pcmd selective_pcmd) node_set_size 0

-- A property of outcomes holds for every request if it holds for each kind of request and for every error.
module _ (P : Outcome → Type 0) (st : State) (error : (e : ℕ) → P (reply_only (error_reply st e))) where
  -- lists: one that can be read runs, one that cannot is reported
  list_cases : (check : ListCheck) (list : List ℕ) → (list_error check ≡ 0 → P (batch_outcome (reading list).entries st)) → P (broken_outcome check st)
      → P (list_request check list st)
  unfolding list_request
  list_cases check list runs broken = by_cond P (eqb (list_error check) 0) _ _ (λ z. runs (eqb-true _ _ z)) (λ _. broken)

  -- batches: no list is an error
  batch_cases : (d : List ℕ) → (list_error (reading d).check ≡ 0 → P (batch_outcome (reading d).entries st)) → P (broken_outcome (reading d).check st) → P (batch_request d st)
  unfolding batch_request
  batch_cases d runs broken = by_cond P (eqb (length d) 0) _ _ (λ _. error 5) (λ _. list_cases (reading d).check d runs broken)

  -- selective batches: PData that is too short, another node, this node
  selective_cases : (d : List ℕ) → P (unanswered_outcome st)
      → (selective_pdata_min ≤ length d → P (list_request (check_from node_set_size d) (drop node_set_size d) st)) → P (selective_request d st)
  unfolding selective_request
  selective_cases d none list =
      select_cases d st.node.settings.address (λ (x : Selection). P (selection_outcome x (drop node_set_size d) st)) (error 5) none (λ h _. list h)

  -- OS requests: a list that runs or is broken, no answer, the code check, an error
  pub os_cases : (pcmd : ℕ) (d : List ℕ) → ((list : List ℕ) → P (batch_outcome (reading list).entries st))
      → ((n : ℕ) → n ≡ list_start pcmd → n ≤ length d → P (broken_outcome (check_from n d) st)) → P (unanswered_outcome st) → P (code_check_request d st)
      → P (os_request pcmd d st)
  unfolding os_request
  os_cases pcmd d runs broken none check =
      by_cond P (eqb pcmd batch_pcmd) _ _
      (λ e. batch_cases d (λ _. runs d)
      (subst (λ (x : ListCheck). P (broken_outcome x st)) (check_from_front d) (broken 0 (ap list_start (sym (eqb-true pcmd batch_pcmd e))) (omega arith))))
      (λ _. by_cond P (eqb pcmd code_check_pcmd) _ _ (λ _. check)
      (λ _. by_cond P (eqb pcmd selective_pcmd) _ _
      (λ e. selective_cases d none (λ h. list_cases (check_from node_set_size d) (drop node_set_size d) (λ _. runs (drop node_set_size d))
      (broken node_set_size (ap list_start (sym (eqb-true pcmd selective_pcmd e))) (omega arith))))
      (λ _. error 2)))

  -- all requests: an OS request, a request to a peripheral, an error
  pub execute_cases : (i : Request) → P (os_request i.pcmd i.pdata st) → P (reply_only (peripheral_request i.pnum i.pcmd i.pdata st)) → P (execute i st)
  unfolding execute
  execute_cases i os peripheral =
      by_cond P (hwpid_matches st.node.settings i.hwpid) _ _
      (λ _. by_cond P (eqb i.pnum os_pnum) _ _ (λ _. os) (λ _. peripheral))
      (λ _. error 7)
