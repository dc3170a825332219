-- An entry of a batch, by its HWPID.
use mathlib.Core.Path.{◌≡◌}
use mathlib.Core.Bool.{true, false}
use Rattle.dpa.specs.Reply.{Reply, error_reply}
use Rattle.dpa.proofs.Bool.{by_cond}
use Rattle.batch.specs.Batch.{Request}
use Rattle.node.specs.State.{State}
use Rattle.outcome.specs.Request.{hwpid_matches, peripheral_request, execute_entry}

module _ (i : Request) (st : State) where
  -- an accepted HWPID: the entry is a request to a peripheral
  pub entry_match : hwpid_matches st.node.settings i.hwpid ≡ true → execute_entry i st ≡ peripheral_request i.pnum i.pcmd i.pdata st
  unfolding execute_entry
  entry_match e = rw e

  -- another HWPID is ErrN 7
  pub entry_mismatch : hwpid_matches st.node.settings i.hwpid ≡ false → execute_entry i st ≡ error_reply st 7
  unfolding execute_entry
  entry_mismatch e = rw e

  -- a property of replies holds for every entry if it holds for a request to a peripheral and for another HWPID
  pub entry_cases : (P : Reply State → Type 0) → P (peripheral_request i.pnum i.pcmd i.pdata st) → P (error_reply st 7) → P (execute_entry i st)
  unfolding execute_entry
  entry_cases P peripheral mismatch = by_cond P (hwpid_matches st.node.settings i.hwpid) _ _ (λ _. peripheral) (λ _. mismatch)
