-- A batch: if each entry does what its own steps do, the batch does what all steps do.
use mathlib.Core.Path.{◌≡◌, refl, sym, ap, ◌∙◌}
use mathlib.Core.List.{List, [], ◌∷◌}
use mathlib.Core.Bool.{true}
use Prim.Native.Nat.{ℕ}
use native.Mathlib.Omega.{arith}
use Rattle.dpa.specs.Reply.{reply}
use Rattle.dpa.specs.declared.settings.Settings.{Settings}
use Rattle.dpa.specs.Lists.{All}
use Rattle.batch.specs.Batch.{list_bytes, Reading, run_entries, errors_of}
use Rattle.batch.proofs.RoundTrip.{round_trip, list_nonempty}
use Rattle.node.specs.State.{State, SoundState}
use Rattle.outcome.specs.Request.{hwpid_matches, execute_entry, entry_after, entry_error, no_report, Outcome, outcome, batch_outcome, batch_request}
use Rattle.outcome.proofs.Soundness.{entry_sound}
use Rattle.outcome.proofs.Outcomes.{batch_runs}
use Rattle.book.specs.declared.step.Step.{Step}
use Rattle.step.specs.Machine.{machine}
use Rattle.step.proofs.MachineLaws.{machine_append, machine_stays}
use Rattle.entries.specs.Group.{concat}
use Rattle.entries.specs.Entry.{joined_entry}
use Rattle.output.specs.Requests.{joined_entries}

-- an outcome without an error, data or a report
abbrev pub no_error_outcome : State → List ℕ → Outcome
no_error_outcome end errors = outcome (reply end 0 []) errors no_report

-- the entry of this group has no error, and ends in the state that the step machine reaches
abbrev pub Performs : ℕ → List Step → State → Type 0
Performs h group st = ((execute_entry (joined_entry h group) st).error ≡ 0) × ((execute_entry (joined_entry h group) st).after ≡ machine group st)

-- so do the entries of all groups with property `Valid`, on any sound node that accepts the profile
abbrev pub AllPerform : ℕ → (List Step → Type 0) → Type 0
AllPerform h Valid =
    (group : List Step) (st : State) → Valid group → SoundState st → hwpid_matches st.node.settings h ≡ true → Performs h group st

module _ (h : ℕ) (Valid : List Step → Type 0) (performs : AllPerform h Valid) where
  -- all entries in order
  pub entries_perform : (groups : List (List Step)) (st : State) → All Valid groups → SoundState st → hwpid_matches st.node.settings h ≡ true
      → All (λ (e : ℕ). e ≡ 0) (errors_of entry_error entry_after (joined_entries h groups) st)
      × (run_entries entry_after (joined_entries h groups) st ≡ machine (concat groups) st)
  unfolding run_entries errors_of
  entries_perform [] st a k f = (tt, refl)
  entries_perform (r ∷ rs) st a k f =
      let first = performs r st a.0 k f in
      let next = entry_after (joined_entry h r) st in
      let same : next.node.settings ≡ st.node.settings = ap (λ (t : State). t.node.settings) first.1 ∙ (machine_stays r st).settings in
      let rest = entries_perform rs next a.1 (entry_sound (joined_entry h r) st k) (ap (λ (s : Settings). hwpid_matches s h) same ∙ f) in
      ((first.0, rest.0), rest.1 ∙ ap (machine (concat rs)) first.1 ∙ sym (machine_append r (concat rs) st))

  -- a batch request of these entries
  pub batch_performs : (groups : List (List Step)) (st : State) → All Valid groups → SoundState st → hwpid_matches st.node.settings h ≡ true
      → batch_request (list_bytes (joined_entries h groups)) st
      ≡ no_error_outcome (machine (concat groups) st) (errors_of entry_error entry_after (joined_entries h groups) st)
  batch_performs groups st a k f =
      let is = joined_entries h groups in
      let back = round_trip is in
      batch_runs (list_bytes is) st (λ z. omega (arith, list_nonempty is)) (ap (λ (r : Reading). r.check) back)
      ∙ ap (λ (r : Reading). batch_outcome r.entries st) back
      ∙ ap (λ (t : State). no_error_outcome t (errors_of entry_error entry_after is st)) (entries_perform groups st a k f).1
