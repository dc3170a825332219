-- Laws of running entries, for any state S and any effect f of an entry.
use mathlib.Core.Path.{◌≡◌, refl, sym, ap, ◌∙◌}
use mathlib.Core.List.{List, [], ◌∷◌, ◌++◌}
use mathlib.Core.Bool.{true}
use Prim.Native.Nat.{ℕ, suc, ◌+◌, ◌-◌}
use native.Mathlib.Omega.{arith}
use lib.ListN.{length, drop}
use lib.Seq.{drop-drop}
use Rattle.dpa.specs.Lists.{slice}
use Rattle.dpa.proofs.Bool.{by_test}
use Rattle.dpa.proofs.Lists.{slice_to_end}
use Rattle.batch.specs.Batch.{Entry, Fault, entry_head_size, at_end, next_entry, Request, Reading, reading, request_of, run_entries, errors_of}
use Rattle.batch.proofs.Lists.{reading_end, reading_entry, reading_fault}

module _ {S : Type 0} (f : Request → S → S) (s : List ℕ) (st : S) where
  no_entries : {r : Reading} → reading s ≡ r → r.entries ≡ [] → st ≡ run_entries f (reading s).entries st
  unfolding run_entries
  no_entries e n = sym (ap (λ (is : List Request). run_entries f is st) (ap (λ (x : Reading). x.entries) e ∙ n))

  -- at the end of the list no entry runs
  pub entries_end_lem : at_end s ≡ true → st ≡ run_entries f (reading s).entries st
  entries_end_lem o = no_entries (reading_end s o) refl

  -- at a fault no entry runs
  pub entries_fault : {k a : ℕ} → next_entry s ≡ Fault k a → st ≡ run_entries f (reading s).entries st
  entries_fault e = by_test (at_end s) entries_end_lem (λ o. no_entries (reading_fault s o e) refl)

  -- the first entry runs, then the rest on the state that it left
  pub entries_step : {l p c h : ℕ} {m r : S} → next_entry s ≡ Entry l p c h
      → m ≡ f (request_of p c h (slice s entry_head_size (l - entry_head_size))) st
      → r ≡ run_entries f (reading (slice s l (length s - l))).entries m
      → r ≡ run_entries f (reading s).entries st
  unfolding run_entries
  entries_step {l} {p} {c} {h} {m} {r} e d g =
      g
      ∙ ap (λ (x : List ℕ). run_entries f (reading x).entries m) (slice_to_end l s)
      ∙ ap (run_entries f (reading (drop l s)).entries) d
      ∙ sym (ap (λ (x : Reading). run_entries f x.entries st) (reading_entry s e))

-- the same from a place of a list on
module _ {S : Type 0} (f : Request → S → S) (s : List ℕ) (at : ℕ) (st : S) where
  -- at a fault no entry runs
  pub entries_fault_at : {k a : ℕ} → next_entry (slice s at (length s - at)) ≡ Fault k a → st ≡ run_entries f (reading (drop at s)).entries st
  entries_fault_at e = entries_fault f (drop at s) st (ap next_entry (sym (slice_to_end at s)) ∙ e)

  -- the entry at the place runs, then the rest of the list
  pub entries_step_at : {l p c h : ℕ} → next_entry (slice s at (length s - at)) ≡ Entry l p c h
      → run_entries f (reading (drop (at + l) s)).entries (f (request_of p c h (slice s (at + entry_head_size) ((at + l) - (at + entry_head_size)))) st)
      ≡ run_entries f (reading (drop at s)).entries st
  entries_step_at {l} {p} {c} {h} e =
      let d : (at + l) - (at + entry_head_size) ≡ l - entry_head_size = omega arith in
      let i : slice s (at + entry_head_size) ((at + l) - (at + entry_head_size)) ≡ slice (drop at s) entry_head_size (l - entry_head_size) = rw (d, drop-drop) refl in
      let next : S = f (request_of p c h (slice s (at + entry_head_size) ((at + l) - (at + entry_head_size)))) st in
      ap (λ (x : List ℕ). run_entries f (reading x).entries next) (sym (drop-drop l at s) ∙ sym (slice_to_end l (drop at s)))
      ∙ entries_step f (drop at s) st (ap next_entry (sym (slice_to_end at s)) ∙ e) (ap (λ (x : List ℕ). f (request_of p c h x) st) i) refl

module _ {S : Type 0} (f : Request → S → S) where
  -- a property that every entry keeps is kept by a list of entries
  pub entries_keep : (P : S → Type 0) → ((i : Request) (st : S) → P st → P (f i st)) → (is : List Request) (st : S) → P st → P (run_entries f is st)
  unfolding run_entries
  entries_keep P k [] st h = h
  entries_keep P k (i ∷ is) st h = entries_keep P k is (f i st) (k i st h)

  -- two lists run as one
  pub entries_append : (is js : List Request) (st : S) → run_entries f (is ++ js) st ≡ run_entries f js (run_entries f is st)
  unfolding run_entries
  entries_append [] js st = refl
  entries_append (i ∷ is) js st = entries_append is js (f i st)

  module _ (e : Request → S → ℕ) where
    -- the ErrN of two lists that run as one
    pub errors_append : (is js : List Request) (st : S)
        → errors_of e f (is ++ js) st ≡ errors_of e f is st ++ errors_of e f js (run_entries f is st)
    unfolding run_entries errors_of
    errors_append [] js st = refl
    errors_append (i ∷ is) js st = ap (λ (es : List ℕ). e i st ∷ es) (errors_append is js (f i st))

    -- there is one ErrN for each entry
    pub errors_length : (is : List Request) (st : S) → length (errors_of e f is st) ≡ length is
    unfolding errors_of
    errors_length [] st = refl
    errors_length (i ∷ is) st = ap suc (errors_length is (f i st))

-- Entries and a part of the state that each entry changes by itself; K is a property that every entry keeps.
module _ {S T : Type 0} (f : Request → S → S) (g : Request → T → T) (part : S → T) (K : S → Type 0)
    (keeps : (i : Request) (st : S) → K st → K (f i st)) (each : (i : Request) (st : S) → K st → part (f i st) ≡ g i (part st)) where
  -- a list of entries changes that part by itself too
  pub entries_part : (is : List Request) (st : S) → K st → part (run_entries f is st) ≡ run_entries g is (part st)
  unfolding run_entries
  entries_part [] st k = refl
  entries_part (i ∷ is) st k = entries_part is (f i st) (keeps i st k) ∙ ap (run_entries g is) (each i st k)
