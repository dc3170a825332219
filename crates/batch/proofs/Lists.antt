-- Laws of reading a list.
use mathlib.Core.Path.{◌≡◌, refl, sym, ap, subst, ◌∙◌}
use mathlib.Core.List.{List, [], ◌∷◌}
use mathlib.Core.Bool.{Bool, true, false, cond}
use Prim.Native.Nat.{ℕ, zero, suc, ◌-◌, ◌≤◌}
use native.Mathlib.Omega.{arith}
use native.Mathlib.Numerals.{sub-one}
use lib.ListN.{length, drop, length-drop}
use Rattle.dpa.specs.Lists.{slice}
use Rattle.dpa.proofs.Bool.{by_cond}
use Rattle.dpa.proofs.Lists.{slice_to_end}
use Rattle.batch.specs.Batch.{ListCheck, Sound, Broken, NextEntry, Entry, Fault, entry_head_size, at_end, next_entry, Reading, empty_reading, entry_length, shift_fault, prepend_entry, reading_from, reading}
use Rattle.batch.proofs.Entries.{NextFacts, next_facts, next_unclosed, entry_sized, entry_not_at_end}

-- reading from position k is reading the bytes from there
pub reading_from_drop : (s : List ℕ) (k : ℕ) → reading_from s k ≡ reading (drop k s)
unfolding reading_from
reading_from_drop [] zero = refl
reading_from_drop [] (suc k) = refl
reading_from_drop (b ∷ s) zero = refl
reading_from_drop (b ∷ s) (suc k) = reading_from_drop s k

-- one step: the closing zero ends the list; else an entry is read, then the rest
pub reading_step : (s : List ℕ)
    → reading s ≡ cond (at_end s) (empty_reading Sound) (prepend_entry (next_entry s) s (reading (drop (entry_length (next_entry s)) s)))
unfolding reading_from
reading_step [] = ap (λ (n : NextEntry). prepend_entry n [] (reading (drop (entry_length n) []))) (sym (next_unclosed [] refl))
reading_step (b ∷ s) = ap (cond (at_end (b ∷ s)) (empty_reading Sound)) (at (next_entry (b ∷ s)) (next_facts (b ∷ s)))
  where
    after : (l : ℕ) → entry_head_size ≤ l → reading_from s (l - 1) ≡ reading (drop l (b ∷ s))
    after zero h = absurd (omega arith)
    after (suc l) h = rw (sub-one (suc l)) (reading_from_drop s l)

    at : (n : NextEntry) → NextFacts (b ∷ s) n
        → prepend_entry n (b ∷ s) (reading_from s (entry_length n - 1)) ≡ prepend_entry n (b ∷ s) (reading (drop (entry_length n) (b ∷ s)))
    at (Entry l p c h) z = ap (prepend_entry (Entry l p c h) (b ∷ s)) (after l z.0)
    at (Fault r a) z = refl

module _ (s : List ℕ) where
  reading_step_as : {b : Bool} {n : NextEntry} → at_end s ≡ b → next_entry s ≡ n
      → reading s ≡ cond b (empty_reading Sound) (prepend_entry n s (reading (drop (entry_length n) s)))
  reading_step_as {b} {n} o e =
      reading_step s
      ∙ ap (λ (m : NextEntry). cond (at_end s) (empty_reading Sound) (prepend_entry m s (reading (drop (entry_length m) s)))) e
      ∙ ap (λ (a : Bool). cond a (empty_reading Sound) (prepend_entry n s (reading (drop (entry_length n) s)))) o

  -- the closing zero ends a sound list
  pub reading_end : at_end s ≡ true → reading s ≡ empty_reading Sound
  reading_end o = reading_step_as o refl

  -- an entry is read, then the rest
  pub reading_entry : {l p c h : ℕ} → next_entry s ≡ Entry l p c h → reading s ≡ prepend_entry (Entry l p c h) s (reading (drop l s))
  reading_entry e = reading_step_as (entry_not_at_end s e) e

  -- a fault breaks the list
  pub reading_fault : {k a : ℕ} → at_end s ≡ false → next_entry s ≡ Fault k a → reading s ≡ empty_reading (Broken k a)
  reading_fault o e = reading_step_as o e

  -- The same for the check alone, as `check_list` needs it.

  -- at the end a list is sound
  pub check_end : at_end s ≡ true → Sound ≡ (reading s).check
  check_end o = sym (ap (λ (x : Reading). x.check) (reading_end o))

  -- a fault breaks the list
  pub check_fault : {k a : ℕ} → at_end s ≡ false → Fault k a ≡ next_entry s → Broken k a ≡ (reading s).check
  check_fault o e = sym (ap (λ (x : Reading). x.check) (reading_fault o (sym e)))

  -- after an entry the check of the rest counts
  pub check_entry : {l p c h : ℕ} {x : ListCheck} → next_entry s ≡ Entry l p c h
      → x ≡ (reading (slice s l (length s - l))).check → shift_fault l x ≡ (reading s).check
  check_entry {l} e r =
      ap (shift_fault l) (r ∙ ap (λ (t : List ℕ). (reading t).check) (slice_to_end l s))
      ∙ sym (ap (λ (x : Reading). x.check) (reading_entry e))

-- Induction on reading: a property of lists holds if it holds at the closing zero and at a fault, and if it holds for an
-- entry with a rest for which it holds.
module _ (P : List ℕ → Reading → Type 0)
    (closed : (s : List ℕ) → at_end s ≡ true → P s (empty_reading Sound))
    (entry : (s : List ℕ) (l p c h : ℕ) → next_entry s ≡ Entry l p c h → P (drop l s) (reading (drop l s)) → P s (prepend_entry (Entry l p c h) s (reading (drop l s))))
    (fault : (s : List ℕ) (k a : ℕ) → at_end s ≡ false → next_entry s ≡ Fault k a → P s (empty_reading (Broken k a))) where
  at_next : (s : List ℕ) → ((l : ℕ) → entry_head_size ≤ l → l ≤ length s → P (drop l s) (reading (drop l s)))
      → at_end s ≡ false → (n : NextEntry) → next_entry s ≡ n → P s (prepend_entry n s (reading (drop (entry_length n) s)))
  at_next s ih o (Entry l p c h) e = entry s l p c h e (ih l (entry_sized s e).0 (entry_sized s e).1)
  at_next s ih o (Fault k a) e = fault s k a o e

  at_list : (s : List ℕ) → ((l : ℕ) → entry_head_size ≤ l → l ≤ length s → P (drop l s) (reading (drop l s))) → P s (reading s)
  at_list s ih =
      subst (P s) (sym (reading_step s))
      (by_cond (P s) (at_end s) _ _ (closed s) (λ o. at_next s ih o (next_entry s) refl))

  up_to_length : (n : ℕ) (s : List ℕ) → length s ≤ n → P s (reading s)
  up_to_length zero s h = at_list s (λ l a b. absurd (omega arith))
  up_to_length (suc n) s h = at_list s (λ l a b. up_to_length n (drop l s) (simp length-drop (omega arith)))

  -- the property holds for every list
  pub reading_induction : (s : List ℕ) → P s (reading s)
  reading_induction s = up_to_length (length s) s (omega arith)
