-- Laws of the end of a list and of the next entry.
use mathlib.Core.Path.{◌≡◌, refl, sym, ap, subst, ◌∙◌}
use mathlib.Core.List.{List}
use mathlib.Core.Bool.{Bool, true, false, cond, and-false}
use Prim.Native.Nat.{ℕ, ◌+◌, ◌-◌, ◌≤◌, ◌<◌}
use native.Mathlib.Omega.{arith}
use borrow.Author.Tests.{lt-ltb, le-ltb, eq-eqb, ne_eqb, ltb-false, ltb-true, eqb-true, eqb-false}
use lib.ListN.{length, get_or, drop, length-drop}
use lib.Dec.{ltb, eqb}
use Rattle.dpa.specs.Number.{word_at}
use Rattle.dpa.specs.Lists.{slice}
use Rattle.dpa.proofs.Bool.{and_left, and_right, by_cond}
use Rattle.dpa.proofs.Lists.{slice_to_end}
use Rattle.batch.specs.Batch.{NextEntry, Entry, Fault, entry_head_size, closing_zero, at_end, short_reason, past_end_reason, unclosed_reason, trailing_reason, next_entry, FaultAt, short, past_end, unclosed, trailing}

module _ (s : List ℕ) where
  -- one byte is the end if it is zero
  pub at_end_one_byte : length s ≡ 1 → at_end s ≡ eqb (get_or s 0 0) closing_zero
  at_end_one_byte h = rw (eq-eqb (length s) 1 h) refl

  -- one zero byte is the end
  pub at_end_zero : length s ≡ 1 → get_or s 0 0 ≡ closing_zero → at_end s ≡ true
  at_end_zero h z = at_end_one_byte h ∙ eq-eqb (get_or s 0 0) closing_zero z

  -- at the end, one zero byte is left
  pub at_end_facts : at_end s ≡ true → (length s ≡ 1) × (get_or s 0 0 ≡ closing_zero)
  at_end_facts e = (eqb-true _ _ (and_left _ _ e), eqb-true _ _ (and_right (eqb (length s) 1) _ e))

  -- no byte, or several, are not the end
  pub not_at_end : (length s ≡ 1 → ⊥) → at_end s ≡ false
  not_at_end h = rw (ne_eqb (length s) 1 h) refl

  -- a byte other than zero is not the end
  pub nonzero_not_at_end : 0 < get_or s 0 0 → at_end s ≡ false
  nonzero_not_at_end h = rw (ne_eqb (get_or s 0 0) closing_zero (omega arith)) (and-false (eqb (length s) 1))

  -- a zero that is not the end has bytes after it
  zero_not_at_end : at_end s ≡ false → get_or s 0 0 ≡ closing_zero → length s ≡ 1 → ⊥
  zero_not_at_end o z h = let x : ◌≡◌ {A = ℕ} 0 1 = ap (λ (b : Bool). cond b 0 1) (sym (at_end_zero h z) ∙ o) in omega arith

-- The cases of `next_entry`.

-- no bytes: the closing zero is missing
pub next_unclosed : (s : List ℕ) → length s ≡ 0 → next_entry s ≡ Fault unclosed_reason 0
unfolding next_entry
next_unclosed s h = simp (eq-eqb (length s) 0 h)

module _ (s : List ℕ) (h : 0 < length s) where
  -- a zero with bytes after it
  pub next_trailing : get_or s 0 0 ≡ closing_zero → next_entry s ≡ Fault trailing_reason 1
  unfolding next_entry
  next_trailing z = simp (ne_eqb (length s) 0 (omega arith), eq-eqb (get_or s 0 0) closing_zero z)

  -- a length shorter than the head
  pub next_short : 0 < get_or s 0 0 → get_or s 0 0 < entry_head_size → next_entry s ≡ Fault short_reason 0
  unfolding next_entry
  next_short p z =
      simp (ne_eqb (length s) 0 (omega arith), ne_eqb (get_or s 0 0) closing_zero (omega arith), lt-ltb (get_or s 0 0) entry_head_size z)

  -- a length past the end
  pub next_past_end : entry_head_size ≤ get_or s 0 0 → length s < get_or s 0 0 → next_entry s ≡ Fault past_end_reason 0
  unfolding next_entry
  next_past_end p z =
      simp (ne_eqb (length s) 0 (omega arith), ne_eqb (get_or s 0 0) closing_zero (omega arith), le-ltb (get_or s 0 0) entry_head_size p, lt-ltb (length s) (get_or s 0 0) z)

-- a length from the head's size to the end: an entry
pub next_complete : (s : List ℕ) → entry_head_size ≤ get_or s 0 0 → get_or s 0 0 ≤ length s
    → next_entry s ≡ Entry (get_or s 0 0) (get_or s 1 0) (get_or s 2 0) (word_at s 3)
unfolding next_entry
next_complete s p z =
    simp (ne_eqb (length s) 0 (omega arith), ne_eqb (get_or s 0 0) closing_zero (omega arith), le-ltb (get_or s 0 0) entry_head_size p, le-ltb (length s) (get_or s 0 0) z)

-- what each case says about the bytes; a fault is one only if the list is not at its end
abbrev pub NextFacts : List ℕ → NextEntry → Type 0
NextFacts s (Entry l p c h) =
    (entry_head_size ≤ l) × (l ≤ length s) × (l ≡ get_or s 0 0) × (p ≡ get_or s 1 0) × (c ≡ get_or s 2 0) × (h ≡ word_at s 3)
NextFacts s (Fault r a) = at_end s ≡ false → FaultAt s r a

module _ (s : List ℕ) where
  -- the next entry says what the bytes are
  pub next_facts : NextFacts s (next_entry s)
  unfolding next_entry
  next_facts =
      by_cond (NextFacts s) (eqb (length s) 0) _ _ (λ n o. unclosed refl (omega (arith, eqb-true (length s) 0 n))) λ n.
      by_cond (NextFacts s) (eqb (get_or s 0 0) closing_zero) _ _
      (λ z o.
      let g = eqb-true (get_or s 0 0) closing_zero z in
      trailing refl (omega arith) (omega (arith, eqb-false (length s) 0 n, zero_not_at_end s o g)) g)
      λ z.
      by_cond (NextFacts s) (ltb (get_or s 0 0) entry_head_size) _ _
      (λ p o. short refl (omega (arith, eqb-false (length s) 0 n)) (omega (arith, eqb-false (get_or s 0 0) closing_zero z)) (ltb-true _ _ p))
      λ p.
      by_cond (NextFacts s) (ltb (length s) (get_or s 0 0)) _ _
      (λ q o. past_end refl (omega (arith, eqb-false (length s) 0 n)) (ltb-false _ _ p) (omega (arith, ltb-true (length s) (get_or s 0 0) q)))
      λ q.
      (ltb-false _ _ p, ltb-false _ _ q, refl, refl, refl, refl)

  -- the same for a known case
  pub next_facts_of : {n : NextEntry} → next_entry s ≡ n → NextFacts s n
  next_facts_of e = subst (NextFacts s) e next_facts

  -- an entry has at least its head and lies in the list
  pub entry_sized : {l p c h : ℕ} → next_entry s ≡ Entry l p c h → (entry_head_size ≤ l) × (l ≤ length s)
  entry_sized e = let z = next_facts_of e in (z.0, z.1)

  -- an entry is not the end
  pub entry_not_at_end : {l p c h : ℕ} → next_entry s ≡ Entry l p c h → at_end s ≡ false
  entry_not_at_end e = let z = entry_sized e in not_at_end s (omega arith)

-- an entry at a place of a list lies in the list
pub entry_sized_at : (s : List ℕ) (at : ℕ) {l p c h : ℕ} → at ≤ length s → next_entry (slice s at (length s - at)) ≡ Entry l p c h
    → (entry_head_size ≤ l) × (at + l ≤ length s)
entry_sized_at s at k e =
    let z = entry_sized (drop at s) (ap next_entry (sym (slice_to_end at s)) ∙ e) in
    let n : length (drop at s) ≡ length s - at = length-drop at s in
    (z.0, omega arith)
