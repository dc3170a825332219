-- Laws of parsing the power entries of a request.
use mathlib.Core.Path.{◌≡◌, refl, sym, ap, subst, ◌∙◌}
use mathlib.Core.Bool.{Bool, true, false, cond}
use mathlib.Core.List.{List, [], ◌∷◌}
use Prim.Native.Nat.{ℕ, zero, suc, ◌+◌, ◌-◌, ◌%◌, ◌≤◌, ◌<◌}
use native.Mathlib.Omega.{arith}
use native.Mathlib.Numerals.{add-one}
use lib.ListN.{length, get_or, drop, length-drop, drop_of_length-le}
use lib.Seq.{drop-cons, drop-drop}
use lib.Dec.{ltb, eqb}
use borrow.Author.Tests.{lt-ltb, le-ltb, ltb-true, ltb-false, eq-eqb, ne_eqb, eqb-false, not-true}
use Rattle.dpa.proofs.Bool.{by_cond, by_test}
use Rattle.std.specs.Prelude.{Option, Some, None}
use Rattle.lights.specs.Lights.{bit7, power_ok, time_ok, seconds_of, power_entry, timed_power_entry, first_power_entry, is_valid, PowerEntries, all_valid, malformed, prepend, followed_by, power_entries, are_valid, changes_of}
use Rattle.lights.specs.declared.power.PowerEntry.{PowerEntry}

-- ---- the power entry at an index: one law for each return of `power_entry_at`

module _ (src : List ℕ) (at : ℕ) where
  abbrev byte : ℕ
  byte = get_or src at 0

  abbrev time : ℕ
  time = get_or src (at + 1) 0

  -- no power byte
  pub power_entry_past_end : length src ≤ at → None ≡ first_power_entry (drop at src)
  power_entry_past_end h = rw (drop_of_length-le src h)

  module _ (h : at < length src) where
    -- the power is out of range
    pub power_entry_bad_power : power_ok (byte % bit7) ≡ false → None ≡ first_power_entry (drop at src)
    power_entry_bad_power p = rw (drop-cons src at 0, p)

    module _ (p : power_ok (byte % bit7) ≡ true) where
      -- valid, without a time byte
      pub power_entry_untimed : byte < bit7 → Some (power_entry (byte % bit7) 0 1) ≡ first_power_entry (drop at src)
      power_entry_untimed l = rw (drop-cons src at 0, p, lt-ltb byte bit7 l)

      module _ (l : bit7 ≤ byte) where
        -- the time byte is missing
        pub power_entry_no_time : length src ≤ at + 1 → None ≡ first_power_entry (drop at src)
        power_entry_no_time g = rw (drop-cons src at 0, p, le-ltb byte bit7 l, ← add-one at, drop_of_length-le src g)

        -- with a time byte: valid if that is
        pub power_entry_timed : at + 1 < length src → (ok : Bool) → time_ok time ≡ ok
            → cond ok (Some (power_entry (byte % bit7) (seconds_of time) 2)) None ≡ first_power_entry (drop at src)
        power_entry_timed g ok e = rw (drop-cons src at 0, p, le-ltb byte bit7 l, ← add-one at, drop-cons src (at + 1) 0, e)

-- ---- a valid power entry passes every test

module _ (src : List ℕ) (at : ℕ) (v : is_valid (first_power_entry (drop at src)) ≡ true) where
  not_invalid : {R : Type 0} → None ≡ first_power_entry (drop at src) → R
  not_invalid q = let z : ◌≡◌ {A = ℕ} 0 1 = cc in absurd (omega arith)

  -- the power byte is inside the bytes
  pub valid_inside : at < length src
  valid_inside = by_test (ltb at (length src)) (ltb-true _ _) (λ t. not_invalid (power_entry_past_end src at (ltb-false _ _ t)))

  valid_power : power_ok (get_or src at 0 % bit7) ≡ true
  valid_power = by_test (power_ok (get_or src at 0 % bit7)) (λ t. t) (λ t. not_invalid (power_entry_bad_power src at valid_inside t))

  module _ (l : bit7 ≤ get_or src at 0) where
    -- the time byte is inside the bytes too
    pub valid_time_inside : at + 1 < length src
    valid_time_inside =
        by_test (ltb (at + 1) (length src)) (ltb-true _ _) (λ t. not_invalid (power_entry_no_time src at valid_inside valid_power l (ltb-false _ _ t)))

-- ---- the power entries of a request

-- the default for an index past the end of a list
abbrev pub zero_entry : PowerEntry
zero_entry = power_entry 0 0 0

-- valid power entries are their changes
pub valid_changes : (r : PowerEntries) → are_valid r ≡ true → r ≡ all_valid (changes_of r)
valid_changes (all_valid es) g = refl
valid_changes malformed g = let z : ◌≡◌ {A = ℕ} 0 1 = cc in absurd (omega arith)

-- those that are not valid are malformed
pub not_valid_malformed : (r : PowerEntries) → are_valid r ≡ false → r ≡ malformed
not_valid_malformed (all_valid es) g = let z : ◌≡◌ {A = ℕ} 0 1 = cc in absurd (omega arith)
not_valid_malformed malformed g = refl

-- a valid power entry in front does not change whether all are valid
pub valid_prepend : (e : PowerEntry) (r : PowerEntries) → are_valid (prepend e r) ≡ are_valid r
valid_prepend e (all_valid es) = refl
valid_prepend e malformed = refl

-- it comes first
pub changes_prepend : (e : PowerEntry) (r : PowerEntries) → are_valid r ≡ true → changes_of (prepend e r) ≡ e ∷ changes_of r
changes_prepend e (all_valid es) g = refl
changes_prepend e malformed g = let z : ◌≡◌ {A = ℕ} 0 1 = cc in absurd (omega arith)

-- if all power entries are valid, the first one is
pub first_valid : (f : Option PowerEntry) (rest : ℕ → PowerEntries) → are_valid (followed_by f rest) ≡ true → is_valid f ≡ true
first_valid (Some e) rest g = refl
first_valid None rest g = g

-- a valid power entry is a power byte alone, or a power byte and a valid time byte
pub first_cases : (P : List ℕ → PowerEntry → Type 0)
    → ((b : ℕ) (xs : List ℕ) → power_ok (b % bit7) ≡ true → P (b ∷ xs) (power_entry (b % bit7) 0 1))
    → ((b t : ℕ) (xs : List ℕ) → power_ok (b % bit7) ≡ true → time_ok t ≡ true → P (b ∷ t ∷ xs) (power_entry (b % bit7) (seconds_of t) 2))
    → (xs : List ℕ) (e : PowerEntry) → first_power_entry xs ≡ Some e → P xs e
first_cases P f g [] e h = let z : ◌≡◌ {A = ℕ} 0 1 = cc in absurd (omega arith)
first_cases P f g (b ∷ xs) e h = go (power_ok (b % bit7)) (ltb b bit7) xs refl h
  where
    none : (ys : List ℕ) → None ≡ Some e → P ys e
    none ys q = let z : ◌≡◌ {A = ℕ} 0 1 = cc in absurd (omega arith)

    last : (t : ℕ) (ys : List ℕ) (z : Bool) → power_ok (b % bit7) ≡ true → time_ok t ≡ z
        → cond z (Some (power_entry (b % bit7) (seconds_of t) 2)) None ≡ Some e → P (b ∷ t ∷ ys) e
    last t ys true p k q = subst (P (b ∷ t ∷ ys)) (cc) (g b t ys p k)
    last t ys false p k q = none (b ∷ t ∷ ys) q

    go : (p q : Bool) (ys : List ℕ) → power_ok (b % bit7) ≡ p
        → cond p (cond q (Some (power_entry (b % bit7) 0 1)) (timed_power_entry (b % bit7) ys)) None ≡ Some e → P (b ∷ ys) e
    go true true ys p r = subst (P (b ∷ ys)) (cc) (f b ys p)
    go true false [] p r = none (b ∷ []) r
    go true false (t ∷ ys) p r = last t ys (time_ok t) p refl r
    go false q ys p r = none (b ∷ ys) r

-- a valid time is at least one second
pub time_positive : (t : ℕ) → time_ok t ≡ true → seconds_of t ≡ 0 → ⊥
unfolding time_ok seconds_of
time_positive t k =
    let low : t % bit7 ≡ 0 → ⊥ = eqb-false (t % bit7) 0 (not-true _ k) in
    by_cond (λ (n : ℕ). n ≡ 0 → ⊥) (ltb t bit7) _ _ (λ e z. low (omega (arith, z))) (λ e z. low z)

-- so the seconds of a valid power entry are 0 exactly if it is a power byte alone
pub untimed_exact : (xs : List ℕ) (e : PowerEntry) → first_power_entry xs ≡ Some e → eqb e.seconds 0 ≡ eqb e.size 1
untimed_exact =
    first_cases (λ xs (e : PowerEntry). eqb e.seconds 0 ≡ eqb e.size 1) (λ b xs p. refl)
    (λ b t xs p k. ne_eqb (seconds_of t) 0 (time_positive t k))

-- a power entry has a byte, and is no longer than the bytes it is parsed from
pub first_size_lem : (xs : List ℕ) (e : PowerEntry) → first_power_entry xs ≡ Some e → (0 < e.size) × (e.size ≤ length xs)
first_size_lem =
    first_cases (λ xs (e : PowerEntry). (0 < e.size) × (e.size ≤ length xs)) (λ b xs p. (omega arith, omega arith)) (λ b t xs p k. (omega arith, omega arith))

-- it ends inside the source
pub first_room : (src : List ℕ) (at : ℕ) (e : PowerEntry) → first_power_entry (drop at src) ≡ Some e → e.size ≤ length src - at
first_room src at e h = rw length-drop at (first_size_lem (drop at src) e h).1

module _ (src : List ℕ) (at k n : ℕ) where
  -- the loop passes a valid power entry
  pub valid_more : (e : PowerEntry) → k < n → first_power_entry (drop at src) ≡ Some e
      → are_valid (power_entries (n - k) (drop at src)) ≡ are_valid (power_entries (n - (k + 1)) (drop (at + e.size) src))
  valid_more e h q =
      let j : n - k ≡ suc (n - (k + 1)) = omega arith in
      rw (j, q, drop-drop) (valid_prepend e (power_entries (n - (k + 1)) (drop (at + e.size) src)))

  -- after the last one no byte may follow
  pub valid_end : n ≤ k → at ≤ length src → are_valid (power_entries (n - k) (drop at src)) ≡ eqb at (length src)
  valid_end h l =
      let j : n - k ≡ 0 = omega arith in
      rw j (by_test (ltb at (length src))
      (λ t. let a : at < length src = ltb-true _ _ t in
      rw (drop-cons src at 0 a, ne_eqb at (length src) (λ e. omega arith)))
      (λ t. let a : length src ≤ at = ltb-false _ _ t in
      rw (drop_of_length-le src a, eq-eqb at (length src) (omega arith))))

-- ---- properties of all power entries

-- as many power entries as asked for; a property of every valid one holds for each
pub power_entries_each : (Q : PowerEntry → Type 0) → Q zero_entry → (n : ℕ) (xs : List ℕ) (es : List PowerEntry)
    → ((j : ℕ) (e : PowerEntry) → first_power_entry (drop j xs) ≡ Some e → Q e)
    → power_entries n xs ≡ all_valid es → (length es ≡ n) × ((i : ℕ) → Q (get_or es i zero_entry))
power_entries_each Q q zero [] es w h = let e : es ≡ [] = cc in rw e (refl, λ i. q)
power_entries_each Q q zero (x ∷ xs) es w h = let z : ◌≡◌ {A = ℕ} 0 1 = cc in absurd (omega arith)
power_entries_each Q q (suc n) xs es w h = go (λ size fs. power_entries_each Q q n (drop size xs) fs) (first_power_entry xs) refl h
  where
    Each : ℕ → List PowerEntry → Type 0
    Each k fs = (length fs ≡ k) × ((i : ℕ) → Q (get_or fs i zero_entry))

    Later : Type 0
    Later = (size : ℕ) (fs : List PowerEntry) → ((j : ℕ) (e : PowerEntry) → first_power_entry (drop j (drop size xs)) ≡ Some e → Q e)
        → power_entries n (drop size xs) ≡ all_valid fs → Each n fs

    each : (e : PowerEntry) (fs : List PowerEntry) → Q e → Each n fs → (i : ℕ) → Q (get_or (e ∷ fs) i zero_entry)
    each e fs a r zero = a
    each e fs a r (suc i) = r.1 i

    rest : Later → (e : PowerEntry) (r : PowerEntries) → first_power_entry xs ≡ Some e → power_entries n (drop e.size xs) ≡ r → prepend e r ≡ all_valid es → Each (suc n) es
    rest ih e malformed f g p = let z : ◌≡◌ {A = ℕ} 0 1 = cc in absurd (omega arith)
    rest ih e (all_valid fs) f g p =
        let k : es ≡ e ∷ fs = cc in
        let t : Each n fs = ih e.size fs (λ j d u. w (e.size + j) d (sym (ap first_power_entry (drop-drop j e.size xs)) ∙ u)) g in
        rw k (ap suc t.0, each e fs (w 0 e f) t)

    go : Later → (f : Option PowerEntry) → first_power_entry xs ≡ f → followed_by f (λ size. power_entries n (drop size xs)) ≡ all_valid es → Each (suc n) es
    go ih (Some e) f p = rest ih e (power_entries n (drop e.size xs)) f refl p
    go ih None f p = let z : ◌≡◌ {A = ℕ} 0 1 = cc in absurd (omega arith)

-- as many power entries as asked for
pub power_entries_length : (n : ℕ) (xs : List ℕ) (es : List PowerEntry) → power_entries n xs ≡ all_valid es → length es ≡ n
power_entries_length n xs es h = (power_entries_each (λ (e : PowerEntry). Unit {0}) tt n xs es (λ j e f. tt) h).0
