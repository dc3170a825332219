-- Laws of tests and of choices by a test.
use mathlib.Core.Path.{◌≡◌, refl, sym, ap, ap₂, ◌∙◌}
use mathlib.Core.Bool.{Bool, true, false, cond, ◌&&◌, ◌||◌, beq}
use Prim.Native.Nat.{ℕ, zero, suc, ◌+◌, ◌≤◌, ◌<◌}
use native.Mathlib.Nat.{add-zero, add-suc}
use native.Mathlib.Omega.{arith}
use native.Mathlib.Numerals.{add-one}
use lib.Dec.{eqb}
use borrow.Author.Tests.{eqb-true, eqb-false, ne_eqb}
use Rattle.dpa.specs.Lists.{all_below, number_below}

-- the first test of a true conjunction is true
pub and_left : (a b : Bool) → (a && b) ≡ true → a ≡ true
and_left true b e = refl
and_left false b e = e

-- the second test of a true conjunction is true
pub and_right : (a b : Bool) → (a && b) ≡ true → b ≡ true
and_right true b e = e
and_right false b e = cc

-- two true tests give a true conjunction
pub both : {a b : Bool} → a ≡ true → b ≡ true → (a && b) ≡ true
both p q = rw (p, q)

-- a false second test gives a false conjunction
pub and_right_false : (a b : Bool) → b ≡ false → (a && b) ≡ false
and_right_false true b e = e
and_right_false false b e = refl

-- a true disjunction whose second test is false has a true first one
pub or_left : (a b : Bool) → b ≡ false → (a || b) ≡ true → a ≡ true
or_left true b n e = refl
or_left false b n e = sym n ∙ e

-- a true disjunction whose first test is false has a true second one
pub or_right : (a b : Bool) → a ≡ false → (a || b) ≡ true → b ≡ true
or_right true b n e = cc
or_right false b n e = e

-- Bools that compare as equal are equal
pub beq_eq : (a b : Bool) → beq a b ≡ true → a ≡ b
beq_eq true true e = refl
beq_eq true false e = sym e
beq_eq false true e = e
beq_eq false false e = refl

-- a test that cannot be true is false
pub never_true : (b : Bool) → (b ≡ true → ⊥) → b ≡ false
never_true true h = absurd (h refl)
never_true false h = refl

-- P holds for `cond b x y` if it holds for x when b is true and for y when b is false
pub by_cond : {A : Type 0} (P : A → Type 0) (b : Bool) (x y : A) → (b ≡ true → P x) → (b ≡ false → P y) → P (cond b x y)
by_cond P true x y f g = f refl
by_cond P false x y f g = g refl

-- the same for a statement without a `cond`
pub by_test : {R : Type 0} (b : Bool) → (b ≡ true → R) → (b ≡ false → R) → R
by_test true f g = f refl
by_test false f g = g refl

-- a `cond` whose value cannot be its first side took its second one
pub else_taken : (b : Bool) (k m n : ℕ) → (k ≡ n → ⊥) → cond b k m ≡ n → (b ≡ false) × (m ≡ n)
else_taken true k m n h e = absurd (h e)
else_taken false k m n h e = (refl, e)

-- a `cond` whose value cannot be its second side took its first one
pub then_taken : (b : Bool) (k m n : ℕ) → (m ≡ n → ⊥) → cond b k m ≡ n → (b ≡ true) × (k ≡ n)
then_taken true k m n h e = (refl, e)
then_taken false k m n h e = absurd (h e)

-- Laws of `all_below`

-- the test over one more number
pub all_below_next : (i : ℕ) (f : ℕ → Bool) (a b : Bool) → a ≡ all_below i f → b ≡ f i → (a && b) ≡ all_below (i + 1) f
unfolding all_below
all_below_next i f a b p q = rw (add-one, p, q)

-- a test that holds for each number below n holds for all of them
pub all_below_intro : (n : ℕ) (f : ℕ → Bool) → ((k : ℕ) → k < n → f k ≡ true) → all_below n f ≡ true
unfolding all_below
all_below_intro zero f h = refl
all_below_intro (suc n) f h = both (all_below_intro n f (λ k l. h k (omega arith))) (h n (omega arith))

last_or : (n k : ℕ) (f : ℕ → Bool) (b : Bool) → eqb k n ≡ b → k < suc n → f n ≡ true → (k < n → f k ≡ true) → f k ≡ true
last_or n k f true e l p h = rw (eqb-true k n e) p
last_or n k f false e l p h = h (omega (arith, eqb-false k n e))

-- two tests over all numbers below n are one
pub all_below_both : (n : ℕ) (f g : ℕ → Bool) → (all_below n f && all_below n g) ≡ all_below n (λ k. f k && g k)
unfolding all_below
all_below_both zero f g = refl
all_below_both (suc n) f g = exchange (all_below n f) (f n) (all_below n g) (g n) ∙ ap (λ (b : Bool). b && (f n && g n)) (all_below_both n f g)
  where
    exchange : (a b c d : Bool) → ((a && b) && (c && d)) ≡ ((a && c) && (b && d))
    exchange true true c d = refl
    exchange true false true d = refl
    exchange true false false d = refl
    exchange false b c d = refl

-- tests that agree on each number agree on all numbers below n
pub all_below_same : (n : ℕ) (f g : ℕ → Bool) → ((k : ℕ) → f k ≡ g k) → all_below n f ≡ all_below n g
unfolding all_below
all_below_same zero f g h = refl
all_below_same (suc n) f g h = rw (all_below_same n f g h, h n)

-- a true test over all numbers below n holds for each of them
pub all_below_elim : (n : ℕ) (f : ℕ → Bool) → all_below n f ≡ true → (k : ℕ) → k < n → f k ≡ true
unfolding all_below
all_below_elim zero f h k l = absurd (omega arith)
all_below_elim (suc n) f h k l = last_or n k f (eqb k n) refl l (and_right (all_below n f) _ h) (all_below_elim n f (and_left _ _ h) k)

-- a false test over all numbers below n fails for one of them
pub all_below_fails : {R : Type 0} (n : ℕ) (f : ℕ → Bool) → all_below n f ≡ false → ((k : ℕ) → k < n → f k ≡ false → R) → R
unfolding all_below
all_below_fails zero f e found = let z : ◌≡◌ {A = ℕ} 0 1 = cc in absurd (omega arith)
all_below_fails (suc n) f e found =
    by_test (f n) (λ t. all_below_fails n f (earlier (all_below n f) (f n) t e) (λ k h. found k (omega arith))) (found n (omega arith))
  where
    earlier : (a b : Bool) → b ≡ true → (a && b) ≡ false → a ≡ false
    earlier true b t e = let z : ◌≡◌ {A = ℕ} 0 1 = cc in absurd (omega arith)
    earlier false b t e = refl

-- Laws of `number_below`

-- tests that agree on each number below n hold for as many of them
pub number_same : (n : ℕ) (f g : ℕ → Bool) → ((k : ℕ) → k < n → f k ≡ g k) → number_below n f ≡ number_below n g
unfolding number_below
number_same zero f g h = refl
number_same (suc n) f g h =
    ap₂ (λ (x : ℕ) (b : Bool). x + cond b 1 0) (number_same n f g (λ k l. h k (omega arith))) (h n (omega arith))

-- a test that holds for no number below n
pub number_none : (n : ℕ) (f : ℕ → Bool) → ((k : ℕ) → k < n → f k ≡ false) → number_below n f ≡ 0
unfolding number_below
number_none zero f h = refl
number_none (suc n) f h = ap₂ (λ (x : ℕ) (b : Bool). x + cond b 1 0) (number_none n f (λ k l. h k (omega arith))) (h n (omega arith))

-- the first number apart
pub number_shift : (n : ℕ) (f : ℕ → Bool) → number_below (suc n) f ≡ cond (f 0) 1 0 + number_below n (λ k. f (suc k))
unfolding number_below
number_shift zero f = omega arith
number_shift (suc n) f = omega (arith, number_shift n f)

-- the first m numbers apart
pub number_add : (m n : ℕ) (f : ℕ → Bool) → number_below (m + n) f ≡ number_below m f + number_below n (λ k. f (m + k))
unfolding number_below
number_add m zero f = rw (add-zero m, add-zero (number_below m f))
number_add m (suc n) f = rw (add-suc m n) (omega (arith, number_add m n f))

-- no more than n of the numbers below n
pub number_max : (n : ℕ) (f : ℕ → Bool) → number_below n f ≤ n
unfolding number_below
number_max zero f = omega arith
number_max (suc n) f = by_cond (λ (x : ℕ). number_below n f + x ≤ suc n) (f n) 1 0 (λ t. omega (arith, number_max n f)) (λ t. omega (arith, number_max n f))

-- a test that also holds for a number a below n, for which it did not
pub number_added : (n : ℕ) (f : ℕ → Bool) (a : ℕ) → a < n → f a ≡ false → number_below n (λ k. eqb k a || f k) ≡ number_below n f + 1
unfolding number_below
number_added zero f a h e = absurd (omega arith)
number_added (suc n) f a h e =
    by_test (eqb n a)
    (λ t. let m : n ≡ a = eqb-true n a t in
    rw (number_same n (λ k. eqb k a || f k) f (λ k l. ap (λ (x : Bool). x || f k) (ne_eqb k a (λ z. omega arith))), t, ap f m ∙ e) (omega arith))
    (λ t. let m = eqb-false n a t in rw (number_added n f a (omega arith) e, t) (omega arith))
