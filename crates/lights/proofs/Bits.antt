-- Laws of bits and of the bitmap.
use mathlib.Core.Path.{◌≡◌, refl, sym, ap, ap₂, ◌∙◌, subst}
use mathlib.Core.Bool.{Bool, true, false}
use mathlib.Core.List.{List, [], ◌∷◌, ◌++◌}
use Prim.Native.Nat.{ℕ, zero, suc, ◌+◌, ◌-◌, ◌*◌, ◌/◌, ◌%◌, ◌^◌, ◌≤◌, ◌<◌, min, zero-le}
use native.Mathlib.Nat.{suc-add, pow-suc}
use native.Mathlib.Numerals.{add-one}
use native.Mathlib.Omega.{arith}
use lib.ListN.{length, get_or}
use lib.Arith.{lt-one}
use lib.Pow.{shr_lt}
use lib.Bits.{block_half, block_odd, bit_and, and_step, and_self}
use lib.Count.{ones, ones_step, count_trailing_zeros, under}
use lib.Dec.{eqb}
use Rattle.dpa.specs.Settings.{max_lamps}
use Rattle.dpa.specs.Lists.{Bytes}
use Rattle.lights.specs.Bits.{bits, count, bitmap, mask_of}

-- an element of a list of bits is 1
abbrev pub is_set : ℕ → Bool
is_set zero = false
is_set (suc b) = true

pub set_exact : (b : ℕ) → b < 2 → is_set b ≡ eqb b 1
set_exact zero h = refl
set_exact (suc zero) h = refl
set_exact (suc (suc b)) h = absurd (omega arith)

-- the first bit counts if it is 1
pub count_cons : (b : ℕ) (bs : List ℕ) → b < 2 → count (b ∷ bs) ≡ b + count bs
count_cons zero bs h = omega arith
count_cons (suc zero) bs h = omega arith
count_cons (suc (suc b)) bs h = absurd (omega arith)

half_lt : (k n : ℕ) → n < 2 ^ suc k → n / 2 < 2 ^ k
half_lt k n h = shr_lt k 1 (subst (λ (x : ℕ). n < 2 ^ x) (sym (add-one k)) h)

-- `count_ones` is the number of 1-bits
pub ones_count : (k n : ℕ) → n < 2 ^ k → ones n ≡ count (bits k n)
unfolding ones bits
ones_count zero n h = ap ones (lt-one h)
ones_count (suc k) n h =
    ones_step n ∙ ap (λ (x : ℕ). n % 2 + x) (ones_count k (n / 2) (half_lt k n h)) ∙ sym (count_cons (n % 2) (bits k (n / 2)) (omega arith))

-- k bits are k long
pub bits_length : (k n : ℕ) → length (bits k n) ≡ k
unfolding bits
bits_length zero n = refl
bits_length (suc k) n = ap suc (bits_length k (n / 2))

-- no bit of 0 is 1
pub count_none : (k : ℕ) → count (bits k 0) ≡ 0
unfolding bits
count_none zero = refl
count_none (suc k) = count_none k

-- no more ones than bits
pub count_length : (bs : List ℕ) → count bs ≤ length bs
count_length [] = zero-le
count_length (zero ∷ bs) = omega (arith, count_length bs)
count_length (suc b ∷ bs) = omega (arith, count_length bs)

-- no more than k of k bits are 1
pub count_le : (k n : ℕ) → count (bits k n) ≤ k
count_le k n = omega (arith, count_length (bits k n), bits_length k n)

-- the bits of a number made of a low and a high part
bits_cat : (k j a r : ℕ) → r < 2 ^ k → bits (k + j) (a * 2 ^ k + r) ≡ bits k r ++ bits j a
unfolding bits
bits_cat zero j a r h =
    let e : 0 + j ≡ j = omega arith in
    let f : a * 1 + r ≡ a = omega (arith, lt-one h) in
    ap₂ bits e f
bits_cat (suc k) j a r h =
    ap (λ (x : ℕ). bits x (a * 2 ^ suc k + r)) (suc-add k j)
    ∙ ap₂ (λ (x y : ℕ). x ∷ bits (k + j) y) (block_odd a k r) (block_half a k r)
    ∙ ap (λ (l : List ℕ). r % 2 ∷ l) (bits_cat k j a (r / 2) (half_lt k r h))

-- the mask of four bytes has a bit for each lamp
pub mask_max : (xs : List ℕ) → Bytes xs → mask_of xs < 2 ^ max_lamps
mask_max xs small = omega (arith, small 0, small 1, small 2, small 3)

-- the mask has the bits of the bitmap
pub bits_mask : (xs : List ℕ) → Bytes xs → bits max_lamps (mask_of xs) ≡ bitmap xs
unfolding bitmap
bits_mask xs small =
    let b0 = get_or xs 0 0 in
    let b1 = get_or xs 1 0 in
    let b2 = get_or xs 2 0 in
    let b3 = get_or xs 3 0 in
    let e : mask_of xs ≡ (b1 + 256 * b2 + 65536 * b3) * 256 + b0 = omega arith in
    let f : b1 + 256 * b2 + 65536 * b3 ≡ (b2 + 256 * b3) * 256 + b1 = omega arith in
    let g : b2 + 256 * b3 ≡ b3 * 256 + b2 = omega arith in
    ap (bits max_lamps) e
    ∙ bits_cat 8 24 (b1 + 256 * b2 + 65536 * b3) b0 (small 0)
    ∙ ap (λ (l : List ℕ). bits 8 b0 ++ l)
    (ap (bits 24) f ∙ bits_cat 8 16 (b2 + 256 * b3) b1 (small 1)
    ∙ ap (λ (l : List ℕ). bits 8 b1 ++ l) (ap (bits 16) g ∙ bits_cat 8 8 b3 b2 (small 2)))

-- the lowest bit, and the others
pub bits_cons : (k m b q : ℕ) → m % 2 ≡ b → m / 2 ≡ q → bits (suc k) m ≡ b ∷ bits k q
unfolding bits
bits_cons k m b q low high = ap₂ (λ (x y : ℕ). x ∷ bits k y) low high

-- ---- the lowest 1-bit

-- P k m i r is about a number m of k bits, whose lowest 1-bit is bit i, and which is r without it
pub by_lowest : (P : ℕ → ℕ → ℕ → ℕ → Type 0)
    → ((k m : ℕ) → m % 2 ≡ 1 → P (suc k) m 0 (m - 1))
    → ((k m i r : ℕ) → (m ≡ 0 → ⊥) → m % 2 ≡ 0 → P k (m / 2) i r → P (suc k) m (suc i) (r * 2))
    → (k m : ℕ) → (m ≡ 0 → ⊥) → m < 2 ^ k → P k m (count_trailing_zeros k m) (m - 2 ^ count_trailing_zeros k m)
unfolding count_trailing_zeros
by_lowest P odd even zero m some h = absurd (some (lt-one h))
by_lowest P odd even (suc k) m some h =
    go (count_trailing_zeros k (m / 2)) (m % 2) refl (λ (e : m % 2 ≡ 0). by_lowest P odd even k (m / 2) (λ z. some (omega arith)) (half_lt k m h))
  where
    go : (t b : ℕ) → m % 2 ≡ b → (m % 2 ≡ 0 → P k (m / 2) t (m / 2 - 2 ^ t)) → P (suc k) m (under b t) (m - 2 ^ under b t)
    go t zero e rest =
        let double : (m / 2 - 2 ^ t) * 2 ≡ m - 2 ^ suc t = omega (arith, pow-suc 2 t) in
        subst (P (suc k) m (suc t)) double (even k m t (m / 2 - 2 ^ t) some e (rest e))
    go t (suc b) e rest = odd k m (omega arith)

module _ (k m : ℕ) (some : m ≡ 0 → ⊥) (h : m < 2 ^ k) where
  -- it is one of the bits
  pub lowest_inside : count_trailing_zeros k m < k
  lowest_inside = by_lowest (λ (k m i r : ℕ). i < k) (λ k m z. omega arith) (λ k m i r x z p. omega arith) k m some h

  -- without it the number is smaller
  pub lowest_less : m - 2 ^ count_trailing_zeros k m < m
  lowest_less = by_lowest (λ (k m i r : ℕ). r < m) (λ k m z. omega arith) (λ k m i r x z p. omega arith) k m some h

  -- and has one 1-bit less
  pub lowest_counts : count (bits k m) ≡ suc (count (bits k (m - 2 ^ count_trailing_zeros k m)))
  lowest_counts =
      by_lowest (λ (k m i r : ℕ). count (bits k m) ≡ suc (count (bits k r)))
      (λ k m z. rw (bits_cons k m 1 (m / 2) z refl, bits_cons k (m - 1) 0 (m / 2) (omega arith) (omega arith)))
      (λ k m i r x z p. rw (bits_cons k m 0 (m / 2) z refl, bits_cons k (r * 2) 0 r (omega arith) (omega arith)) p) k m some h

  -- `m & (m - 1)` removes it
  pub lowest_removed : bit_and m (m - 1) ≡ m - 2 ^ count_trailing_zeros k m
  lowest_removed =
      by_lowest (λ (k m i r : ℕ). bit_and m (m - 1) ≡ r)
      (λ k m z. halves m (m / 2) (m / 2) (omega arith) (omega arith) (and_self (m / 2)) ∙ omega arith)
      (λ k m i r x z p. halves m (m / 2 - 1) r (omega arith) (omega arith) p) k m some h
    where
      halves : (m q r : ℕ) → (m - 1) / 2 ≡ q → min (m % 2) ((m - 1) % 2) ≡ 0 → bit_and (m / 2) q ≡ r → bit_and m (m - 1) ≡ r * 2
      halves m q r e z p =
          and_step m (m - 1) ∙ ap₂ (λ (x y : ℕ). x * 2 + y) (ap (bit_and (m / 2)) e ∙ p) z ∙ omega arith
