-- Which lamps a bitmap selects, and how many.
use mathlib.Core.Path.{◌≡◌, refl, sym, ap, ap₂, ◌∙◌}
use mathlib.Core.List.{List, [], ◌∷◌, ◌++◌}
use Prim.Native.Nat.{ℕ, zero, suc, ◌+◌, ◌-◌, ◌/◌, ◌%◌, ◌^◌, ◌≤◌, ◌<◌}
use native.Mathlib.Nat.{div-div-eq-div-mul, pow-suc, mul_comm}
use native.Mathlib.Omega.{arith}
use lib.ListN.{length, get_or, take, length-append, get_or-append}
use lib.Seq.{get_or-append-add, take_all}
use lib.Dec.{ltb}
use lib.Count.{ones}
use borrow.Author.Tests.{ltb-true, ltb-false}
use Rattle.dpa.specs.Settings.{max_lamps}
use Rattle.dpa.specs.Lists.{Bytes, number_below}
use Rattle.dpa.proofs.Bool.{by_test, number_same, number_shift}
use Rattle.lights.specs.Bits.{bits, count, bitmap, mask_of, selected}
use Rattle.lights.proofs.Bits.{is_set, set_exact, bits_length, mask_max, bits_mask, ones_count}

-- bit i of a number
pub bit_at : (k m i : ℕ) → i < k → get_or (bits k m) i 0 ≡ m / 2 ^ i % 2
unfolding bits
bit_at zero m i h = absurd (omega arith)
bit_at (suc k) m zero h = omega arith
bit_at (suc k) m (suc i) h =
    bit_at k (m / 2) i (omega arith)
    ∙ ap (λ (x : ℕ). x % 2) (div-div-eq-div-mul m 2 (2 ^ i) ∙ ap (λ (x : ℕ). m / x) (mul_comm 2 (2 ^ i) ∙ sym (pow-suc 2 i)))

front_at : (b : ℕ) (rest : List ℕ) (k : ℕ) → k < 8 → get_or (bits 8 b ++ rest) k 0 ≡ b / 2 ^ k % 2
front_at b rest k h =
    let l : k < length (bits 8 b) = omega (arith, bits_length 8 b) in
    get_or-append (bits 8 b) rest 0 k l ∙ bit_at 8 b k h

rear_at : (b : ℕ) (rest : List ℕ) (k : ℕ) → 8 ≤ k → get_or (bits 8 b ++ rest) k 0 ≡ get_or rest (k - 8) 0
rear_at b rest k h =
    let e : k ≡ length (bits 8 b) + (k - 8) = omega (arith, bits_length 8 b) in
    ap (λ (j : ℕ). get_or (bits 8 b ++ rest) j 0) e ∙ get_or-append-add (bits 8 b) rest (k - 8) 0

-- a bit for each lamp
pub bitmap_length : (xs : List ℕ) → length (bitmap xs) ≡ max_lamps
unfolding bitmap
bitmap_length xs =
    let b : ℕ → List ℕ = λ i. bits 8 (get_or xs i 0) in
    let e : (i : ℕ) → length (b i) ≡ 8 = λ i. bits_length 8 (get_or xs i 0) in
    let f : length (b 2 ++ b 3) ≡ 16 = omega (arith, length-append (b 2) (b 3), e 2, e 3) in
    let g : length (b 1 ++ (b 2 ++ b 3)) ≡ 24 = omega (arith, length-append (b 1) (b 2 ++ b 3), e 1, f) in
    omega (arith, length-append (b 0) (b 1 ++ (b 2 ++ b 3)), e 0, g)

-- bit k of the bitmap is bit k mod 8 of byte k / 8
pub bitmap_at : (xs : List ℕ) (k : ℕ) → k < max_lamps → get_or (bitmap xs) k 0 ≡ get_or xs (k / 8) 0 / 2 ^ (k % 8) % 2
unfolding bitmap
bitmap_at xs k h =
    let place : (q r : ℕ) → q ≡ k / 8 → r ≡ k % 8 → get_or xs q 0 / 2 ^ r % 2 ≡ get_or xs (k / 8) 0 / 2 ^ (k % 8) % 2 =
    λ q r e f. ap₂ (λ (x y : ℕ). get_or xs x 0 / 2 ^ y % 2) e f in
    by_test (ltb k 8)
    (λ t. let l : k < 8 = ltb-true k 8 t in
    front_at _ _ k l ∙ place 0 k (omega arith) (omega arith))
    (λ t. let l : 8 ≤ k = ltb-false k 8 t in
    rear_at _ _ k l ∙ by_test (ltb k 16)
    (λ u. let m : k < 16 = ltb-true k 16 u in
    front_at _ _ (k - 8) (omega arith) ∙ place 1 (k - 8) (omega arith) (omega arith))
    (λ u. let m : 16 ≤ k = ltb-false k 16 u in
    rear_at _ _ (k - 8) (omega arith) ∙ by_test (ltb k 24)
    (λ v. let n : k < 24 = ltb-true k 24 v in
    front_at _ _ (k - 8 - 8) (omega arith) ∙ place 2 (k - 8 - 8) (omega arith) (omega arith))
    (λ v. let n : 24 ≤ k = ltb-false k 24 v in
    rear_at _ _ (k - 8 - 8) (omega arith) ∙ bit_at 8 _ (k - 8 - 8 - 8) (omega arith) ∙ place 3 (k - 8 - 8 - 8) (omega arith) (omega arith))))

-- lamp k is selected if bit k is 1
pub selected_bit : (xs : List ℕ) (k : ℕ) → k < max_lamps → is_set (get_or (bitmap xs) k 0) ≡ selected xs k
unfolding selected
selected_bit xs k h = ap is_set (bitmap_at xs k h) ∙ set_exact (get_or xs (k / 8) 0 / 2 ^ (k % 8) % 2) (omega arith)

-- the ones among the first k bits
number_count : (bs : List ℕ) (k : ℕ) → k ≤ length bs → number_below k (λ i. is_set (get_or bs i 0)) ≡ count (take k bs)
unfolding number_below
number_count bs zero h = refl
number_count [] (suc k) h = absurd (omega arith)
number_count (zero ∷ bs) (suc k) h = number_shift k (λ i. is_set (get_or (zero ∷ bs) i 0)) ∙ omega (arith, number_count bs k (omega arith))
number_count (suc b ∷ bs) (suc k) h = number_shift k (λ i. is_set (get_or (suc b ∷ bs) i 0)) ∙ omega (arith, number_count bs k (omega arith))

-- the ones below bit k are the selected lamps below k
pub rank_selected : (xs : List ℕ) (k : ℕ) → k ≤ max_lamps → count (take k (bitmap xs)) ≡ number_below k (selected xs)
rank_selected xs k h =
    sym (number_count (bitmap xs) k (omega (arith, bitmap_length xs)))
    ∙ number_same k (λ i. is_set (get_or (bitmap xs) i 0)) (selected xs) (λ i l. selected_bit xs i (omega arith))

-- the number of 1-bits is the number of selected lamps
pub count_selected : (xs : List ℕ) → count (bitmap xs) ≡ number_below max_lamps (selected xs)
count_selected xs = sym (ap count (take_all max_lamps (bitmap xs) (omega (arith, bitmap_length xs)))) ∙ rank_selected xs max_lamps (omega arith)

-- `count_ones` of the mask is the number of selected lamps
pub mask_selected : (xs : List ℕ) → Bytes xs → ones (mask_of xs) ≡ number_below max_lamps (selected xs)
mask_selected xs small =
    ones_count max_lamps (mask_of xs) (mask_max xs small) ∙ ap count (bits_mask xs small) ∙ count_selected xs
