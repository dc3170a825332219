-- Laws of the two checksum sums.
use mathlib.Core.Path.{◌≡◌, refl}
use mathlib.Core.List.{List, [], ◌∷◌, ◌++◌}
use Prim.Native.Nat.{ℕ, ◌+◌, ◌%◌, ◌≤◌, ◌<◌}
use native.Mathlib.Omega.{arith}
use Rattle.std.proofs.lemmas.Bool.Decides.{nat_tests}
use Rattle.checksum.specs.declared.sums.Sums.{Sums}
use Rattle.checksum.specs.Sums.{byte_max, add_with_carry, add_byte, sums, start}

-- the sums over two lists in a row
pub sums_append : (s : Sums) (xs ys : List ℕ) → sums s (xs ++ ys) ≡ sums (sums s xs) ys
unfolding sums
sums_append s [] ys = refl
sums_append s (x ∷ xs) ys = sums_append (add_byte s x) xs ys

-- a byte sum is a byte
pub add_with_carry_byte : (a b : ℕ) → a < 256 → b < 256 → add_with_carry a b < 256
unfolding add_with_carry
add_with_carry_byte a b ha hb = grind (arith, nat_tests)

-- a byte sum is congruent to the plain sum modulo 255
pub add_with_carry_remainder : (a b : ℕ) → a < 256 → b < 256 → add_with_carry a b % byte_max ≡ (a + b) % byte_max
unfolding add_with_carry
add_with_carry_remainder a b ha hb = grind (arith, nat_tests)

-- but it is 0 only if both terms are: a byte sum can be 255
pub add_with_carry_zero : (a b : ℕ) → add_with_carry a b ≡ 0 → a + b ≡ 0
unfolding add_with_carry
add_with_carry_zero a b e = grind (arith, nat_tests)

-- neither sum is 0
abbrev pub Nonzero : Sums → Type 0
Nonzero s = (1 ≤ s.low) × (1 ≤ s.high)

-- a byte sum with a term above 0 is above 0
add_with_carry_positive : (a b : ℕ) → 1 ≤ a + b → 1 ≤ add_with_carry a b
add_with_carry_positive a b h =
    let z : add_with_carry a b ≡ 0 → ⊥ = λ e. let s = add_with_carry_zero a b e in omega arith in
    omega arith

-- a byte makes the high sum nonzero if the low sum was
byte_nonzero : (s : Sums) (b : ℕ) → 1 ≤ s.low → Nonzero (add_byte s b)
unfolding add_byte
byte_nonzero s b l =
    let p = add_with_carry_positive s.low b (omega arith) in
    (p, add_with_carry_positive s.high (add_with_carry s.low b) (omega arith))

-- sums that are not 0 stay so
sums_nonzero : (s : Sums) (bytes : List ℕ) → Nonzero s → Nonzero (sums s bytes)
unfolding sums
sums_nonzero s [] n = n
sums_nonzero s (b ∷ bs) n = sums_nonzero (add_byte s b) bs (byte_nonzero s b n.0)

-- no byte of an image's checksum is 0, since the low sum starts from 1 or 3
pub image_sums_nonzero : (initial b : ℕ) (bytes : List ℕ) → 1 ≤ initial → Nonzero (sums (start initial) (b ∷ bytes))
unfolding sums
image_sums_nonzero initial b bytes h = sums_nonzero (add_byte (start initial) b) bytes (byte_nonzero (start initial) b h)
