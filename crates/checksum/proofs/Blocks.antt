-- The plain sums over a block, reduced once, are the sums with carries.
use mathlib.Core.Path.{◌≡◌, refl, sym, ap, ◌∙◌}
use mathlib.Core.List.{List, [], ◌∷◌, ◌++◌}
use Prim.Native.Nat.{ℕ, suc, ◌+◌, ◌%◌, ◌<◌}
use native.Mathlib.Omega.{arith}
use Rattle.std.proofs.lemmas.Bool.Decides.{nat_tests}
use native.Mathlib.Numerals.{add-one}
use lib.ListN.{length, take, drop, get_or}
use lib.Seq.{drop-cons}
use Rattle.std.proofs.lemmas.List.{take_more}
use Rattle.dpa.specs.Lists.{Bytes}
use Rattle.checksum.specs.declared.sums.Sums.{Sums}
use Rattle.checksum.specs.declared.sums.PlainSums.{PlainSums}
use Rattle.checksum.specs.Sums.{byte_max, add_with_carry, add_byte, sums}
use Rattle.checksum.specs.Blocks.{plainly, add_plain, plain_sums, reduce, reduce_sums, block_sums}
use Rattle.checksum.proofs.Fletcher.{add_with_carry_byte, add_with_carry_remainder, add_with_carry_zero}

-- a reduced sum is a byte
pub reduce_byte : (x : ℕ) → reduce x < 256
unfolding reduce
reduce_byte x = grind (arith, nat_tests)

-- it is congruent to the sum modulo 255
pub reduce_remainder : (x : ℕ) → reduce x % byte_max ≡ x % byte_max
unfolding reduce
reduce_remainder x = grind (arith, nat_tests)

-- it is 0 only for 0
pub reduce_zero : (x : ℕ) → reduce x ≡ 0 → x ≡ 0
unfolding reduce
reduce_zero x e = grind (arith, nat_tests)

-- no other byte is congruent to the sum and 0 exactly where the sum is
pub reduce_unique : (r x : ℕ) → r < 256 → r % byte_max ≡ x % byte_max → (r ≡ 0 → x ≡ 0) → (x ≡ 0 → r ≡ 0) → r ≡ reduce x
unfolding reduce
reduce_unique r x h m f g = grind (arith, nat_tests)

-- a byte is its own reduction
pub byte_stays : (x : ℕ) → x < 256 → reduce x ≡ x
byte_stays x h = sym (reduce_unique x x h refl (λ e. e) (λ e. e))

-- the byte sum of two zeros is 0
zero_sum : add_with_carry 0 0 ≡ 0
unfolding add_with_carry
zero_sum = refl

-- reduced sums add up, with carry, to the reduced sum
pub reduce_add : (x y : ℕ) → add_with_carry (reduce x) (reduce y) ≡ reduce (x + y)
reduce_add x y =
    reduce_unique (add_with_carry (reduce x) (reduce y)) (x + y)
    (add_with_carry_byte _ _ (reduce_byte x) (reduce_byte y))
    (add_with_carry_remainder _ _ (reduce_byte x) (reduce_byte y) ∙ omega (arith, reduce_remainder x, reduce_remainder y))
    (λ e. let s = add_with_carry_zero (reduce x) (reduce y) e in omega (arith, reduce_zero x (omega arith), reduce_zero y (omega arith)))
    zero
  where
    zero : x + y ≡ 0 → add_with_carry (reduce x) (reduce y) ≡ 0
    zero e =
        let p : x ≡ 0 = omega arith in
        let q : y ≡ 0 = omega arith in
        rw (p, q, byte_stays 0 (omega arith)) zero_sum

-- one byte added to reduced sums
byte_added : (s : PlainSums) (b : ℕ) → b < 256 → add_byte (reduce_sums s) b ≡ reduce_sums (add_plain s b)
unfolding add_byte
byte_added s b h =
    let l : add_with_carry (reduce s.low) b ≡ reduce (s.low + b) = ap (add_with_carry (reduce s.low)) (sym (byte_stays b h)) ∙ reduce_add s.low b in
    rw (l, reduce_add s.high (s.low + b))

-- all bytes of a block added to reduced sums
plain_reduced : (s : PlainSums) (block : List ℕ) → Bytes block → sums (reduce_sums s) block ≡ reduce_sums (plain_sums s block)
unfolding sums plain_sums
plain_reduced s [] k = refl
plain_reduced s (b ∷ bs) k = ap (λ (t : Sums). sums t bs) (byte_added s b (k 0)) ∙ plain_reduced (add_plain s b) bs (λ i. k (suc i))

-- from any two bytes, over any bytes, the plain sums reduced once are the sums of document 01
pub block_sums_lem : (s : Sums) (block : List ℕ) → s.low < 256 → s.high < 256 → Bytes block → sums s block ≡ block_sums s block
block_sums_lem s block l h k =
    let e : reduce_sums (plainly s) ≡ s = rw (byte_stays s.low l, byte_stays s.high h) in
    ap (λ (t : Sums). sums t block) (sym e) ∙ plain_reduced (plainly s) block k

-- one more byte at the end
plain_sums_last : (s : PlainSums) (xs : List ℕ) (b : ℕ) → plain_sums s (xs ++ b ∷ []) ≡ add_plain (plain_sums s xs) b
unfolding plain_sums
plain_sums_last s [] b = refl
plain_sums_last s (x ∷ xs) b = plain_sums_last (add_plain s x) xs b

-- the plain sums of the bytes before place i + 1
pub plain_sums_more : (s r : PlainSums) (block : List ℕ) (i b : ℕ) → i < length block → b ≡ get_or block i 0
    → r ≡ plain_sums s (take i block) → add_plain r b ≡ plain_sums s (take (i + 1) block)
plain_sums_more s r block i b h p q = rw (q, p, take_more block i 0 h) (sym (plain_sums_last s (take i block) (get_or block i 0)))

-- the bytes still to add plainly, after one more
pub plain_next : (block : List ℕ) (s : PlainSums) (i : ℕ) → i < length block
    → plain_sums s (drop i block) ≡ plain_sums (add_plain s (get_or block i 0)) (drop (i + 1) block)
unfolding plain_sums
plain_next block s i h = rw (add-one, drop-cons block i 0)
