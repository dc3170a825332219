-- Document 02, change 4: a block of bytes is summed plainly and reduced once.
use Rattle.std.specs.Prelude.{ℕ, ◌+◌, ◌-◌, ◌%◌, List, [], ◌∷◌, cond, eqb}
use Rattle.checksum.specs.declared.sums.Sums.{Sums}
use Rattle.checksum.specs.declared.sums.PlainSums.{PlainSums}
use Rattle.checksum.specs.Sums.{byte_max}

-- the most bytes in a block
abbrev pub block_max : ℕ
block_max = 64

-- a low and a high sum, plain and with carries
abbrev pub plain : ℕ → ℕ → PlainSums
plain low high = record { low = low; high = high }

abbrev pub pair : ℕ → ℕ → Sums
pair low high = record { low = low; high = high }

-- sums before a block, to be added to plainly
abbrev pub plainly : Sums → PlainSums
plainly s = plain s.low s.high

-- one byte: low plus byte, then high plus low, without carries
abbrev pub add_plain : PlainSums → ℕ → PlainSums
add_plain s b = plain (s.low + b) (s.high + (s.low + b))

-- all bytes of a block, in order
unfoldable pub plain_sums : PlainSums → List ℕ → PlainSums
plain_sums s [] = s
plain_sums s (b ∷ bs) = plain_sums (add_plain s b) bs

-- the byte for a plain sum: 0 for 0, else the number from 1 to 255 that is congruent to it modulo 255
unfoldable pub reduce : ℕ → ℕ
reduce sum = cond (eqb sum 0) 0 ((sum - 1) % byte_max + 1)

-- both sums reduced
abbrev pub reduce_sums : PlainSums → Sums
reduce_sums s = pair (reduce s.low) (reduce s.high)

-- the sums after a block
abbrev pub block_sums : Sums → List ℕ → Sums
block_sums s block = reduce_sums (plain_sums (plainly s) block)
