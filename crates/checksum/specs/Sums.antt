-- Document 01, "OS 02", code check: the checksum.
use Rattle.std.specs.Prelude.{ℕ, ◌+◌, ◌-◌, List, [], ◌∷◌, cond, ltb}
use Rattle.dpa.specs.Number.{word}
use Rattle.checksum.specs.declared.sums.Sums.{Sums}

-- the largest byte
abbrev pub byte_max : ℕ
byte_max = 255

-- a byte sum, plus 1 if it passed 255
unfoldable pub add_with_carry : ℕ → ℕ → ℕ
add_with_carry a b = cond (ltb byte_max (a + b)) (a + b - 256 + 1) (a + b)

-- one byte: low plus byte, then high plus low
unfoldable pub add_byte : Sums → ℕ → Sums
add_byte s b = record { low = add_with_carry s.low b; high = add_with_carry s.high (add_with_carry s.low b) }

-- all bytes of a list, in order
unfoldable pub sums : Sums → List ℕ → Sums
sums s [] = s
sums s (b ∷ bs) = sums (add_byte s b) bs

-- the sums before the first byte
abbrev pub start : ℕ → Sums
start initial = record { low = initial; high = 0 }

-- the checksum as a two-byte number
abbrev pub checksum : Sums → ℕ
checksum s = word s.low s.high
