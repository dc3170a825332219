-- Laws of two-byte numbers.
use mathlib.Core.Path.{◌≡◌}
use Prim.Native.Nat.{ℕ, ◌<◌}
use native.Mathlib.Omega.{arith}
use Rattle.dpa.specs.Number.{low, high, word}

-- a number is made of its two bytes
pub word_split : (x : ℕ) → word (low x) (high x) ≡ x
word_split x = omega arith

-- the low byte of a number is the one that it was made of
pub low_word : (a b : ℕ) → a < 256 → low (word a b) ≡ a
low_word a b h = omega arith

-- the high byte of a number is the one that it was made of
pub high_word : (a b : ℕ) → a < 256 → high (word a b) ≡ b
high_word a b h = omega arith

-- a number of two bytes is below 65,536
pub word_max : (a b : ℕ) → a < 256 → b < 256 → word a b < 65536
word_max a b h k = omega arith
