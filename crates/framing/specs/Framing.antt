-- Document 000, 2.3.2: flag, escape, a framed message. Document 02, change 5: the sender.
use Rattle.std.specs.Prelude.{ℕ, ◌≤◌, ◌≡◌, List, [], ◌∷◌, ◌++◌, Bool, cond, ◌||◌, length, eqb, ltb, leb}
use Rattle.std.specs.Int.Bits.{bit_xor}
use Rattle.dpa.specs.Answer.{LengthResult, result_in_buffer}
use Rattle.crc.specs.CheckByte.{check_byte}

-- Flag Sequence: the first and the last byte of a framed message
abbrev pub flag : ℕ
flag = 0x7E

-- Control Escape
abbrev pub escape : ℕ
escape = 0x7D

-- Escape Bit
abbrev pub escape_bit : ℕ
escape_bit = 0x20

-- a byte with the other value of its escape bit: what follows an escape
abbrev pub flipped : ℕ → ℕ
flipped b = bit_xor b escape_bit

-- a byte that has a meaning of its own on the line
unfoldable pub reserved : ℕ → Bool
reserved b = eqb b flag || eqb b escape

-- one byte of a message on the line: a flag and an escape are written as two bytes
unfoldable pub escaped : ℕ → List ℕ
escaped b = cond (reserved b) (escape ∷ flipped b ∷ []) (b ∷ [])

-- the bytes of a message on the line
unfoldable pub escaped_all : List ℕ → List ℕ
escaped_all [] = []
escaped_all (b ∷ bs) = escaped b ++ escaped_all bs

-- a message with its check byte
abbrev pub with_check_byte : List ℕ → List ℕ
with_check_byte m = m ++ (check_byte m ∷ [])

-- bytes between two flags
abbrev pub between_flags : List ℕ → List ℕ
between_flags bytes = flag ∷ (escaped_all bytes ++ (flag ∷ []))

-- a framed message
abbrev pub framed : List ℕ → List ℕ
framed m = between_flags (with_check_byte m)

-- the shortest and the longest message, in bytes without the check byte
abbrev pub shortest : ℕ
shortest = 6

abbrev pub longest : ℕ
longest = 64

-- n is the length of the longest framed message: none is longer, and one is as long
pub record LongestFramed (n : ℕ) : Type 0 where
  pub none_longer : (m : List ℕ) → length m ≤ longest → length (framed m) ≤ n
  pub message : List ℕ
  pub sized : (shortest ≤ length message) × (length message ≤ longest)
  pub as_long : length (framed message) ≡ n

-- `frame`: a message of fewer than 6 or more than 64 bytes: 2; a buffer that the framed message does not fit: 11
unfoldable pub frame_of : List ℕ → List ℕ → LengthResult
frame_of m o =
    cond (ltb (length m) shortest) (result_in_buffer 2 [] o)
    (cond (ltb longest (length m)) (result_in_buffer 2 [] o)
    (cond (leb (length (framed m)) (length o)) (result_in_buffer 0 (framed m) o)
    (result_in_buffer 11 [] o)))
