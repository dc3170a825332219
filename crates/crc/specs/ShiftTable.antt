-- The table by which the code computes the check byte.
use Rattle.std.specs.Prelude.{ℕ, zero, suc, ◌+◌, ◌*◌, List, [], ◌∷◌}
use Rattle.crc.specs.declared.check_byte.Digits.{Digits}
use Rattle.crc.specs.CheckByte.{shifts}

-- bytes that are added at once
abbrev pub bytes_at_once : ℕ
bytes_at_once = 4

-- f of the n numbers from i on
unfoldable pub table_from : {A : Type 0} → (ℕ → A) → ℕ → ℕ → List A
table_from f i zero = []
table_from f i (suc n) = f i ∷ table_from f (suc i) n

-- what is left of each digit of a byte, low or high, when the byte and the n bytes after it are shifted out
abbrev pub digits_after : ℕ → Digits
digits_after n =
    record {
      low = table_from (λ d. shifts (8 * (n + 1)) d) 0 16;
      high = table_from (λ d. shifts (8 * (n + 1)) (d * 16)) 0 16;
    }

unfoldable pub shift_table : List Digits
shift_table = table_from digits_after 0 bytes_at_once
