-- A change of one byte changes the CRC, so it makes the check byte wrong.
use mathlib.Core.Path.{◌≡◌, refl, sym, ap, ◌∙◌}
use mathlib.Core.Bool.{Bool, true, cond}
use mathlib.Core.List.{List, [], ◌∷◌}
use Prim.Native.Nat.{ℕ, zero, suc, ◌+◌, ◌≤◌, ◌<◌}
use native.Mathlib.Omega.{arith}
use lib.Bits.{bit_xor, xor_comm, xor_self, xor_lt}
use lib.Dec.{eqb, ltb}
use lib.ListN.{length, get_or, take, set}
use lib.Seq.{take-set-le, take-set-lt, get_or-take, get_or-set_same, get_or-set_other, length-take-le}
use borrow.Author.Tests.{ltb-true, eqb-true, eqb-false, eq-eqb}
use Rattle.dpa.specs.Lists.{Bytes, all_below, fold}
use Rattle.dpa.proofs.Bool.{all_below_elim, by_test}
use Rattle.dpa.proofs.Bytes.{bytes_take}
use Rattle.crc.specs.CheckByte.{initial_crc, shift, shifts, crc_byte, crc_bytes, check_byte}
use Rattle.crc.proofs.Xor.{xor_zero_same, xor_cancel}
use Rattle.crc.proofs.CheckBytes.{shifts_linear}

-- ---- eight shifts

-- eight shifts of a byte are a byte, and not 0 unless the byte is
abbrev shift_test : ℕ → Bool
shift_test k = cond (eqb (shifts 8 k) 0) (eqb k 0) (ltb (shifts 8 k) 256)

shifts_tested : (x : ℕ) → x < 256 → shift_test x ≡ true
unfolding shift shifts all_below
shifts_tested x h = all_below_elim 256 shift_test refl x h

shifts_byte : (x : ℕ) → x < 256 → shifts 8 x < 256
shifts_byte x h =
    by_test (eqb (shifts 8 x) 0)
    (λ e. let z = eqb-true (shifts 8 x) 0 e in omega arith)
    (λ e. ltb-true _ _ (sym (ap (λ (t : Bool). cond t (eqb x 0) (ltb (shifts 8 x) 256)) e) ∙ shifts_tested x h))

shifts_zero : (x : ℕ) → x < 256 → shifts 8 x ≡ 0 → x ≡ 0
shifts_zero x h z = eqb-true _ _ (sym (ap (λ (t : Bool). cond t (eqb x 0) (ltb (shifts 8 x) 256)) (eq-eqb (shifts 8 x) 0 z)) ∙ shifts_tested x h)

-- different bytes stay different
shifts_same : (a b : ℕ) → a < 256 → b < 256 → shifts 8 a ≡ shifts 8 b → a ≡ b
shifts_same a b ha hb e =
    xor_zero_same a b (shifts_zero (bit_xor a b) (xor_lt 8 a b ha hb) (shifts_linear 8 a b ∙ ap (λ (x : ℕ). bit_xor x (shifts 8 b)) e ∙ xor_self (shifts 8 b)))

-- ---- the CRC

-- the CRC after a byte is a byte
crc_byte_lem : (crc b : ℕ) → crc < 256 → b < 256 → crc_byte crc b < 256
unfolding crc_byte
crc_byte_lem crc b h k = shifts_byte (bit_xor crc b) (xor_lt 8 crc b h k)

-- and so it is after any bytes
crc_bytes_lem : (bs : List ℕ) (crc : ℕ) → Bytes bs → crc < 256 → crc_bytes crc bs < 256
unfolding fold
crc_bytes_lem [] crc bytes h = h
crc_bytes_lem (b ∷ bs) crc bytes h = crc_bytes_lem bs (crc_byte crc b) (λ i. bytes (suc i)) (crc_byte_lem crc b h (bytes 0))

-- a check byte is a byte
pub check_byte_lem : (bs : List ℕ) → Bytes bs → check_byte bs < 256
check_byte_lem bs bytes = crc_bytes_lem bs initial_crc bytes (omega arith)

-- different bytes after the same CRC make it different
byte_same : (crc a b : ℕ) → crc < 256 → a < 256 → b < 256 → crc_byte crc a ≡ crc_byte crc b → a ≡ b
unfolding crc_byte
byte_same crc a b h ha hb e = xor_cancel crc a b (shifts_same (bit_xor crc a) (bit_xor crc b) (xor_lt 8 crc a h ha) (xor_lt 8 crc b h hb) e)

-- and a different CRC stays different over the same bytes
crc_same : (bs : List ℕ) (a b : ℕ) → Bytes bs → a < 256 → b < 256 → crc_bytes a bs ≡ crc_bytes b bs → a ≡ b
unfolding crc_byte fold
crc_same [] a b bytes ha hb e = e
crc_same (x ∷ xs) a b bytes ha hb e =
    let h = bytes 0 in
    let s = crc_same xs (crc_byte a x) (crc_byte b x) (λ i. bytes (suc i)) (crc_byte_lem a x ha h) (crc_byte_lem b x hb h) e in
    xor_cancel x a b
    (xor_comm x a ∙ shifts_same (bit_xor a x) (bit_xor b x) (xor_lt 8 a x ha h) (xor_lt 8 b x hb h) s ∙ xor_comm b x)

-- one different byte makes the CRC different
crc_changed : (bs : List ℕ) (crc i b : ℕ) → Bytes bs → crc < 256 → b < 256 → i < length bs → crc_bytes crc (set bs i b) ≡ crc_bytes crc bs → b ≡ get_or bs i 0
unfolding fold
crc_changed [] crc i b bytes h k l e = absurd (omega arith)
crc_changed (x ∷ xs) crc zero b bytes h k l e =
    byte_same crc b x h k (bytes 0) (crc_same xs (crc_byte crc b) (crc_byte crc x) (λ i. bytes (suc i)) (crc_byte_lem crc b h k) (crc_byte_lem crc x h (bytes 0)) e)
crc_changed (x ∷ xs) crc (suc i) b bytes h k l e = crc_changed xs (crc_byte crc x) i b (λ j. bytes (suc j)) (crc_byte_lem crc x h (bytes 0)) k (omega arith) e

-- ---- a message with its check byte

-- one different byte, the check byte or any other, makes the check byte wrong
pub check_changed : (w : List ℕ) (n i b : ℕ) → length w ≡ n + 1 → Bytes w → b < 256 → i ≤ n → (b ≡ get_or w i 0 → ⊥)
    → check_byte (take n w) ≡ get_or w n 0 → check_byte (take n (set w i b)) ≡ get_or (set w i b) n 0 → ⊥
check_changed w n i b l bytes k h new e e' =
    by_test (eqb i n)
    (λ t.
    let z = eqb-true i n t in
    new (sym (get_or-set_same w i b 0 (omega arith)) ∙ ap (λ (p : ℕ). get_or (set w i b) p 0) z ∙ sym e' ∙ ap check_byte (take-set-le n w i b (omega arith)) ∙ e ∙ ap (λ (p : ℕ). get_or w p 0) (sym z)))
    (λ t.
    let z = eqb-false i n t in
    let s : i < length (take n w) = rw (length-take-le n w (omega arith)) (omega arith) in
    new (crc_changed (take n w) initial_crc i b (bytes_take n w bytes) (omega arith) k s
    (ap check_byte (sym (take-set-lt n w i b (omega arith))) ∙ e' ∙ get_or-set_other w i n b 0 (λ q. z (sym q)) ∙ sym e)
    ∙ get_or-take n w i 0 (omega arith)))
