-- Laws of the check byte: it is linear, so that a block of bytes can be added at once; the table of the code; how the code adds a message.
use mathlib.Core.Path.{◌≡◌, refl, sym, ap, ◌∙◌}
use mathlib.Core.Bool.{cond}
use mathlib.Core.List.{List, [], ◌∷◌}
use Prim.Native.Nat.{ℕ, zero, suc, ◌+◌, ◌*◌, ◌/◌, ◌%◌, ◌<◌}
use native.Mathlib.Omega.{arith}
use Rattle.std.proofs.Common.{zero-add}
use Rattle.std.specs.List.{fold as list_fold}
use Rattle.std.specs.Simd.{first_chunks}
use lib.Bits.{bit_xor, xor_shr, xor_mod, xor_comm, xor_self, xor_zero_r, xor_assoc, xor_shifted}
use lib.Dec.{eqb}
use lib.ListN.{length, get_or, take, drop, take-append-drop}
use lib.Seq.{drop-drop}
use Rattle.dpa.specs.Lists.{fold}
use Rattle.crc.specs.CheckByte.{polynomial, initial_crc, shift, shifts, crc_byte, crc_bytes, check_byte}
use Rattle.crc.specs.declared.check_byte.Digits.{Digits}
use Rattle.crc.specs.declared.check_byte.TheConstants.{SHIFT_TABLE}
use Rattle.crc.specs.ShiftTable.{bytes_at_once, table_from, digits_after, shift_table}
use Rattle.dpa.proofs.Lists.{fold_append}
use Rattle.crc.proofs.Xor.{by_bit}

-- ---- linearity

-- a half with the polynomial added for the bit that left
abbrev half : ℕ → ℕ → ℕ
half h bit = cond (eqb bit 1) (bit_xor h polynomial) h

half_linear : (x y a b : ℕ) → half (bit_xor x y) (bit_xor (a % 2) (b % 2)) ≡ bit_xor (half x (a % 2)) (half y (b % 2))
half_linear x y a b =
    let P : ℕ → ℕ → Type 0 = λ p q. half (bit_xor x y) (bit_xor p q) ≡ bit_xor (half x p) (half y q) in
    by_bit (λ (p : ℕ). P p (b % 2))
    (by_bit (P 0) refl (xor_assoc x y polynomial) b)
    (by_bit (P 1) (left x y) (both x y) b)
    a
  where
    left : (x y : ℕ) → bit_xor (bit_xor x y) polynomial ≡ bit_xor (bit_xor x polynomial) y
    left x y = xor_assoc x y polynomial ∙ ap (bit_xor x) (xor_comm y polynomial) ∙ sym (xor_assoc x polynomial y)

    both : (x y : ℕ) → bit_xor x y ≡ bit_xor (bit_xor x polynomial) (bit_xor y polynomial)
    both x y =
        sym (xor_zero_r (bit_xor x y)) ∙ ap (bit_xor (bit_xor x y)) (sym (xor_self polynomial)) ∙ sym (xor_assoc (bit_xor x y) polynomial polynomial)
        ∙ ap (λ (z : ℕ). bit_xor z polynomial) (left x y) ∙ xor_assoc (bit_xor x polynomial) y polynomial

shift_linear : (a b : ℕ) → shift (bit_xor a b) ≡ bit_xor (shift a) (shift b)
unfolding shift
shift_linear a b = rw (xor_shr a b 1, xor_mod a b 1) (half_linear (a / 2) (b / 2) a b)

-- shifts of a sum are the sum of the shifts
pub shifts_linear : (n a b : ℕ) → shifts n (bit_xor a b) ≡ bit_xor (shifts n a) (shifts n b)
unfolding shifts
shifts_linear zero a b = refl
shifts_linear (suc n) a b = ap (shifts n) (shift_linear a b) ∙ shifts_linear n (shift a) (shift b)

-- shifts one after the other
pub shifts_add : (n m a : ℕ) → shifts m (shifts n a) ≡ shifts (n + m) a
unfolding shifts
shifts_add zero m a = let z : 0 + m ≡ m = omega arith in rw z
shifts_add (suc n) m a = let z : suc n + m ≡ suc (n + m) = omega arith in rw z (shifts_add n m (shift a))

-- ---- the CRC of a list

-- the CRC over no bytes
pub crc_none : (crc : ℕ) → crc_bytes crc [] ≡ crc
unfolding fold
crc_none crc = refl

-- eight shifts more
past : (x : ℕ) (bs : List ℕ) → crc_bytes (shifts 8 x) bs ≡ bit_xor (shifts (8 * length bs) (shifts 8 x)) (crc_bytes 0 bs)
    → crc_bytes (shifts 8 x) bs ≡ bit_xor (shifts (8 * suc (length bs)) x) (crc_bytes 0 bs)
past x bs e =
    let z : 8 + 8 * length bs ≡ 8 * suc (length bs) = omega arith in
    e ∙ ap (λ (y : ℕ). bit_xor y (crc_bytes 0 bs)) (shifts_add 8 (8 * length bs) x ∙ ap (λ (n : ℕ). shifts n x) z)

-- a CRC before some bytes is shifted past them and added to their own
pub crc_split : (crc : ℕ) (bs : List ℕ) → crc_bytes crc bs ≡ bit_xor (shifts (8 * length bs) crc) (crc_bytes 0 bs)
unfolding crc_byte shifts fold
crc_split crc [] = sym (xor_zero_r crc)
crc_split crc (b ∷ bs) =
    let n = 8 * suc (length bs) in
    past (bit_xor crc b) bs (crc_split (shifts 8 (bit_xor crc b)) bs) ∙ ap (λ (y : ℕ). bit_xor y (crc_bytes 0 bs)) (shifts_linear n crc b)
    ∙ xor_assoc (shifts n crc) (shifts n b) (crc_bytes 0 bs) ∙ ap (bit_xor (shifts n crc)) (sym (past b bs (crc_split (shifts 8 b) bs)))

-- the first byte is shifted past the others and added to their CRC
pub crc_cons : (crc b : ℕ) (bs : List ℕ) → crc_bytes crc (b ∷ bs) ≡ bit_xor (shifts (8 * suc (length bs)) (bit_xor crc b)) (crc_bytes 0 bs)
unfolding crc_byte fold
crc_cons crc b bs = past (bit_xor crc b) bs (crc_split (shifts 8 (bit_xor crc b)) bs)

-- ---- the table

entry_from : {A : Type 0} (f : ℕ → A) (d : A) (i n k : ℕ) → k < n → get_or (table_from f i n) k d ≡ f (i + k)
unfolding table_from
entry_from f d i zero k h = absurd (omega arith)
entry_from f d i (suc n) zero h = let z : i + 0 ≡ i = omega arith in rw z
entry_from f d i (suc n) (suc k) h = let z : i + suc k ≡ suc i + k = omega arith in rw z (entry_from f d (suc i) n k (omega arith))

-- the numbers of the code are those of the definition: the checker computes them
table_right : SHIFT_TABLE ≡ shift_table
unfolding shift shifts table_from shift_table
table_right = refl

-- an entry of the table
table_entry : (n : ℕ) (d : Digits) → n < bytes_at_once → get_or SHIFT_TABLE n d ≡ digits_after n
unfolding shift_table
table_entry n d h = ap (λ (t : List Digits). get_or t n d) table_right ∙ entry_from digits_after d 0 bytes_at_once n h ∙ ap digits_after (zero-add n)

-- the numbers of the table for the two digits of a byte that n bytes follow
pub table_digits : (n b low high : ℕ) (d : Digits) → n < bytes_at_once → b < 256 → low ≡ b % 16 → high ≡ b / 16
    → bit_xor (get_or (get_or SHIFT_TABLE n d).low low 0) (get_or (get_or SHIFT_TABLE n d).high high 0) ≡ shifts (8 * (n + 1)) b
table_digits n b low high d h l el eh =
    let low_of = λ (x : ℕ). shifts (8 * (n + 1)) x in
    let high_of = λ (x : ℕ). shifts (8 * (n + 1)) (x * 16) in
    let digits : bit_xor low (high * 16) ≡ b = xor_comm low (high * 16) ∙ xor_shifted high 4 low (omega arith) ∙ omega arith in
    rw (table_entry n d h, entry_from low_of 0 0 16 low (omega arith), entry_from high_of 0 0 16 high (omega arith), zero-add low, zero-add high)
    (sym (shifts_linear (8 * (n + 1)) low (high * 16)) ∙ ap (shifts (8 * (n + 1))) digits)

-- ---- blocks

-- a block of four bytes: each is shifted past the later ones
pub block_sum : (crc : ℕ) (bs : List ℕ) → length bs ≡ bytes_at_once
    → bit_xor (shifts 32 (bit_xor crc (get_or bs 0 0))) (bit_xor (bit_xor (shifts 24 (get_or bs 1 0)) (shifts 16 (get_or bs 2 0))) (shifts 8 (get_or bs 3 0)))
    ≡ crc_bytes crc bs
block_sum crc (a ∷ b ∷ c ∷ d ∷ []) h =
    simp (crc_cons crc a (b ∷ c ∷ d ∷ []), crc_cons 0 b (c ∷ d ∷ []), crc_cons 0 c (d ∷ []), crc_cons 0 d [], crc_none 0, xor_zero_r, xor_assoc)
block_sum crc [] h = absurd (omega arith)
block_sum crc (a ∷ []) h = absurd (omega arith)
block_sum crc (a ∷ b ∷ []) h = absurd (omega arith)
block_sum crc (a ∷ b ∷ c ∷ []) h = absurd (omega arith)
block_sum crc (a ∷ b ∷ c ∷ d ∷ e ∷ rest) h = absurd (omega arith)

-- bytes that are added one by one
bytes_added : (crc : ℕ) (bs : List ℕ) → list_fold crc_byte crc bs ≡ crc_bytes crc bs
unfolding fold
bytes_added crc [] = refl
bytes_added crc (b ∷ bs) = bytes_added (crc_byte crc b) bs

-- blocks, and then the bytes after them
blocks_added : (n crc : ℕ) (bs : List ℕ) → crc_bytes (list_fold crc_bytes crc (first_chunks bytes_at_once n bs)) (drop (n * bytes_at_once) bs) ≡ crc_bytes crc bs
blocks_added zero crc bs = refl
blocks_added (suc n) crc bs =
    let z : bytes_at_once + n * bytes_at_once ≡ suc n * bytes_at_once = omega arith in
    rw (← z, ← drop-drop (n * bytes_at_once) bytes_at_once bs)
    (blocks_added n (crc_bytes crc (take bytes_at_once bs)) (drop bytes_at_once bs)
    ∙ sym (fold_append crc_byte crc (take bytes_at_once bs) (drop bytes_at_once bs))
    ∙ ap (crc_bytes crc) (take-append-drop bytes_at_once bs))

-- a whole message
pub message_added : (bs rest : List ℕ) (blocks : List (List ℕ)) (crc sum : ℕ)
    → blocks ≡ first_chunks bytes_at_once (length bs / bytes_at_once) bs → rest ≡ drop (length bs / bytes_at_once * bytes_at_once) bs
    → crc ≡ list_fold crc_bytes initial_crc blocks → sum ≡ list_fold crc_byte crc rest → sum ≡ check_byte bs
message_added bs rest blocks crc sum eb er ec es =
    es ∙ bytes_added crc rest ∙ rw (ec, eb, er) (blocks_added (length bs / bytes_at_once) initial_crc bs)
