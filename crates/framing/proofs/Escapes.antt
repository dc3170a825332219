-- Laws of escaped bytes, of the loop that writes them, and of a framed message.
use mathlib.Core.Path.{◌≡◌, refl, sym, ap, ◌∙◌}
use mathlib.Core.List.{List, [], ◌∷◌, ◌++◌, append_assoc, append-nil}
use Prim.Native.Nat.{ℕ, ◌+◌, ◌*◌, ◌≤◌, ◌<◌}
use native.Mathlib.Omega.{arith}
use native.Mathlib.Numerals.{add-one}
use Rattle.std.proofs.lemmas.Bool.Decides.{nat_tests}
use Rattle.std.specs.List.{sum_by}
use Rattle.std.proofs.lemmas.List.Sums.{sum_by-cons}
use lib.ListN.{length, get_or, take, drop, set, replicate, length-append, drop_of_length-le}
use lib.Seq.{drop-cons, take-append_seam, get_or-append_seam, sets, length-sets}
use Rattle.dpa.specs.Lists.{overwrite_front, fold}
use Rattle.dpa.proofs.Lists.{sets_append, sets_front}
use Rattle.crc.specs.CheckByte.{shift, shifts, crc_byte, check_byte}
use Rattle.framing.specs.Framing.{flag, escape, reserved, escaped, escaped_all, with_check_byte, framed, LongestFramed}

-- a byte takes one or two bytes on the line
pub escaped_size : (b : ℕ) → (1 ≤ length (escaped b)) × (length (escaped b) ≤ 2)
unfolding escaped
escaped_size b = (grind (arith, nat_tests), grind (arith, nat_tests))

-- and a message at most twice its bytes
pub escaped_max : (m : List ℕ) → length (escaped_all m) ≤ 2 * length m
unfolding escaped_all
escaped_max [] = omega arith
escaped_max (b ∷ bs) = omega (arith, length-append (escaped b) (escaped_all bs), escaped_size b, escaped_max bs)

-- a message takes what its bytes take
pub escaped_sum : (m : List ℕ) → sum_by (λ b. length (escaped b)) m ≡ length (escaped_all m)
unfolding escaped_all
escaped_sum [] = refl
escaped_sum (b ∷ bs) = sum_by-cons (λ (x : ℕ). length (escaped x)) b bs ∙ ap (λ (n : ℕ). length (escaped b) + n) (escaped_sum bs) ∙ sym (length-append (escaped b) (escaped_all bs))

-- a message of one byte
pub escaped_one : (b : ℕ) → escaped_all (b ∷ []) ≡ escaped b
unfolding escaped_all
escaped_one b = append-nil (escaped b)

-- two messages in a row
pub escaped_append : (xs ys : List ℕ) → escaped_all (xs ++ ys) ≡ escaped_all xs ++ escaped_all ys
unfolding escaped_all
escaped_append [] ys = refl
escaped_append (x ∷ xs) ys = rw (escaped_append xs ys) (sym (append_assoc (escaped x) (escaped_all xs) (escaped_all ys)))

-- the bytes from place i on: byte i, then the later ones
pub escaped_from : (m : List ℕ) (i : ℕ) → i < length m → escaped_all (drop i m) ≡ escaped (get_or m i 0) ++ escaped_all (drop (i + 1) m)
unfolding escaped_all
escaped_from m i h = rw (add-one, drop-cons m i 0 h)

-- no bytes
pub escaped_none : (m : List ℕ) (i : ℕ) → drop i m ≡ [] → escaped_all (drop i m) ≡ []
unfolding escaped_all
escaped_none m i e = rw e

-- ---- a loop that writes a message byte by byte

-- With the bytes from place i on still to be written from w on: written, they give the whole output.
pub record Unwritten (m old : List ℕ) (at : ℕ) (out : List ℕ) (w i : ℕ) : Type 0 where
  pub place : i ≤ length m
  pub same_length : length out ≡ length old
  pub end : w + length (escaped_all (drop i m)) ≡ at + length (escaped_all m)
  pub bytes : sets out w (escaped_all (drop i m)) ≡ sets old at (escaped_all m)

-- before the loop
pub write_start : (m old : List ℕ) (at : ℕ) → Unwritten m old at old at 0
write_start m old at = record { place = omega arith; same_length = refl; end = refl; bytes = refl }

module _ {m old out : List ℕ} {at w i : ℕ} (u : Unwritten m old at out w i) where
  -- there is room for byte i
  pub write_room : i < length m → at + length (escaped_all m) ≤ length old → w + length (escaped (get_or m i 0)) ≤ length out
  write_room h room =
      let n = ap length (escaped_from m i h) ∙ length-append (escaped (get_or m i 0)) (escaped_all (drop (i + 1) m)) in
      omega (arith, n, u.end, u.same_length)

  -- byte i is written
  pub write_next : i < length m → (out' : List ℕ) (w' : ℕ) → w' ≡ w + length (escaped (get_or m i 0)) → out' ≡ sets out w (escaped (get_or m i 0))
      → Unwritten m old at out' w' (i + 1)
  write_next h out' w' ew eo =
      let e = escaped (get_or m i 0) in
      let rest = escaped_all (drop (i + 1) m) in
      let n = ap length (escaped_from m i h) ∙ length-append e rest in
      record {
        place = omega arith;
        same_length = ap length eo ∙ length-sets out w e ∙ u.same_length;
        end = omega (arith, n, u.end);
        bytes = rw (eo, ew) (sym (sets_append out w e rest)) ∙ ap (sets out w) (sym (escaped_from m i h)) ∙ u.bytes;
      }

  -- after the loop
  pub write_end : length m ≤ i → (w ≡ at + length (escaped_all m)) × (out ≡ sets old at (escaped_all m))
  write_end h =
      let none = escaped_none m i (drop_of_length-le m {i = i} h) in
      (omega (arith, ap length none, u.end), ap (sets out w) (sym none) ∙ u.bytes)

-- ---- a framed message

-- the check byte is one more byte
pub with_check_length : (m : List ℕ) → length (with_check_byte m) ≡ length m + 1
with_check_length m = length-append m (check_byte m ∷ [])

-- the message in front of its check byte
pub with_check_message : (m : List ℕ) → take (length m) (with_check_byte m) ≡ m
with_check_message m = take-append_seam m (check_byte m ∷ [])

-- the last byte is the check byte of those before it
pub with_check_right : (m : List ℕ) → check_byte (take (length m) (with_check_byte m)) ≡ get_or (with_check_byte m) (length m) 0
with_check_right m = ap check_byte (with_check_message m) ∙ sym (get_or-append_seam m (check_byte m) [] 0)

module _ (m : List ℕ) (c : ℕ) (e : c ≡ check_byte m) where
  -- its parts: flag, message, check byte, flag
  pub framed_parts : framed m ≡ flag ∷ (escaped_all m ++ (escaped c ++ (flag ∷ [])))
  framed_parts = rw (e, escaped_append, escaped_one) (ap (λ (xs : List ℕ). flag ∷ xs) (append_assoc (escaped_all m) (escaped (check_byte m)) (flag ∷ [])))

  -- its length
  pub framed_length : length (framed m) ≡ length (escaped_all m) + length (escaped c) + 2
  framed_length = omega (arith, ap length framed_parts, length-append (escaped_all m) (escaped c ++ (flag ∷ [])), length-append (escaped c) (flag ∷ []))

  -- a buffer that has room for it has room for its parts
  pub framed_room : (old : List ℕ) → length (framed m) ≤ length old → length (escaped_all m) + length (escaped c) + 2 ≤ length old
  framed_room old h = omega (arith, framed_length)

  -- at most two bytes for each byte of the message and for the check byte, and the flags
  pub framed_max : length (framed m) ≤ 2 * length m + 4
  framed_max = omega (arith, framed_length, escaped_max m, escaped_size c)

  -- its parts written one after the other
  pub framed_written : (old o o' : List ℕ) (w l : ℕ) → length (framed m) ≤ length old
      → w ≡ 1 + length (escaped_all m) → o ≡ sets (set old 0 flag) 1 (escaped_all m)
      → l ≡ w + length (escaped c) → o' ≡ sets o w (escaped c)
      → (l + 1 ≡ length (framed m)) × (set o' l flag ≡ overwrite_front (framed m) old)
  framed_written old o o' w l room ew eo el eo' =
      let last : set o' l flag ≡ sets o w (escaped c ++ (flag ∷ [])) = rw (eo', el) (sym (sets_append o w (escaped c) (flag ∷ []))) in
      let whole : sets o w (escaped c ++ (flag ∷ [])) ≡ sets old 0 (framed m)
      = rw (eo, ew, framed_parts) (sym (sets_append (set old 0 flag) 1 (escaped_all m) (escaped c ++ (flag ∷ [])))) in
      (omega (arith, framed_length), last ∙ whole ∙ sets_front (framed m) old room)

-- 11 flags and 53 escapes: every byte is written as two, and so is their check byte, 7D hex
pub longest_framed : LongestFramed 132
unfolding shift shifts crc_byte fold reserved escaped escaped_all
longest_framed =
    record {
      none_longer = λ m h. let z = framed_max m (check_byte m) refl in omega arith;
      message = replicate 11 flag ++ replicate 53 escape;
      sized = (omega arith, omega arith);
      as_long = refl;
    }
