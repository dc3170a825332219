-- The check byte detects a change of one byte, so of one bit too: such a frame never passes for a good one.
use mathlib.Core.Path.{◌≡◌, refl, sym, ap, ◌∙◌}
use mathlib.Core.Bool.{true, false}
use mathlib.Core.List.{List, [], ◌∷◌, ◌++◌}
use Prim.Native.Nat.{ℕ, ◌+◌, ◌-◌, ◌^◌, ◌≤◌, ◌<◌}
use native.Mathlib.Omega.{arith}
use lib.Bits.{bit_xor, xor_zero_r, xor_lt}
use lib.Pow.{pow_pos, pow-lt}
use lib.ListN.{length, get_or, take, set, length-set}
use Rattle.dpa.specs.Lists.{Bytes}
use Rattle.dpa.proofs.Bytes.{bytes_nil, bytes_cons, bytes_append}
use Rattle.crc.specs.CheckByte.{check_byte}
use Rattle.crc.proofs.Xor.{xor_cancel}
use Rattle.crc.proofs.Changes.{check_byte_lem, check_changed}
use Rattle.uart.specs.declared.receiver.Receiver.{Receiver}
use Rattle.framing.specs.Framing.{flag, with_check_byte, between_flags, shortest}
use Rattle.uart.specs.Receiver.{receiver_ok, Event, dropped, event_for, byte_event}
use Rattle.uart.specs.Stream.{Heard, wrong_check_byte, content, content_event, listed, heard_from}
use Rattle.framing.proofs.Escapes.{with_check_length, with_check_right}
use Rattle.uart.proofs.Contents.{cause_event}
use Rattle.uart.proofs.RoundTrips.{between_heard}

module _ (r : Receiver) (m : List ℕ) (sound : receiver_ok r ≡ true) (bytes : Bytes m) (long_enough : shortest ≤ length m) (fits : length m ≤ r.limit) where
  with_check_bytes : Bytes (with_check_byte m)
  with_check_bytes = bytes_append m (check_byte m ∷ []) bytes (bytes_cons (check_byte m) [] (check_byte_lem m bytes) bytes_nil)

  -- A frame in which one byte was changed before escaping, the check byte or any other, is dropped for its check byte.
  pub damaged_byte : (i b : ℕ) → i ≤ length m → b < 256 → (b ≡ get_or (with_check_byte m) i 0 → ⊥)
      → (heard_from r (between_flags (set (with_check_byte m) i b))).events ≡ listed (byte_event r flag) ++ (dropped 4 ∷ [])
  unfolding event_for
  damaged_byte i b h k new =
      let w = with_check_byte m in
      let l : length w ≡ length m + 1 = with_check_length m in
      let l' : length (set w i b) ≡ length m + 1 = length-set w i b ∙ l in
      let n : length (set w i b) - 1 ≡ length m = omega arith in
      let wrong : check_byte (take (length (set w i b) - 1) (set w i b)) ≡ get_or (set w i b) (length (set w i b) - 1) 0 → ⊥
      = rw n (check_changed w (length m) i b l with_check_bytes k h new (with_check_right m)) in
      let v : content_event r.limit (content (set w i b) false) ≡ dropped 4
      = cause_event r.limit (content (set w i b) false) 4 (wrong_check_byte refl (omega arith) refl (omega arith) wrong) (λ z. omega arith) in
      ap (λ (x : Heard). x.events) (between_heard r (set w i b) sound) ∙ ap (λ (x : Event). listed (byte_event r flag) ++ listed x) v

  -- So is a frame in which one bit was changed.
  pub damaged_bit : (i j : ℕ) → i ≤ length m → j < 8
      → (heard_from r (between_flags (set (with_check_byte m) i (bit_xor (get_or (with_check_byte m) i 0) (2 ^ j))))).events ≡ listed (byte_event r flag) ++ (dropped 4 ∷ [])
  damaged_bit i j h k =
      let x = get_or (with_check_byte m) i 0 in
      damaged_byte i (bit_xor x (2 ^ j)) h (xor_lt 8 x (2 ^ j) (with_check_bytes i) (pow-lt k))
      (λ e. let z : 2 ^ j ≡ 0 = xor_cancel x (2 ^ j) 0 (e ∙ sym (xor_zero_r x)) in omega (arith, pow_pos j))
