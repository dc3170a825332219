-- A framed message has no flag inside. From 6 bytes up to the limit it comes out of every sound receiver as it went in; over the limit it is
-- dropped as too long.
use mathlib.Core.Path.{◌≡◌, refl, ap, ◌∙◌}
use mathlib.Core.List.{List, [], ◌∷◌, ◌++◌, append-nil}
use mathlib.Core.Bool.{Bool, true, false}
use Prim.Native.Nat.{ℕ, zero, suc, ◌+◌, ◌-◌, ◌≤◌, ◌<◌}
use native.Mathlib.Omega.{arith}
use borrow.Author.Tests.{ne_eqb, eqb-true, eqb-false}
use lib.Dec.{eqb}
use lib.ListN.{length, get_or, take, drop, length-append, get_or-append}
use lib.Seq.{take_all, take-append-le, take-append_seam, append_snoc}
use Rattle.dpa.specs.Answer.{LengthResult}
use Rattle.dpa.specs.Lists.{overwrite_front, All, fold}
use Rattle.dpa.proofs.All.{all_append, all_at}
use Rattle.dpa.proofs.Bool.{by_test}
use Rattle.dpa.proofs.Lists.{fold_append}
use Rattle.uart.specs.declared.receiver.Receiver.{Receiver}
use Rattle.crc.specs.CheckByte.{check_byte}
use Rattle.framing.specs.Framing.{flag, escape, flipped, reserved, escaped, escaped_all, with_check_byte, between_flags, framed, shortest, frame_of}
use Rattle.uart.specs.Receiver.{in_frame, receiver_from, receiver_ok, frame, dropped, event_for, byte_event}
use Rattle.uart.specs.Stream.{Content, CauseOf, too_long, good, content, nothing_yet, unescape_byte, unescape_bytes, content_event, listed, heard, heard_from}
use Rattle.uart.specs.Serial.{written, message_heard, GivesBack}
use Rattle.framing.proofs.Escapes.{with_check_length, with_check_message, with_check_right}
use Rattle.framing.proofs.Sending.{frame_accepted}
use Rattle.uart.proofs.Receivers.{limit_range, receiver_facts}
use Rattle.uart.proofs.Streams.{heard_append, however_cut}
use Rattle.uart.proofs.Contents.{cause_event, holding, holding_flag, holding_event, ended_record, no_flag_heard}

-- ---- escaped bytes

-- A property of a byte and its form on the line holds if it does for a flag, for an escape and for any other byte.
escaped_cases : (P : ℕ → List ℕ → Type 0) → P flag (escape ∷ flipped flag ∷ []) → P escape (escape ∷ flipped escape ∷ [])
    → ((b : ℕ) → (b ≡ flag → ⊥) → (b ≡ escape → ⊥) → P b (b ∷ []))
    → (b : ℕ) → P b (escaped b)
unfolding escaped reserved
escaped_cases P p q o b =
    by_test (eqb b flag) (λ e. rw (eqb-true b flag e) p) λ e.
    by_test (eqb b escape) (λ f. rw (eqb-true b escape f) q) λ f.
    rw (e, f) (o b (eqb-false b flag e) (eqb-false b escape f))

-- no byte of an escaped message is a flag
pub inner_no_flag : (m : List ℕ) → All (λ (b : ℕ). b ≡ flag → ⊥) (escaped_all m)
unfolding escaped_all
inner_no_flag [] = tt
inner_no_flag (b ∷ bs) =
    let P : ℕ → Type 0 = λ x. x ≡ flag → ⊥ in
    all_append P (escaped b) (escaped_all bs)
    (escaped_cases (λ (x : ℕ) (e : List ℕ). All P e) (λ z. omega arith, (λ z. omega arith, tt)) (λ z. omega arith, (λ z. omega arith, tt)) (λ x h k. (h, tt)) b)
    (inner_no_flag bs)

-- of a framed message only the first and the last byte are flags
pub framed_flags : (m : List ℕ) (i : ℕ) → 0 < i → i + 1 < length (framed m) → get_or (framed m) i 0 ≡ flag → ⊥
framed_flags m zero h k = absurd (omega arith)
framed_flags m (suc i) h k =
    let inner = escaped_all (with_check_byte m) in
    let n : length (inner ++ (flag ∷ [])) ≡ length inner + 1 = length-append inner (flag ∷ []) in
    let j : i < length inner = omega arith in
    rw (get_or-append inner (flag ∷ []) 0 i j) (all_at (λ (b : ℕ). b ≡ flag → ⊥) inner 0 i (inner_no_flag (with_check_byte m)) j)

-- an escaped byte adds the byte
add_escaped : (bytes : List ℕ) (b : ℕ) → unescape_bytes (content bytes false) (escaped b) ≡ content (bytes ++ (b ∷ [])) false
unfolding unescape_byte fold
add_escaped bytes b =
    escaped_cases (λ (x : ℕ) (e : List ℕ). unescape_bytes (content bytes false) e ≡ content (bytes ++ (x ∷ [])) false) refl refl
    (λ x h k. rw (ne_eqb x escape k) refl)
    b

-- an escaped message adds the message, after any bytes
add_message : (m bytes : List ℕ) → unescape_bytes (content bytes false) (escaped_all m) ≡ content (bytes ++ m) false
unfolding escaped_all fold
add_message [] bytes = rw append-nil refl
add_message (b ∷ bs) bytes =
    fold_append unescape_byte (content bytes false) (escaped b) (escaped_all bs)
    ∙ ap (λ (t : Content). unescape_bytes t (escaped_all bs)) (add_escaped bytes b)
    ∙ add_message bs (bytes ++ (b ∷ []))
    ∙ ap (λ (xs : List ℕ). content xs false) (append_snoc bytes b bs)

-- an escaped message adds the message, after any content that no escape ends
pub unescaped : (m : List ℕ) (t : Content) → t.cut ≡ false → unescape_bytes t (escaped_all m) ≡ content (t.bytes ++ m) false
unescaped m t c = ap (λ (x : Bool). unescape_bytes (content t.bytes x) (escaped_all m)) c ∙ add_message m t.bytes

-- ---- a framed message

-- what a receiver hears of bytes between two flags, and its record afterwards
pub between_heard : (r : Receiver) (bytes : List ℕ) → receiver_ok r ≡ true
    → heard_from r (between_flags bytes)
    ≡ heard (listed (byte_event r flag) ++ listed (content_event r.limit (content bytes false)))
    (receiver_from r.limit in_frame 0 (overwrite_front (take (r.limit + 1) bytes) r.bytes))
unfolding heard_from
between_heard r bytes e =
    let f = receiver_facts r e in
    let inner = escaped_all bytes in
    let held = no_flag_heard r.limit f.limit_valid nothing_yet r.bytes f.places inner (inner_no_flag bytes) in
    rw (holding_flag r, heard_append (holding r.limit nothing_yet r.bytes) inner (flag ∷ []), held, unescaped bytes nothing_yet refl, holding_event, ended_record, append-nil)
    refl

module _ (r : Receiver) (m : List ℕ) (e : receiver_ok r ≡ true) where
  -- a message of 6 bytes up to the limit comes out as it went in
  pub round_trip : shortest ≤ length m → length m ≤ r.limit
      → heard_from r (framed m) ≡ message_heard r m
  unfolding event_for
  round_trip h k =
      let n = with_check_length m in
      let z : length (with_check_byte m) - 1 ≡ length m = omega arith in
      let c : CauseOf r.limit (content (with_check_byte m) false) 0 = good refl (omega arith) refl (omega arith) (rw z (with_check_right m)) in
      let v : content_event r.limit (content (with_check_byte m) false) ≡ frame m
      = cause_event r.limit _ 0 c (λ e. omega arith) ∙ ap frame (rw z (with_check_message m)) in
      between_heard r (with_check_byte m) e ∙ rw (v, take_all (r.limit + 1) (with_check_byte m) (omega arith)) refl

  -- a message over the limit is dropped as too long
  pub over_limit : r.limit < length m
      → heard_from r (framed m) ≡ heard (listed (byte_event r flag) ++ (dropped 1 ∷ [])) (receiver_from r.limit in_frame 0 (overwrite_front (take (r.limit + 1) m) r.bytes))
  unfolding event_for
  over_limit h =
      let n = with_check_length m in
      let v : content_event r.limit (content (with_check_byte m) false) ≡ dropped 1 = cause_event r.limit _ 1 (too_long refl (omega arith)) (λ e. omega arith) in
      between_heard r (with_check_byte m) e ∙ rw (v, take-append-le (r.limit + 1) m (check_byte m ∷ []) (omega arith)) refl

-- framing and then receiving gives back each frame
pub given_back : GivesBack
given_back r m o e h k room =
    let f = frame_accepted m o h (omega (arith, limit_range r.limit (receiver_facts r e).limit_valid)) room in
    let w : written (frame_of m o) ≡ framed m = ap written f ∙ take-append_seam (framed m) (drop (length (framed m)) o) in
    let c = however_cut r (written (frame_of m o)) e in
    let b : heard_from r (written (frame_of m o)) ≡ message_heard r m = ap (heard_from r) w ∙ round_trip r m e h k in
    record {
      accepted = ap (λ (x : LengthResult). x.refusal) f;
      parts = λ ps j. c.parts ps j ∙ b;
      calls = λ sizes z. c.whole sizes z ∙ b;
    }
