-- Laws of a call of `receive`: the invariant of its loop, and how a byte keeps it.
use mathlib.Core.Path.{◌≡◌, sym, ap, ◌∙◌}
use mathlib.Core.Bool.{Bool, true, false, ◌&&◌}
use mathlib.Core.List.{List}
use Prim.Native.Nat.{ℕ, ◌+◌, ◌<◌}
use native.Mathlib.Numerals.{add-one}
use native.Mathlib.Omega.{arith}
use Rattle.std.proofs.lemmas.Bool.Decides.{nat_tests}
use lib.Dec.{eqb}
use lib.ListN.{length, get_or, drop, drop_of_length-le}
use lib.Seq.{drop-cons}
use Rattle.dpa.proofs.Bool.{and_left, and_right}
use Rattle.uart.specs.declared.receiver.Receiver.{Receiver}
use Rattle.framing.specs.Framing.{flag}
use Rattle.uart.specs.Receiver.{before_flag, in_frame, after_escape, receiver_from, receiver_ok, none, is_none, event_for, frame_event, begun, byte_event, next_receiver, received, taken_before, receive_from, received_answer, event_answer, receive_of}
use Rattle.uart.proofs.Receivers.{call_answer}

-- ---- one byte

module _ (r : Receiver) (b : ℕ) where
  -- a byte that is not a flag ends nothing
  pub no_flag_event : (b ≡ flag → ⊥) → byte_event r b ≡ none
  unfolding byte_event
  no_flag_event e = grind (arith, nat_tests)

  -- a flag ends nothing if no frame has begun
  pub idle_event : begun r.phase r.count ≡ false → byte_event r b ≡ none
  unfolding byte_event
  idle_event e = grind (arith, nat_tests)

  -- bytes before the first flag are skipped
  pub next_before : (b ≡ flag → ⊥) → r.phase ≡ before_flag → next_receiver r b ≡ r
  unfolding next_receiver
  next_before no_flag e = grind (arith, nat_tests)

-- ---- a call

-- the end of a frame is an event
event_some : (limit n : ℕ) (cut : Bool) (bytes : List ℕ) → is_none (frame_event limit n cut bytes) ≡ false
unfolding event_for
event_some limit n cut bytes = grind (arith, nat_tests)

-- i bytes of bs were taken without an event, and r is the receiver after them
pub record Taken (r₀ : Receiver) (bs : List ℕ) (i : ℕ) (r : Receiver) : Type 0 where
  pub rest : receive_from r₀ bs ≡ taken_before i (receive_from r (drop i bs))

-- before the first byte
pub taken_none : (r : Receiver) (bs : List ℕ) → Taken r bs 0 r
taken_none r bs =
    let x = receive_from r bs in
    let z : x.taken ≡ 0 + x.taken = omega arith in
    record { rest = ap (λ (n : ℕ). received x.event n x.receiver) z }

module _ {r₀ : Receiver} {bs : List ℕ} {i : ℕ} {r : Receiver} (t : Taken r₀ bs i r) where
  -- one more byte that ends no frame
  pub taken_next : i < length bs → (eqb (get_or bs i 0) flag && begun r.phase r.count) ≡ false → Taken r₀ bs (i + 1) (next_receiver r (get_or bs i 0))
  unfolding receive_from byte_event
  taken_next h e =
      let r' = next_receiver r (get_or bs i 0) in
      let more : receive_from r (drop i bs) ≡ taken_before 1 (receive_from r' (drop (i + 1) bs)) = rw (add-one, drop-cons bs i 0 h, e) in
      let x = receive_from r' (drop (i + 1) bs) in
      let z : i + (1 + x.taken) ≡ i + 1 + x.taken = omega arith in
      record { rest = t.rest ∙ ap (taken_before i) more ∙ ap (λ (n : ℕ). received x.event n x.receiver) z }

  -- a flag that ends a frame
  pub taken_event : i < length bs → (eqb (get_or bs i 0) flag && begun r.phase r.count) ≡ true → receiver_ok r₀ ≡ true
      → event_answer (frame_event r.limit r.count (eqb r.phase after_escape) r.bytes) (i + 1) (receiver_from r.limit in_frame 0 r.bytes) ≡ receive_of r₀ bs
  unfolding receive_from byte_event next_receiver
  taken_event h e ok =
      let event = frame_event r.limit r.count (eqb r.phase after_escape) r.bytes in
      let f : eqb (get_or bs i 0) flag ≡ true = and_left _ (begun r.phase r.count) e in
      let g : begun r.phase r.count ≡ true = and_right _ _ e in
      let last : receive_from r (drop i bs) ≡ received event 1 (receiver_from r.limit in_frame 0 r.bytes)
      = rw (drop-cons bs i 0 h, f, g, event_some r.limit r.count (eqb r.phase after_escape) r.bytes) in
      sym (call_answer r₀ bs ok ∙ ap received_answer (t.rest ∙ ap (taken_before i) last))

  -- all bytes
  pub taken_all : i ≡ length bs → receiver_ok r₀ ≡ true → event_answer none i r ≡ receive_of r₀ bs
  unfolding receive_from
  taken_all h ok =
      let z : i + 0 ≡ i = omega arith in
      let last : receive_from r (drop i bs) ≡ received none 0 r = rw (drop_of_length-le bs {i = i} (omega arith)) in
      ap (λ (n : ℕ). event_answer none n r) (sym z) ∙ sym (call_answer r₀ bs ok ∙ ap received_answer (t.rest ∙ ap (taken_before i) last))
