-- What a receiver holds, against the reading of a stream without a receiver; and why a frame is dropped.
use mathlib.Core.Path.{◌≡◌, refl, sym, ap, subst, ◌∙◌}
use mathlib.Core.List.{List, [], ◌∷◌, ◌++◌}
use mathlib.Core.Bool.{Bool, true, false, cond, not, ◌&&◌}
use Prim.Native.Nat.{ℕ, suc, ◌+◌, ◌-◌, ◌≤◌, ◌<◌, min}
use native.Mathlib.Omega.{arith}
use Rattle.std.proofs.lemmas.Bool.Decides.{nat_tests}
use native.Mathlib.Nat.{zero-min}
use native.Mathlib.Numerals.{add-one}
use borrow.Author.Tests.{lt-ltb, ltb-true, ltb-false, eq-eqb, ne_eqb, eqb-true, eqb-false}
use lib.Dec.{eqb, ltb}
use lib.ListN.{length, get_or, take, drop, set, take-append-drop, length-append, length-take, length-drop, get_or-append}
use lib.Seq.{length-take-le, take_all, take_at, take-nil, take-append-le, drop-cons, set-append_seam, append_snoc}
use Rattle.dpa.specs.Lists.{overwrite_front, All, fold}
use Rattle.dpa.proofs.Bool.{by_cond, by_test}
use Rattle.uart.specs.declared.receiver.Receiver.{Receiver}
use Rattle.crc.specs.CheckByte.{check_byte}
use Rattle.framing.specs.Framing.{flag, escape, flipped, shortest}
use Rattle.uart.specs.Receiver.{place_count, before_flag, in_frame, after_escape, receiver_from, new_receiver, limit_ok, receiver_ok, Event, none, frame, dropped, drop_cause, event_for, frame_event, begun, byte_event, data_byte, stored, next_receiver}
use Rattle.uart.specs.Stream.{Content, CauseOf, too_long, cut_after_escape, short, wrong_check_byte, good, content, nothing_yet, unescape_byte, unescape_bytes, content_event, listed, events_after, stream_events, heard, heard_from}
use Rattle.uart.proofs.Receivers.{limit_range, receiver_facts, new_sound}
use Rattle.uart.proofs.Receiving.{no_flag_event, idle_event, next_before}

-- ---- why a frame is dropped

-- the cause in an event, 0 for any but a drop
abbrev cause_in : Event → ℕ
cause_in none = 0
cause_in (frame m) = 0
cause_in (dropped k) = k

abbrev is_drop : Event → ℕ
is_drop none = 0
is_drop (frame m) = 0
is_drop (dropped k) = 1

not_dropped : (x : Event) (k : ℕ) → is_drop x ≡ 0 → x ≡ dropped k → ⊥
not_dropped x k z e = let o = ap is_drop e in omega arith

module _ (limit : ℕ) (t : Content) where
  -- the cause that is computed is true of the content
  pub cause_facts : CauseOf limit t (drop_cause limit (length t.bytes) t.cut t.bytes)
  unfolding drop_cause
  cause_facts =
      by_cond (CauseOf limit t) (ltb (limit + 1) (length t.bytes)) _ _ (λ l. too_long refl (ltb-true _ _ l)) λ l.
      by_cond (CauseOf limit t) t.cut _ _ (λ c. cut_after_escape refl (ltb-false _ _ l) c) λ c.
      by_cond (CauseOf limit t) (ltb (length t.bytes) (shortest + 1)) _ _ (λ s. short refl (ltb-false _ _ l) c (ltb-true _ _ s)) λ s.
      by_cond (CauseOf limit t) (eqb (check_byte (take (length t.bytes - 1) t.bytes)) (get_or t.bytes (length t.bytes - 1) 0)) _ _
      (λ e. good refl (ltb-false _ _ l) c (ltb-false _ _ s) (eqb-true _ _ e))
      (λ e. wrong_check_byte refl (ltb-false _ _ l) c (ltb-false _ _ s) (eqb-false _ _ e))

  -- a cause that is true of the content is the one that is computed
  pub cause_exact : (k : ℕ) → CauseOf limit t k → drop_cause limit (length t.bytes) t.cut t.bytes ≡ k
  unfolding drop_cause
  cause_exact k (too_long e l) = grind (arith, nat_tests)
  cause_exact k (cut_after_escape e l c) = grind (arith, nat_tests)
  cause_exact k (short e l c s) = grind (arith, nat_tests)
  cause_exact k (wrong_check_byte e l c s w) = grind (arith, nat_tests)
  cause_exact k (good e l c s w) = grind (arith, nat_tests)

  -- a flag after a content that is not empty gives the event for its cause
  pub cause_event : (k : ℕ) → CauseOf limit t k → (t.cut ≡ false → 1 ≤ length t.bytes) → content_event limit t ≡ event_for k (length t.bytes) t.bytes
  unfolding content_event
  cause_event k c h = let e = cause_exact k c in grind (arith, nat_tests)

  -- and a drop is given only for a cause that is true
  pub dropped_cause : (k : ℕ) → content_event limit t ≡ dropped k → CauseOf limit t k
  unfolding content_event event_for
  dropped_cause k =
      let P : Event → Type 0 = λ x. x ≡ dropped k → CauseOf limit t k in
      by_cond P (not t.cut && eqb (length t.bytes) 0) _ _ (λ z e. absurd (not_dropped none k refl e)) λ z.
      by_cond P (eqb (drop_cause limit (length t.bytes) t.cut t.bytes) 0) _ _ (λ g e. absurd (not_dropped (frame _) k refl e))
      (λ g e. subst (CauseOf limit t) (ap cause_in e) cause_facts)

-- ---- what a receiver holds

-- the receiver after a content, over the bytes that stood in it at the last flag
unfoldable pub holding : ℕ → Content → List ℕ → Receiver
holding limit t old =
    receiver_from limit (cond t.cut after_escape in_frame) (min (length t.bytes) (limit + 2)) (overwrite_front (take (limit + 1) t.bytes) old)

-- after a flag a receiver holds nothing yet
pub holding_flag : (r : Receiver) → next_receiver r flag ≡ holding r.limit nothing_yet r.bytes
unfolding next_receiver holding
holding_flag r = rw (take-nil (r.limit + 1), zero-min) refl

-- and so it does after the flag that ends a content
holding_again : (limit : ℕ) (t : Content) (old : List ℕ) → next_receiver (holding limit t old) flag ≡ holding limit nothing_yet (holding limit t old).bytes
unfolding holding
holding_again limit t old = holding_flag (holding limit t old)

-- the record after that flag
pub ended_record : (limit : ℕ) (t : Content) (old : List ℕ)
    → next_receiver (holding limit t old) flag ≡ receiver_from limit in_frame 0 (overwrite_front (take (limit + 1) t.bytes) old)
unfolding next_receiver holding
ended_record limit t old = refl

-- bytes after those of a frame do not matter
event_append : (limit : ℕ) (cut : Bool) (bytes rest : List ℕ) → frame_event limit (length bytes) cut (bytes ++ rest) ≡ frame_event limit (length bytes) cut bytes
unfolding drop_cause event_for
event_append limit cut [] rest = refl
event_append limit cut (b ∷ bs) rest =
    let n = suc (length bs) - 1 in
    rw (take-append-le n (b ∷ bs) rest (omega arith), get_or-append (b ∷ bs) rest 0 n (omega arith)) refl

-- the bytes of a frame give the same event as a record holds them
held_event : (limit : ℕ) (cut : Bool) (bytes old : List ℕ)
    → frame_event limit (min (length bytes) (limit + 2)) cut (overwrite_front (take (limit + 1) bytes) old) ≡ frame_event limit (length bytes) cut bytes
unfolding drop_cause event_for
held_event limit cut bytes old =
    by_test (ltb (limit + 1) (length bytes))
    (λ e.
    let h = ltb-true (limit + 1) (length bytes) e in
    rw (e, lt-ltb (limit + 1) (min (length bytes) (limit + 2)) (omega arith)) refl)
    (λ e.
    let h = ltb-false (limit + 1) (length bytes) e in
    let m : min (length bytes) (limit + 2) ≡ length bytes = omega arith in
    rw (m, take_all (limit + 1) bytes h) (event_append limit cut bytes (drop (length bytes) old)))

-- a flag ends what the content says
pub holding_event : (limit : ℕ) (t : Content) (old : List ℕ) → byte_event (holding limit t old) flag ≡ content_event limit t
unfolding byte_event begun holding content_event
holding_event limit t old = at t.cut
  where
    at : (c : Bool) → byte_event (holding limit (content t.bytes c) old) flag ≡ content_event limit (content t.bytes c)
    at true = held_event limit true t.bytes old
    at false =
        let n = length t.bytes in
        by_test (eqb n 0)
        (λ e. let z = eqb-true n 0 e in rw (e, eq-eqb (min n (limit + 2)) 0 (omega arith)) refl)
        (λ e. let z = eqb-false n 0 e in rw (e, ne_eqb (min n (limit + 2)) 0 (omega arith)) (held_event limit false t.bytes old))

-- a byte stored after the bytes at the front
set_front : (bytes old : List ℕ) (d : ℕ) → length bytes < length old
    → set (overwrite_front bytes old) (length bytes) d ≡ overwrite_front (bytes ++ (d ∷ [])) old
set_front bytes old d h = rw (drop-cons old (length bytes) 0 h, set-append_seam, append_snoc, length-append, add-one) refl

module _ (limit : ℕ) (ok : limit_ok limit ≡ true) where
  module _ (old : List ℕ) (places : length old ≡ place_count) where
    -- one more byte is held
    holding_stored : (bytes : List ℕ) (cut : Bool) (d : ℕ) → stored (holding limit (content bytes cut) old) d ≡ holding limit (content (bytes ++ (d ∷ [])) false) old
    unfolding stored holding
    holding_stored bytes cut d =
        let n = length bytes in
        let z = limit_range limit ok in
        let more : length (bytes ++ (d ∷ [])) ≡ n + 1 = length-append bytes (d ∷ []) in
        by_test (ltb limit (min n (limit + 2)))
        (λ e.
        let h = ltb-true limit (min n (limit + 2)) e in
        let m : min (length (bytes ++ (d ∷ []))) (limit + 2) ≡ limit + 2 = omega arith in
        rw (e, m, take-append-le (limit + 1) bytes (d ∷ []) (omega arith)) refl)
        (λ e.
        let h = ltb-false limit (min n (limit + 2)) e in
        let c : min n (limit + 2) ≡ n = omega arith in
        let m : min (length (bytes ++ (d ∷ []))) (limit + 2) ≡ n + 1 = omega arith in
        rw (e, c, m, take_all (limit + 1) bytes (omega arith), take_all (limit + 1) (bytes ++ (d ∷ [])) (omega arith), set_front bytes old d (omega arith)) refl)

    -- a byte other than a flag is added to what is held
    pub holding_next : (t : Content) (b : ℕ) → (b ≡ flag → ⊥) → next_receiver (holding limit t old) b ≡ holding limit (unescape_byte t b) old
    unfolding next_receiver data_byte holding unescape_byte
    holding_next t b h = at t.cut
      where
        at : (c : Bool) → next_receiver (holding limit (content t.bytes c) old) b ≡ holding limit (unescape_byte (content t.bytes c) b) old
        at true = rw (ne_eqb b flag h) (holding_stored t.bytes true (flipped b))
        at false =
            by_test (eqb b escape)
            (λ e. rw (ne_eqb b flag h, e) refl)
            (λ e. rw (ne_eqb b flag h, e) (holding_stored t.bytes false b))

    -- a receiver that holds a content has all its places
    held_places : (t : Content) → length (holding limit t old).bytes ≡ place_count
    unfolding holding
    held_places t = let z = limit_range limit ok in rw (length-append, length-drop, length-take) (omega arith)

  -- a receiver that holds a content hears the frames and drops of the stream after it
  pub stream_heard : (t : Content) (old : List ℕ) → length old ≡ place_count → (bs : List ℕ) → (heard_from (holding limit t old) bs).events ≡ events_after limit t bs
  unfolding heard_from events_after
  stream_heard t old places [] = refl
  stream_heard t old places (b ∷ bs) =
      by_test (eqb b flag)
      (λ e.
      rw (eqb-true b flag e, holding_event limit t old, holding_again limit t old, stream_heard nothing_yet (holding limit t old).bytes (held_places old places t) bs)
      refl)
      (λ e.
      let h = eqb-false b flag e in
      rw (e, no_flag_event (holding limit t old) b h, holding_next old places t b h)
      (stream_heard (unescape_byte t b) old places bs))

  -- bytes without a flag only add to what is held
  pub no_flag_heard : (t : Content) (old : List ℕ) → length old ≡ place_count → (bs : List ℕ) → All (λ (b : ℕ). b ≡ flag → ⊥) bs
      → heard_from (holding limit t old) bs ≡ heard [] (holding limit (unescape_bytes t bs) old)
  unfolding heard_from fold
  no_flag_heard t old places [] a = refl
  no_flag_heard t old places (b ∷ bs) a =
      rw (no_flag_event (holding limit t old) b a.0, holding_next old places t b a.0, no_flag_heard (unescape_byte t b) old places bs a.1)
      refl

-- ---- any sound receiver in a frame

-- The content of a receiver in a frame. A frame that is too long has lost its later bytes: any one more stands for them.
abbrev pub content_of : Receiver → Content
content_of r =
    content
    (cond (ltb (r.limit + 1) r.count) (take (r.limit + 1) r.bytes ++ (0 ∷ [])) (take r.count r.bytes))
    (eqb r.phase after_escape)

-- the front of a list written over itself
overwrite_self : (n : ℕ) (xs : List ℕ) → n ≤ length xs → overwrite_front (take n xs) xs ≡ xs
overwrite_self n xs h = rw (length-take-le n xs h) (take-append-drop n xs)

-- a sound receiver in a frame holds its content
pub sound_holding : (r : Receiver) → receiver_ok r ≡ true → (r.phase ≡ before_flag → ⊥) → r ≡ holding r.limit (content_of r) r.bytes
unfolding holding
sound_holding r e p =
    let f = receiver_facts r e in
    let l = limit_range r.limit f.limit_valid in
    by_test (ltb (r.limit + 1) r.count)
    (λ t.
    let h = ltb-true (r.limit + 1) r.count t in
    let front = take (r.limit + 1) r.bytes in
    let n : length front ≡ r.limit + 1 = length-take-le (r.limit + 1) r.bytes (omega arith) in
    let c : min (length (front ++ (0 ∷ []))) (r.limit + 2) ≡ r.count = omega (arith, length-append front (0 ∷ [])) in
    rw (t, c, take_at front (0 ∷ []) (r.limit + 1) n, overwrite_self (r.limit + 1) r.bytes (omega arith), in_phase r.phase f.phases p) refl)
    (λ t.
    let h = ltb-false (r.limit + 1) r.count t in
    let front = take r.count r.bytes in
    let n : length front ≡ r.count = length-take-le r.count r.bytes (omega arith) in
    let c : min (length front) (r.limit + 2) ≡ r.count = omega arith in
    rw (t, c, take_all (r.limit + 1) front (omega arith), overwrite_self r.count r.bytes (omega arith), in_phase r.phase f.phases p) refl)
  where
    in_phase : (q : ℕ) → q ≤ after_escape → (q ≡ before_flag → ⊥) → cond (eqb q after_escape) after_escape in_frame ≡ q
    in_phase q h z = by_cond (λ (x : ℕ). x ≡ q) (eqb q after_escape) _ _ (λ t. sym (eqb-true _ _ t)) (λ t. let y = eqb-false q after_escape t in omega (arith, z))

-- so it hears the frames and drops of the stream, with this content in front
pub sound_heard : (r : Receiver) (bs : List ℕ) → receiver_ok r ≡ true → (r.phase ≡ before_flag → ⊥) → (heard_from r bs).events ≡ events_after r.limit (content_of r) bs
sound_heard r bs e p =
    let f = receiver_facts r e in
    ap (λ (x : Receiver). (heard_from x bs).events) (sound_holding r e p) ∙ stream_heard r.limit f.limit_valid (content_of r) r.bytes f.places bs

-- ---- whole streams

-- Any sound receiver: a flag ends what came before it; from there on the frames and drops of the stream are heard.
pub after_flag : (r : Receiver) (bs : List ℕ) → receiver_ok r ≡ true
    → (heard_from r (flag ∷ bs)).events ≡ listed (byte_event r flag) ++ events_after r.limit nothing_yet bs
unfolding heard_from
after_flag r bs e =
    let f = receiver_facts r e in
    rw (holding_flag r, stream_heard r.limit f.limit_valid nothing_yet r.bytes f.places bs) refl

-- no frame has begun before the first flag
not_begun : (r : Receiver) → r.phase ≡ before_flag → begun r.phase r.count ≡ false
unfolding begun
not_begun r p = rw (eq-eqb r.phase before_flag p) refl

-- a receiver before its first flag hears the frames and drops of the stream
pub fresh_heard : (r : Receiver) (bs : List ℕ) → receiver_ok r ≡ true → r.phase ≡ before_flag → (heard_from r bs).events ≡ stream_events r.limit bs
unfolding stream_events heard_from
fresh_heard r [] e p = refl
fresh_heard r (b ∷ bs) e p =
    by_test (eqb b flag)
    (λ q. rw (eqb-true b flag q) (after_flag r bs e ∙ ap (λ (x : Event). listed x ++ events_after r.limit nothing_yet bs) (idle_event r flag (not_begun r p))))
    (λ q.
    let h = eqb-false b flag q in
    rw (q, no_flag_event r b h, next_before r b h p) (fresh_heard r bs e p))

-- and so does a new receiver
pub new_heard : (g : Bool) (bs : List ℕ) → (heard_from (new_receiver g) bs).events ≡ stream_events (new_receiver g).limit bs
unfolding new_receiver
new_heard g bs = fresh_heard (new_receiver g) bs (new_sound g) refl
