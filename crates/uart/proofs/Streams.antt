-- How a stream is cut into parts does not matter, and what each call of `receive` takes and answers.
use mathlib.Core.Path.{◌≡◌, refl, sym, ap, subst, ◌∙◌}
use mathlib.Core.List.{List, [], ◌∷◌, ◌++◌, append_assoc, append-nil, flatten}
use mathlib.Core.Bool.{Bool, true, ◌&&◌}
use Prim.Native.Nat.{ℕ, zero, suc, ◌+◌, ◌-◌, ◌≤◌, min}
use native.Mathlib.Omega.{arith}
use Rattle.std.proofs.lemmas.Bool.Decides.{nat_tests}
use borrow.Author.Tests.{ne_eqb, ltb-false, eqb-true, eqb-false}
use lib.Dec.{eqb, ltb}
use lib.ListN.{length, get_or, take, drop, replicate, length-take, length-drop, take-append-drop}
use lib.Seq.{take-append_seam, length-take-le}
use Rattle.dpa.specs.Lists.{All}
use Rattle.dpa.proofs.Bool.{by_cond, by_test}
use Rattle.uart.specs.declared.receiver.Receiver.{Receiver}
use Rattle.crc.specs.CheckByte.{check_byte}
use Rattle.framing.specs.Framing.{flag, shortest, longest}
use Rattle.uart.specs.Receiver.{after_escape, receiver_ok, drop_cause, event_for, frame_event, begun, Event, none, frame, dropped, byte_event, next_receiver, Received, is_none, receive_from, event_answer, received_answer, receive_of}
use Rattle.uart.specs.Stream.{listed, heard, heard_before, heard_from, answer_event, heard_after, heard_by_calls, heard_by_parts, calls_on}
use Rattle.uart.specs.Serial.{HoweverCut}
use Rattle.uart.proofs.Receivers.{limit_range, receiver_facts, next_limit, next_sound, call_sound, call_answer, answer_fields}

-- ---- bytes up to the first event

-- no event is an empty list
none_listed : (e : Event) → is_none e ≡ true → listed e ≡ []
none_listed none q = refl
none_listed (frame m) q = let z : ◌≡◌ {A = ℕ} 0 1 = cc in absurd (omega arith)
none_listed (dropped k) q = let z : ◌≡◌ {A = ℕ} 0 1 = cc in absurd (omega arith)

-- what is heard: the first event that some bytes end, then what is heard from there
pub receive_heard : (r : Receiver) (bs rest : List ℕ)
    → heard_from r (bs ++ rest) ≡ heard_before (listed (receive_from r bs).event) (heard_from (receive_from r bs).receiver (drop (receive_from r bs).taken (bs ++ rest)))
unfolding receive_from heard_from
receive_heard r [] rest = refl
receive_heard r (b ∷ bs) rest =
    by_cond
    (λ (x : Received). heard_before (listed (byte_event r b)) (heard_from (next_receiver r b) (bs ++ rest)) ≡ heard_before (listed x.event) (heard_from x.receiver (drop x.taken (b ∷ bs ++ rest))))
    (is_none (byte_event r b)) _ _
    (λ q.
    let z : (n : ℕ) → 1 + n ≡ suc n = λ n. omega arith in
    rw (none_listed (byte_event r b) q, z) (receive_heard (next_receiver r b) bs rest))
    (λ q. refl)

-- at least one byte is taken if there is one, and no more than there are
taken_range : (r : Receiver) (bs : List ℕ) → (1 ≤ length bs → 1 ≤ (receive_from r bs).taken) × ((receive_from r bs).taken ≤ length bs)
unfolding receive_from
taken_range r [] = (λ h. absurd (omega arith), omega arith)
taken_range r (b ∷ bs) = let z = taken_range (next_receiver r b) bs in (grind (arith, nat_tests), grind (arith, nat_tests))

-- without an event all bytes are taken
none_takes_all : (r : Receiver) (bs : List ℕ) → is_none (receive_from r bs).event ≡ true → (receive_from r bs).taken ≡ length bs
unfolding receive_from
none_takes_all r [] = λ e. refl
none_takes_all r (b ∷ bs) = let z = none_takes_all (next_receiver r b) bs in grind (arith, nat_tests)

-- ---- the size of what comes

-- an event of a receiver with this limit: a frame of 6 bytes up to the limit, or a drop for one of the four causes
abbrev pub EventFits : ℕ → Event → Type 0
EventFits limit none = Unit
EventFits limit (frame m) = (shortest ≤ length m) × (length m ≤ limit)
EventFits limit (dropped k) = (1 ≤ k) × (k ≤ 4)

-- the end of a frame gives an event that fits the limit
frame_event_fits : (limit n : ℕ) (cut : Bool) (bytes : List ℕ) → limit ≤ length bytes → EventFits limit (frame_event limit n cut bytes)
unfolding drop_cause event_for
frame_event_fits limit n cut bytes h =
    let P : ℕ → Type 0 = λ k. EventFits limit (event_for k n bytes) in
    by_cond P (ltb (limit + 1) n) 1 _ (λ e. (omega arith, omega arith)) λ l.
    by_cond P cut 2 _ (λ e. (omega arith, omega arith)) λ c.
    by_cond P (ltb n (shortest + 1)) 3 _ (λ e. (omega arith, omega arith)) λ s.
    by_cond P (eqb (check_byte (take (n - 1) bytes)) (get_or bytes (n - 1) 0)) 0 4
    (λ e.
    let a = ltb-false (limit + 1) n l in
    let b = ltb-false n (shortest + 1) s in
    let z = length-take-le (n - 1) bytes (omega arith) in
    (omega arith, omega arith))
    (λ e. (omega arith, omega arith))

-- what a byte ends fits the limit
pub byte_event_fits : (r : Receiver) (b : ℕ) → receiver_ok r ≡ true → EventFits r.limit (byte_event r b)
unfolding byte_event
byte_event_fits r b e =
    let f = receiver_facts r e in
    let l = limit_range r.limit f.limit_valid in
    by_cond (EventFits r.limit) (eqb b flag && begun r.phase r.count) _ _
    (λ q. frame_event_fits r.limit r.count (eqb r.phase after_escape) r.bytes (omega arith))
    (λ q. tt)

-- the first event fits the limit
pub receive_fits : (r : Receiver) (bs : List ℕ) → receiver_ok r ≡ true → EventFits r.limit (receive_from r bs).event
unfolding receive_from
receive_fits r [] e = tt
receive_fits r (b ∷ bs) e =
    by_cond (λ (x : Received). EventFits r.limit x.event) (is_none (byte_event r b)) _ _
    (λ q. subst (λ (l : ℕ). EventFits l (receive_from (next_receiver r b) bs).event) (next_limit r b) (receive_fits (next_receiver r b) bs (next_sound r b e)))
    (λ q. byte_event_fits r b e)

-- ---- a call

-- the event of an answer is the one that came
pub answer_event_lem : (x : Received) → answer_event (received_answer x) ≡ x.event
unfolding answer_event
answer_event_lem x = at x.event
  where
    at : (e : Event) → answer_event (event_answer e x.taken x.receiver) ≡ e
    at none = refl
    at (frame m) = ap frame (take-append_seam m (drop (length m) (replicate longest 0)))
    at (dropped k) = refl

module _ (r : Receiver) (bs : List ℕ) where
  -- a call takes at least one byte and no more than there are
  pub progress : receiver_ok r ≡ true → 1 ≤ length bs → (1 ≤ (receive_of r bs).taken) × ((receive_of r bs).taken ≤ length bs)
  progress e h = let z = taken_range r bs in rw (call_answer r bs e, (answer_fields (receive_from r bs)).0) (z.0 h, z.1)

  -- a call that answers no event has taken all bytes
  pub no_event_takes_all : receiver_ok r ≡ true → (receive_of r bs).event ≡ 0 → (receive_of r bs).taken ≡ length bs
  no_event_takes_all e =
      let z = answer_fields (receive_from r bs) in
      rw (call_answer r bs e, z.0) (λ n. none_takes_all r bs (z.2 n))

-- ---- whole streams

-- a stream in two parts
pub heard_append : (r : Receiver) (xs ys : List ℕ)
    → heard_from r (xs ++ ys) ≡ heard_before (heard_from r xs).events (heard_from (heard_from r xs).receiver ys)
unfolding heard_from
heard_append r [] ys = refl
heard_append r (b ∷ xs) ys = rw (heard_append (next_receiver r b) xs ys, append_assoc) refl

-- a stream keeps the receiver rule
pub heard_sound : (r : Receiver) (bs : List ℕ) → receiver_ok r ≡ true → receiver_ok (heard_from r bs).receiver ≡ true
unfolding heard_from
heard_sound r [] e = e
heard_sound r (b ∷ bs) e = heard_sound (next_receiver r b) bs (next_sound r b e)

-- what a call on the next bytes of a stream answers, then what is heard of the bytes after those that it took
call_heard : (r : Receiver) (bs rest : List ℕ) → receiver_ok r ≡ true
    → heard_after (receive_of r bs) (λ r' taken. heard_from r' (drop taken (bs ++ rest))) ≡ heard_from r (bs ++ rest)
call_heard r bs rest e =
    let x = receive_from r bs in
    let z = answer_fields x in
    rw (call_answer r bs e, answer_event_lem x, z.0, z.1) (sym (receive_heard r bs rest))

-- calls until a part is used up hear what is in it
pub calls_heard : (n : ℕ) (r : Receiver) (part : List ℕ) → length part ≤ n → receiver_ok r ≡ true → heard_by_calls n r part ≡ heard_from r part
unfolding heard_by_calls heard_from
calls_heard zero r [] h e = refl
calls_heard zero r (b ∷ bs) h e = absurd (omega arith)
calls_heard (suc n) r [] h e = refl
calls_heard (suc n) r (b ∷ bs) h e =
    let x = receive_of r (b ∷ bs) in
    let left = drop x.taken (b ∷ bs) in
    let fewer : length left ≤ n = rw length-drop (omega (arith, (progress r (b ∷ bs) e (omega arith)).0)) in
    rw (ne_eqb (suc (length bs)) 0 (λ z. omega arith), calls_heard n x.receiver left fewer (call_sound r (b ∷ bs) e))
    (subst (λ (part : List ℕ). heard_after x (λ r' taken. heard_from r' (drop taken part)) ≡ heard_from r part) (append-nil (b ∷ bs)) (call_heard r (b ∷ bs) [] e))

-- a stream in parts is heard as the joined stream is
pub parts_heard : (r : Receiver) (parts : List (List ℕ)) → receiver_ok r ≡ true → heard_by_parts r parts ≡ heard_from r (flatten parts)
unfolding heard_by_parts flatten heard_from
parts_heard r [] e = refl
parts_heard r (p ∷ ps) e =
    rw (calls_heard (length p) r p (omega arith) e, parts_heard (heard_from r p).receiver ps (heard_sound r p e))
    (sym (heard_append r p (flatten ps)))

-- any calls on a stream, and then what is left of it, are heard as the stream is
pub calls_joined : (r : Receiver) (stream sizes : List ℕ) → receiver_ok r ≡ true
    → heard_before (calls_on r stream sizes).events (heard_from (calls_on r stream sizes).receiver (calls_on r stream sizes).left) ≡ heard_from r stream
unfolding calls_on
calls_joined r stream [] e = refl
calls_joined r stream (n ∷ ns) e =
    let a = receive_of r (take n stream) in
    let c = calls_on a.receiver (drop a.taken stream) ns in
    let before = listed (answer_event a) in
    ap (λ (es : List Event). heard es (heard_from c.receiver c.left).receiver) (append_assoc before c.events (heard_from c.receiver c.left).events)
    ∙ ap (heard_before before) (calls_joined a.receiver (drop a.taken stream) ns (call_sound r (take n stream) e))
    ∙ subst (λ (bs : List ℕ). heard_after a (λ r' taken. heard_from r' (drop taken bs)) ≡ heard_from r bs) (take-append-drop n stream)
    (call_heard r (take n stream) (drop n stream) e)

-- calls that get at least one byte use a stream up
pub calls_enough : (r : Receiver) (stream sizes : List ℕ) → receiver_ok r ≡ true → All (λ (n : ℕ). 1 ≤ n) sizes → length stream ≤ length sizes
    → (calls_on r stream sizes).left ≡ []
unfolding calls_on
calls_enough r [] [] e a h = refl
calls_enough r (b ∷ bs) [] e a h = absurd (omega arith)
calls_enough r stream (n ∷ ns) e a h =
    let x = receive_of r (take n stream) in
    calls_enough x.receiver (drop x.taken stream) ns (call_sound r (take n stream) e) a.1 (fewer stream h)
  where
    fewer : (bs : List ℕ) → length bs ≤ suc (length ns) → length (drop (receive_of r (take n bs)).taken bs) ≤ length ns
    fewer bs l =
        rw length-drop
        (by_test (eqb (length bs) 0)
        (λ z. let y = eqb-true (length bs) 0 z in omega arith)
        (λ z.
        let y = eqb-false (length bs) 0 z in
        let t : length (take n bs) ≡ min n (length bs) = length-take n bs in
        omega (arith, a.0, (progress r (take n bs) e (omega (arith, a.0))).0)))

-- calls that took all bytes hear what the stream has
pub calls_whole : (r : Receiver) (stream sizes : List ℕ) → receiver_ok r ≡ true → (calls_on r stream sizes).left ≡ []
    → heard (calls_on r stream sizes).events (calls_on r stream sizes).receiver ≡ heard_from r stream
unfolding heard_from
calls_whole r stream sizes e z =
    let c = calls_on r stream sizes in
    ap (λ (es : List Event). heard es c.receiver) (sym (append-nil c.events))
    ∙ ap (λ (bs : List ℕ). heard_before c.events (heard_from c.receiver bs)) (sym z)
    ∙ calls_joined r stream sizes e

-- however a stream is cut, the same is heard
pub however_cut : HoweverCut
however_cut r stream e =
    record {
      parts = λ ps j. parts_heard r ps e ∙ ap (heard_from r) j;
      calls = λ sizes. calls_joined r stream sizes e;
      whole = λ sizes z. calls_whole r stream sizes e z;
      enough = λ sizes a h. calls_enough r stream sizes e a h;
    }
