-- Laws of the receiver rule: a receiver that keeps it still does after a byte and after a call.
use mathlib.Core.Path.{◌≡◌, refl}
use mathlib.Core.List.{List, [], ◌∷◌}
use mathlib.Core.Bool.{Bool, true, false}
use Prim.Native.Nat.{ℕ, ◌≤◌}
use native.Mathlib.Omega.{arith}
use Rattle.std.proofs.lemmas.Bool.Decides.{nat_tests}
use lib.ListN.{length-set}
use Rattle.uart.specs.declared.receiver.Receiver.{Receiver}
use Rattle.uart.specs.Receiver.{gateway_limit, node_limit, new_receiver, limit_ok, receiver_ok, ReceiverRule, Event, none, frame, dropped, is_none, stored, next_receiver, data_byte, Received, receive_from, receive_answer, event_answer, received_answer, receive_of}

-- a valid limit lies between those of a node and of a gateway
pub limit_range : (l : ℕ) → limit_ok l ≡ true → (node_limit ≤ l) × (l ≤ gateway_limit)
unfolding limit_ok
limit_range l e = (grind (arith, nat_tests), grind (arith, nat_tests))

-- ---- the rule as a test and as facts

-- the test gives the facts
pub receiver_facts : (r : Receiver) → receiver_ok r ≡ true → ReceiverRule r
unfolding receiver_ok
receiver_facts r e =
    record {
      places = grind (arith, nat_tests);
      limit_valid = grind (arith, nat_tests);
      phases = grind (arith, nat_tests);
      counted = grind (arith, nat_tests);
      nothing_before = grind (arith, nat_tests);
    }

-- the facts give the test
pub receiver_test : (r : Receiver) → ReceiverRule r → receiver_ok r ≡ true
unfolding receiver_ok
receiver_test r f = grind (arith, nat_tests, f)

-- ---- the rule is kept

-- a new receiver keeps the rule
pub new_sound : (g : Bool) → receiver_ok (new_receiver g) ≡ true
unfolding receiver_ok new_receiver limit_ok
new_sound true = refl
new_sound false = refl

-- a byte keeps the limit
pub next_limit : (r : Receiver) (b : ℕ) → (next_receiver r b).limit ≡ r.limit
unfolding next_receiver stored
next_limit r b = grind (arith, nat_tests)

-- a byte of the line keeps the rule, as facts
pub next_rule : (r : Receiver) → ReceiverRule r → (b : ℕ) → ReceiverRule (next_receiver r b)
unfolding next_receiver stored
next_rule r f b =
    let same = length-set r.bytes r.count (data_byte r.phase b) in
    record {
      places = grind (arith, nat_tests);
      limit_valid = grind (arith, nat_tests);
      phases = grind (arith, nat_tests);
      counted = grind (arith, nat_tests);
      nothing_before = grind (arith, nat_tests);
    }

-- a byte of the line keeps the rule
pub next_sound : (r : Receiver) (b : ℕ) → receiver_ok r ≡ true → receiver_ok (next_receiver r b) ≡ true
next_sound r b e = receiver_test (next_receiver r b) (next_rule r (receiver_facts r e) b)

-- bytes up to the first event keep the rule
pub receive_sound : (r : Receiver) (bs : List ℕ) → receiver_ok r ≡ true → receiver_ok (receive_from r bs).receiver ≡ true
unfolding receive_from
receive_sound r [] e = e
receive_sound r (b ∷ bs) e =
    let now = next_sound r b e in
    let later = receive_sound (next_receiver r b) bs now in
    grind (arith, nat_tests)

-- an answer has the bytes taken and the receiver; its event is 0 only if there was none
pub answer_fields : (x : Received)
    → ((received_answer x).taken ≡ x.taken) × ((received_answer x).receiver ≡ x.receiver) × ((received_answer x).event ≡ 0 → is_none x.event ≡ true)
answer_fields x = at x.event
  where
    at : (e : Event) → let a = event_answer e x.taken x.receiver in (a.taken ≡ x.taken) × (a.receiver ≡ x.receiver) × (a.event ≡ 0 → is_none e ≡ true)
    at none = (refl, refl, λ z. refl)
    at (frame m) = (refl, refl, λ z. absurd (omega arith))
    at (dropped k) = (refl, refl, λ z. absurd (omega arith))

-- a call that is not refused answers what the bytes up to the first event give
pub call_answer : (r : Receiver) (bs : List ℕ) → receiver_ok r ≡ true → receive_of r bs ≡ received_answer (receive_from r bs)
unfolding receive_of
call_answer r bs e = rw e refl

-- a refused call takes nothing and leaves the receiver as it is
pub refused_call : (r : Receiver) (bs : List ℕ) → receiver_ok r ≡ false → receive_of r bs ≡ receive_answer 1 0 0 0 [] r
unfolding receive_of
refused_call r bs e = rw e refl

-- a call keeps the rule
pub call_sound : (r : Receiver) (bs : List ℕ) → receiver_ok r ≡ true → receiver_ok (receive_of r bs).receiver ≡ true
call_sound r bs e = rw (call_answer r bs e, (answer_fields (receive_from r bs)).1) (receive_sound r bs e)
