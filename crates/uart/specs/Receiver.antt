-- Document 02, change 5: the receiver. Its record and rule, one byte, what a flag ends, and a call.
use Rattle.std.specs.Prelude.{ℕ, ◌+◌, ◌-◌, ◌≤◌, ◌≡◌, List, [], ◌∷◌, Bool, true, false, cond, not, ◌&&◌, ◌||◌, length, get_or, take, set, replicate, eqb, ltb, leb}
use Rattle.dpa.specs.Lists.{overwrite_front}
use Rattle.uart.specs.declared.receiver.Receiver.{Receiver}
use Rattle.uart.specs.declared.receiver.Phase.{Phase}
use Rattle.uart.specs.declared.receiver.Phase.TheVariants.{BeforeFlag, InFrame, AfterEscape}
use Rattle.uart.specs.declared.receiver.DropCause.{DropCause}
use Rattle.uart.specs.declared.receiver.DropCause.TheVariants.{TooLong, Cut, Short, CheckByte}
use Rattle.uart.specs.declared.receiver.ReceiveAnswer.{ReceiveAnswer}
use Rattle.crc.specs.CheckByte.{check_byte}
use Rattle.framing.specs.Framing.{flag, escape, flipped, shortest, longest}

-- ---- the record

-- the longest message that a receiver accepts, without the check byte: at a gateway and at a node
abbrev pub gateway_limit : ℕ
gateway_limit = longest

abbrev pub node_limit : ℕ
node_limit = 62

-- the places of a record: for the longest message and its check byte
abbrev pub place_count : ℕ
place_count = longest + 1

-- phases: before the first flag, in a frame, after an escape
abbrev pub before_flag : ℕ
before_flag = 0

abbrev pub in_frame : ℕ
in_frame = 1

abbrev pub after_escape : ℕ
after_escape = 2

-- the number of each phase in the record
abbrev pub phase_number : Phase → ℕ
phase_number BeforeFlag = before_flag
phase_number InFrame = in_frame
phase_number AfterEscape = after_escape

abbrev pub receiver_from : (limit phase count : ℕ) → List ℕ → Receiver
receiver_from limit phase count bytes = record { limit = limit; phase = phase; count = count; bytes = bytes }

-- `new_receiver`
unfoldable pub new_receiver : Bool → Receiver
new_receiver gateway = receiver_from (cond gateway gateway_limit node_limit) before_flag 0 (replicate place_count 0)

unfoldable pub limit_ok : ℕ → Bool
limit_ok limit = eqb limit node_limit || eqb limit gateway_limit

-- the receiver rule; an array of the code has 65 places in any case
unfoldable pub receiver_ok : Receiver → Bool
receiver_ok r =
    eqb (length r.bytes) place_count
    && limit_ok r.limit
    && leb r.phase after_escape
    && leb r.count (r.limit + 2)
    && cond (eqb r.phase before_flag) (eqb r.count 0) true

-- the same rule as facts (proofs/Receivers: `receiver_facts`, `receiver_test`)
pub record ReceiverRule (r : Receiver) : Type 0 where
  pub places : length r.bytes ≡ place_count
  pub limit_valid : limit_ok r.limit ≡ true
  pub phases : r.phase ≤ after_escape
  pub counted : r.count ≤ r.limit + 2
  pub nothing_before : r.phase ≡ before_flag → r.count ≡ 0

-- ---- what a flag ends

pub data Event : Type 0 where
  none : Event
  frame : List ℕ → Event
  dropped : ℕ → Event

-- Why a frame is dropped, the first of 1 too long, 2 cut after an escape, 3 short, 4 check byte; 0 for a good frame.
-- n bytes of it came, with the check byte; the first ones, up to the limit and the check byte, stand in bytes.
unfoldable pub drop_cause : (limit n : ℕ) (cut : Bool) → List ℕ → ℕ
drop_cause limit n cut bytes =
    cond (ltb (limit + 1) n) 1
    (cond cut 2
    (cond (ltb n (shortest + 1)) 3
    (cond (eqb (check_byte (take (n - 1) bytes)) (get_or bytes (n - 1) 0)) 0
    4)))

-- the number of each cause
abbrev pub cause_number : DropCause → ℕ
cause_number TooLong = 1
cause_number Cut = 2
cause_number Short = 3
cause_number CheckByte = 4

-- the event for a cause; a good frame is handed out without its check byte
unfoldable pub event_for : (cause n : ℕ) → List ℕ → Event
event_for cause n bytes = cond (eqb cause 0) (frame (take (n - 1) bytes)) (dropped cause)

-- the event of a frame of which n bytes came
abbrev pub frame_event : (limit n : ℕ) (cut : Bool) → List ℕ → Event
frame_event limit n cut bytes = event_for (drop_cause limit n cut bytes) n bytes

-- a frame has begun: an escape or a byte came since the last flag
unfoldable pub begun : ℕ → ℕ → Bool
begun phase count =
    cond (eqb phase before_flag) false
    (cond (eqb phase after_escape) true
    (not (eqb count 0)))

-- ---- one byte

-- what a byte ends
unfoldable pub byte_event : Receiver → ℕ → Event
byte_event r b =
    cond (eqb b flag && begun r.phase r.count)
    (frame_event r.limit r.count (eqb r.phase after_escape) r.bytes)
    none

-- the byte that b stands for
unfoldable pub data_byte : ℕ → ℕ → ℕ
data_byte phase b = cond (eqb phase after_escape) (flipped b) b

-- one more byte of the frame; from limit + 1 bytes on it is only counted, and from limit + 2 on no more
unfoldable pub stored : Receiver → ℕ → Receiver
stored r b =
    cond (ltb r.limit r.count)
    (receiver_from r.limit in_frame (r.limit + 2) r.bytes)
    (receiver_from r.limit in_frame (r.count + 1) (set r.bytes r.count b))

-- a byte that only says how to read the next one
abbrev pub starts_escape : ℕ → ℕ → Bool
starts_escape phase b = eqb phase in_frame && eqb b escape

-- the receiver after a byte
unfoldable pub next_receiver : Receiver → ℕ → Receiver
next_receiver r b =
    cond (eqb b flag) (receiver_from r.limit in_frame 0 r.bytes)
    (cond (eqb r.phase before_flag) r
    (cond (starts_escape r.phase b) (receiver_from r.limit after_escape r.count r.bytes)
    (stored r (data_byte r.phase b))))

-- ---- a call

-- an event, how many bytes were taken for it, and the receiver afterwards
pub record Received : Type 0 where
  pub event : Event
  pub taken : ℕ
  pub receiver : Receiver

abbrev pub received : Event → ℕ → Receiver → Received
received e n r = record { event = e; taken = n; receiver = r }

abbrev pub is_none : Event → Bool
is_none none = true
is_none (frame m) = false
is_none (dropped k) = false

-- n bytes taken before
abbrev pub taken_before : ℕ → Received → Received
taken_before n x = received x.event (n + x.taken) x.receiver

-- takes bytes up to the first event
unfoldable pub receive_from : Receiver → List ℕ → Received
receive_from r [] = received none 0 r
receive_from r (b ∷ bs) =
    cond (is_none (byte_event r b)) (taken_before 1 (receive_from (next_receiver r b) bs))
    (received (byte_event r b) 1 (next_receiver r b))

abbrev pub receive_answer : (refusal event cause taken : ℕ) → List ℕ → Receiver → ReceiveAnswer
receive_answer refusal event cause taken message r =
    record {
      refusal = refusal;
      event = event;
      cause = cause;
      taken = taken;
      length = length message;
      frame = overwrite_front message (replicate longest 0);
      receiver = r;
    }

-- event 0 none, 1 a frame, 2 a frame dropped for a cause
abbrev pub event_answer : Event → ℕ → Receiver → ReceiveAnswer
event_answer none taken r = receive_answer 0 0 0 taken [] r
event_answer (frame m) taken r = receive_answer 0 1 0 taken m r
event_answer (dropped k) taken r = receive_answer 0 2 k taken [] r

abbrev pub received_answer : Received → ReceiveAnswer
received_answer x = event_answer x.event x.taken x.receiver

-- `receive`: a receiver that breaks the rule: 1
unfoldable pub receive_of : Receiver → List ℕ → ReceiveAnswer
receive_of r bs = cond (receiver_ok r) (received_answer (receive_from r bs)) (receive_answer 1 0 0 0 [] r)
