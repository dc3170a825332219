-- Document 02, change 5: what holds for every cut of a stream and for every message.
use Rattle.std.specs.Prelude.{ℕ, ◌≤◌, ◌≡◌, true, length, take}
use mathlib.Core.List.{List, [], ◌∷◌, ◌++◌, flatten}
use Rattle.dpa.specs.Answer.{LengthResult}
use Rattle.dpa.specs.Lists.{All, overwrite_front}
use Rattle.uart.specs.declared.receiver.Receiver.{Receiver}
use Rattle.framing.specs.Framing.{flag, with_check_byte, framed, shortest, frame_of}
use Rattle.uart.specs.Receiver.{in_frame, receiver_from, receiver_ok, frame, byte_event}
use Rattle.uart.specs.Stream.{Heard, heard, heard_before, listed, heard_from, heard_by_parts, calls_on}

-- ---- "However a stream is cut, the same frames come out and the receiver ends in the same state."

pub record HeardAlike (r : Receiver) (stream : List ℕ) : Type 0 where
  -- parts, empty ones too, each by calls until it is used up
  pub parts : (ps : List (List ℕ)) → flatten ps ≡ stream → heard_by_parts r ps ≡ heard_from r stream
  -- any calls: what came out of them, then what the bytes that are left give
  pub calls : (sizes : List ℕ)
      → heard_before (calls_on r stream sizes).events (heard_from (calls_on r stream sizes).receiver (calls_on r stream sizes).left) ≡ heard_from r stream
  -- calls that leave no byte
  pub whole : (sizes : List ℕ) → (calls_on r stream sizes).left ≡ [] → heard (calls_on r stream sizes).events (calls_on r stream sizes).receiver ≡ heard_from r stream
  -- as many calls as there are bytes, each on at least one, leave none
  pub enough : (sizes : List ℕ) → All (λ (n : ℕ). 1 ≤ n) sizes → length stream ≤ length sizes → (calls_on r stream sizes).left ≡ []

-- for every sound receiver and every stream (proofs/Streams: `however_cut`)
abbrev pub HoweverCut : Type 0
HoweverCut = (r : Receiver) (stream : List ℕ) → receiver_ok r ≡ true → HeardAlike r stream

-- ---- "Framing and then receiving gives back each frame from 6 bytes to the limit."

-- what `frame` wrote to the front of the buffer
abbrev pub written : LengthResult → List ℕ
written x = take x.length x.out

-- what a receiver hears of a framed message: what the opening flag ends, then the message. The record is between frames afterwards.
abbrev pub message_heard : Receiver → List ℕ → Heard
message_heard r m = heard (listed (byte_event r flag) ++ (frame m ∷ [])) (receiver_from r.limit in_frame 0 (overwrite_front (with_check_byte m) r.bytes))

-- a message m that is framed into a buffer o, and what was written handed to a receiver
pub record GivenBack (r : Receiver) (m o : List ℕ) : Type 0 where
  pub accepted : (frame_of m o).refusal ≡ 0
  -- in any parts, each by calls until it is used up
  pub parts : (ps : List (List ℕ)) → flatten ps ≡ written (frame_of m o) → heard_by_parts r ps ≡ message_heard r m
  -- by any calls that leave no byte
  pub calls : (sizes : List ℕ) → (calls_on r (written (frame_of m o)) sizes).left ≡ []
      → heard (calls_on r (written (frame_of m o)) sizes).events (calls_on r (written (frame_of m o)) sizes).receiver ≡ message_heard r m

-- for every sound receiver, every message from 6 bytes to its limit and every buffer with room (proofs/RoundTrips: `given_back`)
abbrev pub GivesBack : Type 0
GivesBack =
    (r : Receiver) (m o : List ℕ) → receiver_ok r ≡ true → shortest ≤ length m → length m ≤ r.limit → length (framed m) ≤ length o → GivenBack r m o
