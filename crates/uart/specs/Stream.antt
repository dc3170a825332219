-- Document 02, change 5: whole streams. What the bytes between two flags are, without a receiver; and what a receiver hears if the stream
-- arrives in parts.
use Rattle.std.specs.Prelude.{ℕ, zero, suc, ◌+◌, ◌-◌, ◌≤◌, ◌<◌, ◌≡◌, List, [], ◌∷◌, ◌++◌, Bool, true, false, cond, ◌&&◌, not, length, get_or, take, drop, eqb}
use Rattle.dpa.specs.Lists.{fold}
use Rattle.uart.specs.declared.receiver.Receiver.{Receiver}
use Rattle.uart.specs.declared.receiver.ReceiveAnswer.{ReceiveAnswer}
use Rattle.crc.specs.CheckByte.{check_byte}
use Rattle.framing.specs.Framing.{flag, escape, flipped, shortest}
use Rattle.uart.specs.Receiver.{Event, none, frame, dropped, frame_event, byte_event, next_receiver, receive_of}

-- ---- between two flags, without a receiver

-- the bytes of a frame without their escapes, and whether an escape is the last of them
pub record Content : Type 0 where
  pub bytes : List ℕ
  pub cut : Bool

abbrev pub content : List ℕ → Bool → Content
content bytes cut = record { bytes = bytes; cut = cut }

abbrev pub nothing_yet : Content
nothing_yet = content [] false

-- one more byte, not a flag
unfoldable pub unescape_byte : Content → ℕ → Content
unescape_byte t b =
    cond t.cut (content (t.bytes ++ (flipped b ∷ [])) false)
    (cond (eqb b escape) (content t.bytes true)
    (content (t.bytes ++ (b ∷ [])) false))

-- all bytes of a list
abbrev pub unescape_bytes : Content → List ℕ → Content
unescape_bytes t bytes = fold unescape_byte t bytes

-- what the flag after a content ends; one with no byte at all is skipped
unfoldable pub content_event : ℕ → Content → Event
content_event limit t =
    cond (not t.cut && eqb (length t.bytes) 0) none
    (frame_event limit (length t.bytes) t.cut t.bytes)

-- what cause k says about the content of a frame, 0 for a good one; bytes are counted with the check byte (an empty content is no frame)
pub data CauseOf (limit : ℕ) (t : Content) (k : ℕ) : Type 0 where
  too_long : k ≡ 1 → limit + 1 < length t.bytes → CauseOf limit t k
  cut_after_escape : k ≡ 2 → length t.bytes ≤ limit + 1 → t.cut ≡ true → CauseOf limit t k
  short : k ≡ 3 → length t.bytes ≤ limit + 1 → t.cut ≡ false → length t.bytes < shortest + 1 → CauseOf limit t k
  wrong_check_byte : k ≡ 4 → length t.bytes ≤ limit + 1 → t.cut ≡ false → shortest + 1 ≤ length t.bytes
      → (check_byte (take (length t.bytes - 1) t.bytes) ≡ get_or t.bytes (length t.bytes - 1) 0 → ⊥) → CauseOf limit t k
  good : k ≡ 0 → length t.bytes ≤ limit + 1 → t.cut ≡ false → shortest + 1 ≤ length t.bytes
      → check_byte (take (length t.bytes - 1) t.bytes) ≡ get_or t.bytes (length t.bytes - 1) 0 → CauseOf limit t k

-- an event as a list: no element for none
abbrev pub listed : Event → List Event
listed none = []
listed (frame m) = frame m ∷ []
listed (dropped k) = dropped k ∷ []

-- the frames and drops of a stream after its first flag, with this content since the last one
unfoldable pub events_after : ℕ → Content → List ℕ → List Event
events_after limit t [] = []
events_after limit t (b ∷ bs) =
    cond (eqb b flag) (listed (content_event limit t) ++ events_after limit nothing_yet bs)
    (events_after limit (unescape_byte t b) bs)

-- the frames and drops of a stream: bytes before the first flag are skipped
unfoldable pub stream_events : ℕ → List ℕ → List Event
stream_events limit [] = []
stream_events limit (b ∷ bs) = cond (eqb b flag) (events_after limit nothing_yet bs) (stream_events limit bs)

-- ---- what a receiver hears

-- frames and drops in order, and the receiver afterwards
pub record Heard : Type 0 where
  pub events : List Event
  pub receiver : Receiver

abbrev pub heard : List Event → Receiver → Heard
heard es r = record { events = es; receiver = r }

-- these events before
abbrev pub heard_before : List Event → Heard → Heard
heard_before es h = heard (es ++ h.events) h.receiver

-- a whole stream, byte by byte
unfoldable pub heard_from : Receiver → List ℕ → Heard
heard_from r [] = heard [] r
heard_from r (b ∷ bs) = heard_before (listed (byte_event r b)) (heard_from (next_receiver r b) bs)

-- the event of an answer
unfoldable pub answer_event : ReceiveAnswer → Event
answer_event a =
    cond (eqb a.event 1) (frame (take a.length a.frame))
    (cond (eqb a.event 2) (dropped a.cause)
    none)

-- what is heard after an answer
abbrev pub heard_after : ReceiveAnswer → (Receiver → ℕ → Heard) → Heard
heard_after a rest = heard_before (listed (answer_event a)) (rest a.receiver a.taken)

-- a part, by calls of `receive` on what is left of it until it is used up, at most n of them
unfoldable pub heard_by_calls : ℕ → Receiver → List ℕ → Heard
heard_by_calls zero r part = heard [] r
heard_by_calls (suc n) r part =
    cond (eqb (length part) 0) (heard [] r)
    (heard_after (receive_of r part) (λ r' taken. heard_by_calls n r' (drop taken part)))

-- parts one after the other; for each as many calls as it has bytes
unfoldable pub heard_by_parts : Receiver → List (List ℕ) → Heard
heard_by_parts r [] = heard [] r
heard_by_parts r (p ∷ ps) =
    heard_before (heard_by_calls (length p) r p).events (heard_by_parts (heard_by_calls (length p) r p).receiver ps)

-- ---- calls on the next bytes of the stream, any number of them

-- what calls leave: frames and drops in order, the receiver, and the bytes of the stream that no call has taken
pub record Calls : Type 0 where
  pub events : List Event
  pub receiver : Receiver
  pub left : List ℕ

-- what calls leave, an answer before them
abbrev pub calls_after : ReceiveAnswer → (Receiver → ℕ → Calls) → Calls
calls_after a rest =
    record {
      events = listed (answer_event a) ++ (rest a.receiver a.taken).events;
      receiver = (rest a.receiver a.taken).receiver;
      left = (rest a.receiver a.taken).left;
    }

-- Calls of `receive` on a stream, one for each size. A call gets that many of the bytes that no call has taken: bytes that an earlier call
-- left, newer ones, both together, or none.
unfoldable pub calls_on : Receiver → (stream sizes : List ℕ) → Calls
calls_on r bs [] = record { events = []; receiver = r; left = bs }
calls_on r bs (n ∷ ns) = calls_after (receive_of r (take n bs)) (λ r' taken. calls_on r' (drop taken bs) ns)
