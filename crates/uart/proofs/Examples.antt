-- Worked examples of receiving: document 000, 2.3.2, and the limits, causes and answers of document 02, change 5.
use mathlib.Core.Path.{◌≡◌, refl}
use mathlib.Core.List.{List, [], ◌∷◌, ◌++◌}
use mathlib.Core.Bool.{Bool, true, false}
use Prim.Native.Nat.{ℕ}
use lib.ListN.{drop, replicate}
use Rattle.dpa.specs.Lists.{fold}
use Rattle.crc.specs.CheckByte.{shift, shifts, crc_byte}
use Rattle.crc.proofs.Examples.{guide_message}
use Rattle.framing.proofs.Examples.{guide_framed}
use Rattle.framing.specs.Framing.{flag, escape, reserved, escaped, escaped_all, framed}
use Rattle.uart.specs.Receiver.{receiver_from, new_receiver, limit_ok, receiver_ok, receive_from, receive_of, Event, frame, dropped, drop_cause, event_for, begun, byte_event, data_byte, stored, next_receiver}
use Rattle.uart.specs.Stream.{heard_from, answer_event, calls_on}

-- ---- what a new receiver hears

abbrev hears : Bool → List ℕ → List Event
hears gateway bytes = (heard_from (new_receiver gateway) bytes).events

pub guide_received : hears false guide_framed ≡ frame guide_message ∷ []
unfolding shift shifts crc_byte fold new_receiver drop_cause event_for begun byte_event data_byte stored next_receiver heard_from
guide_received = refl

-- bytes before the first flag, and flags with nothing between them
pub nothing_received : hears false (0x2F ∷ 0x7D ∷ flag ∷ flag ∷ flag ∷ []) ≡ []
unfolding new_receiver begun byte_event data_byte stored next_receiver heard_from
nothing_received = refl

-- a flag after an escape; five bytes and their check byte; a wrong check byte
pub causes_given : hears false (flag ∷ escape ∷ flag ∷ (framed (replicate 5 1) ++ (0 ∷ 0 ∷ 0 ∷ 0 ∷ 0 ∷ 0 ∷ 0 ∷ flag ∷ []))) ≡ dropped 2 ∷ dropped 3 ∷ dropped 4 ∷ []
unfolding shift shifts crc_byte fold reserved escaped escaped_all new_receiver drop_cause event_for begun byte_event data_byte stored next_receiver heard_from
causes_given = refl

-- the first cause: too long with an escape before the flag, too long with a wrong check byte, short with a wrong check byte
pub first_cause_given :
    (hears false (flag ∷ (replicate 64 0 ++ (escape ∷ flag ∷ []))) ≡ dropped 1 ∷ [])
    × (hears false (flag ∷ (replicate 64 0 ++ (flag ∷ []))) ≡ dropped 1 ∷ [])
    × (hears false (flag ∷ 0 ∷ flag ∷ []) ≡ dropped 3 ∷ [])
unfolding shift shifts crc_byte fold new_receiver drop_cause event_for begun byte_event data_byte stored next_receiver heard_from
first_cause_given = (refl, refl, refl)

-- the flag that ends a frame opens the next one
pub flag_shared : hears false (guide_framed ++ drop 1 guide_framed) ≡ frame guide_message ∷ frame guide_message ∷ []
unfolding shift shifts crc_byte fold new_receiver drop_cause event_for begun byte_event data_byte stored next_receiver heard_from
flag_shared = refl

-- after an escape every byte except a flag has its escape bit flipped: 01 stands for 21 hex, and an escape for 5D hex
pub escape_flips_any :
    hears false (flag ∷ escape ∷ 0x01 ∷ 0x21 ∷ 0x21 ∷ 0x21 ∷ 0x21 ∷ escape ∷ escape ∷ 0x01 ∷ flag ∷ []) ≡ frame (0x21 ∷ 0x21 ∷ 0x21 ∷ 0x21 ∷ 0x21 ∷ 0x5D ∷ []) ∷ []
unfolding shift shifts crc_byte fold new_receiver drop_cause event_for begun byte_event data_byte stored next_receiver heard_from
escape_flips_any = refl

-- the shortest message
pub shortest_received : hears false (framed (replicate 6 0)) ≡ frame (replicate 6 0) ∷ []
unfolding shift shifts crc_byte fold reserved escaped escaped_all new_receiver drop_cause event_for begun byte_event data_byte stored next_receiver heard_from
shortest_received = refl

-- the longest message of a node and of a gateway, and one byte more
pub limits_received :
    (hears false (framed (replicate 62 0)) ≡ frame (replicate 62 0) ∷ []) × (hears false (framed (replicate 63 0)) ≡ dropped 1 ∷ [])
    × (hears true (framed (replicate 64 0)) ≡ frame (replicate 64 0) ∷ []) × (hears true (framed (replicate 65 0)) ≡ dropped 1 ∷ [])
unfolding shift shifts crc_byte fold reserved escaped escaped_all new_receiver drop_cause event_for begun byte_event data_byte stored next_receiver heard_from
limits_received = (refl, refl, refl, refl)

-- as many bytes as a node has places, then an escape: cut, not too long
pub escape_not_counted : hears false (flag ∷ (replicate 63 0 ++ (escape ∷ flag ∷ []))) ≡ dropped 2 ∷ []
unfolding new_receiver drop_cause event_for begun byte_event data_byte stored next_receiver heard_from
escape_not_counted = refl

-- ---- a call

-- a frame: the bytes up to its flag are taken, zeros follow the message, and the next byte is left
pub frame_answered : receive_of (new_receiver false) (guide_framed ++ (0x55 ∷ []))
    ≡ record {
      refusal = 0;
      event = 1;
      cause = 0;
      taken = 15;
      length = 9;
      frame = guide_message ++ replicate 55 0;
      receiver = record { limit = 62; phase = 1; count = 0; bytes = guide_message ++ (0x7E ∷ replicate 55 0) };
    }
unfolding shift shifts crc_byte fold new_receiver limit_ok receiver_ok drop_cause event_for begun byte_event data_byte stored next_receiver receive_from receive_of
frame_answered = refl

-- a drop, and bytes without an end
pub drop_answered : receive_of (new_receiver true) (0x11 ∷ flag ∷ 0x22 ∷ escape ∷ flag ∷ 0x55 ∷ [])
    ≡ record {
      refusal = 0;
      event = 2;
      cause = 2;
      taken = 5;
      length = 0;
      frame = replicate 64 0;
      receiver = record { limit = 64; phase = 1; count = 0; bytes = 0x22 ∷ replicate 64 0 };
    }
unfolding new_receiver limit_ok receiver_ok drop_cause event_for begun byte_event data_byte stored next_receiver receive_from receive_of
drop_answered = refl

pub nothing_answered : receive_of (new_receiver true) (flag ∷ 0x22 ∷ escape ∷ [])
    ≡ record {
      refusal = 0;
      event = 0;
      cause = 0;
      taken = 3;
      length = 0;
      frame = replicate 64 0;
      receiver = record { limit = 64; phase = 2; count = 1; bytes = 0x22 ∷ replicate 64 0 };
    }
unfolding new_receiver limit_ok receiver_ok begun byte_event data_byte stored next_receiver receive_from receive_of
nothing_answered = refl

-- records at the edges of the receiver rule: a limit of 63, phase 3, a count over limit + 2, a count before the first flag
pub record_tests :
    (receiver_ok (receiver_from 63 0 0 (replicate 65 0)) ≡ false) × (receiver_ok (receiver_from 62 3 0 (replicate 65 0)) ≡ false)
    × (receiver_ok (receiver_from 62 1 65 (replicate 65 0)) ≡ false) × (receiver_ok (receiver_from 62 0 1 (replicate 65 0)) ≡ false)
    × (receiver_ok (receiver_from 62 2 64 (replicate 65 0)) ≡ true)
unfolding limit_ok receiver_ok
record_tests = (refl, refl, refl, refl, refl)

pub refused_record : (bs : List ℕ) → (receive_of (receiver_from 63 0 0 (replicate 65 0)) bs).refusal ≡ 1
unfolding limit_ok receiver_ok receive_of
refused_record bs = refl

-- ---- calls on a stream

-- Two frames by four calls: 10 bytes; what is left of the first frame together with newer bytes; none; all that is left.
pub leftovers_heard : calls_on (new_receiver false) (guide_framed ++ drop 1 guide_framed) (10 ∷ 10 ∷ 0 ∷ 14 ∷ [])
    ≡ record { events = frame guide_message ∷ frame guide_message ∷ []; receiver = receiver_from 62 1 0 (guide_message ++ (0x7E ∷ replicate 55 0)); left = [] }
unfolding shift shifts crc_byte fold new_receiver limit_ok receiver_ok drop_cause event_for begun byte_event data_byte stored next_receiver receive_from receive_of answer_event calls_on
leftovers_heard = refl
