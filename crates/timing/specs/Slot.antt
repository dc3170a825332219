-- Document 01, "Confirmation and waiting": timeslots and the earliest next send.
use Rattle.std.specs.Prelude.{ℕ, ◌+◌, ◌*◌, Bool, true, false, cond, ltb, leb, Result, Ok, Err}
use Rattle.dpa.specs.Frame.{pdata_max}
use Rattle.dpa.specs.Refusal.{refusal_number}
use Rattle.dpa.specs.declared.refusal.Refusal.{Refusal}
use Rattle.timing.specs.declared.slot.Network.{Network}
use Rattle.timing.specs.declared.slot.Network.TheVariants.{Std, StdLp}
use Rattle.timing.specs.declared.slot.SlotAnswer.{SlotAnswer}
use Rattle.timing.specs.declared.slot.SendAnswer.{SendAnswer}

-- the network type by a flag, true for STD+LP
unfoldable pub network_of : Bool → Network
network_of true = StdLp
network_of false = Std

-- the slot by PData length: under 17 bytes, 17 to 40, over 40
unfoldable pub base_slot : ℕ → ℕ
base_slot n = cond (ltb n 17) 4 (cond (leb n 40) 5 6)

-- what the network type adds
unfoldable pub network_extra : Network → ℕ
network_extra Std = 0
network_extra StdLp = 4

-- a timeslot in units of 10 ms
unfoldable pub slot_of : ℕ → Network → ℕ
slot_of n net = base_slot n + network_extra net

-- time for one direction: (hops + 1) slots of 10 ms units, in ms
unfoldable pub direction_time : ℕ → ℕ → ℕ
direction_time hops slot = (hops + 1) * slot * 10

-- an upper bound of that time for hops and a slot that fit a byte
abbrev pub direction_max : ℕ
direction_max = 256 * 255 * 10

-- the answer for C: a refused call has slot 0
abbrev pub slot_answer_of : Result ℕ Refusal → SlotAnswer
slot_answer_of (Ok slot) = record { refusal = 0; slot = slot }
slot_answer_of (Err e) = record { refusal = refusal_number e; slot = 0 }

-- `timeslot`: refusal 5 if PData is over 56 bytes
unfoldable pub timeslot_of : ℕ → Network → SlotAnswer
timeslot_of n net =
    cond (ltb pdata_max n) (record { refusal = 5; slot = 0 })
    (record { refusal = 0; slot = slot_of n net })

-- time for the request, the node's delay and, unless it is a broadcast, the response
unfoldable pub earliest_of : (hops request_length delay hops_of_response response_length : ℕ) (net : Network) (broadcast : Bool) → ℕ
earliest_of hops request_length delay hops_of_response response_length net broadcast =
    direction_time hops (slot_of request_length net) + delay + cond broadcast 0 (direction_time hops_of_response (slot_of response_length net))

-- no wait is longer: 256 slots of 100 ms in each direction, and the longest delay (proofs/Slots, `earliest_max`)
abbrev pub wait_max : ℕ
wait_max = 116735

abbrev pub send_answer : ℕ → ℕ → SendAnswer
send_answer refusal ms = record { refusal = refusal; milliseconds = ms }

-- the answer for C: a refused call has no time
abbrev pub send_answer_of : Result ℕ Refusal → SendAnswer
send_answer_of (Ok ms) = send_answer 0 ms
send_answer_of (Err e) = send_answer (refusal_number e) 0

-- `earliest_send`: both lengths are tested, for a broadcast too
unfoldable pub send_of : (hops request_length delay hops_of_response response_length : ℕ) (net : Network) (broadcast : Bool) → SendAnswer
send_of hops request_length delay hops_of_response response_length net broadcast =
    cond (ltb pdata_max request_length) (send_answer 5 0)
    (cond (ltb pdata_max response_length) (send_answer 5 0)
    (send_answer 0 (earliest_of hops request_length delay hops_of_response response_length net broadcast)))
