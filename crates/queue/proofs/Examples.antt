-- Worked examples: a request to node 5 and one to all nodes, over 2 hops, with response hops 3 and a delay of 20 ms; the times; the rule
-- at its edges.
use Prim.Native.Nat.{ℕ, ◌+◌, ◌*◌}
use mathlib.Core.Path.{◌≡◌, refl}
use mathlib.Core.Bool.{true, false}
use mathlib.Core.List.{[], ◌∷◌, ◌++◌, map}
use lib.ListN.{replicate}
use Rattle.dpa.specs.Frame.{frame_fits}
use Rattle.dpa.specs.Lists.{all_below}
use Rattle.dpa.specs.Settings.{address_ok}
use Rattle.timing.specs.declared.slot.Network.TheVariants.{Std, StdLp}
use Rattle.timing.specs.Slot.{base_slot, network_extra, slot_of, direction_time, earliest_of}
use Rattle.timing.specs.Confirm.{response_hops_sent}
use Rattle.queue.specs.declared.record.Waiting.{Waiting}
use Rattle.queue.specs.declared.record.SendQueue.{SendQueue}
use Rattle.queue.specs.Queue.{Outgoing, outgoing, wait_after, confirmation_of, empty_place, all_zero, widths_ok, waiting_ok, empty_ok, place_ok, places_ok, queue_ok, new_queue, clock_ok, due, queue_from}

-- lamp 0 of the node at this address is set to 100: 5 bytes of PData
abbrev set_lamp : ℕ → Outgoing
set_lamp address = outgoing (address ∷ 0 ∷ 0x71 ∷ 0 ∷ 255 ∷ 255 ∷ 1 ∷ 0 ∷ 0 ∷ 0 ∷ 100 ∷ []) 2 3 20

-- 3 slots for the request, the delay, 4 slots of the longest response, which has 56 bytes
pub wait_node : (wait_after Std (set_lamp 5) ≡ 3 * 40 + 20 + 4 * 60) × (wait_after StdLp (set_lamp 5) ≡ 3 * 80 + 20 + 4 * 100)
unfolding wait_after base_slot network_extra slot_of direction_time earliest_of
wait_node = (refl, refl)

-- no response is waited for after a broadcast
pub wait_all : (wait_after Std (set_lamp 255) ≡ 3 * 40 + 20) × (wait_after StdLp (set_lamp 255) ≡ 3 * 80 + 20)
unfolding wait_after base_slot network_extra slot_of direction_time earliest_of
wait_all = (refl, refl)

-- hops, timeslot, response hops
pub confirmed_node : confirmation_of Std 7 (set_lamp 5) ≡ 5 ∷ 0 ∷ 0x71 ∷ 0 ∷ 255 ∷ 255 ∷ 255 ∷ 7 ∷ 2 ∷ 4 ∷ 3 ∷ []
unfolding confirmation_of base_slot network_extra slot_of response_hops_sent
confirmed_node = refl

-- response hops 0 for a broadcast
pub confirmed_all : confirmation_of StdLp 7 (set_lamp 255) ≡ 255 ∷ 0 ∷ 0x71 ∷ 0 ∷ 255 ∷ 255 ∷ 255 ∷ 7 ∷ 2 ∷ 8 ∷ 0 ∷ []
unfolding confirmation_of base_slot network_extra slot_of response_hops_sent
confirmed_all = refl

-- the last time may be given again, and so may 2 ^ 40
pub times : (clock_ok 1000 999 ≡ false) × (clock_ok 1000 1000 ≡ true) × (clock_ok 1000 1099511627776 ≡ true) × (clock_ok 1000 1099511627777 ≡ false)
unfolding clock_ok
times = (refl, refl, refl, refl)

-- a request is due from the next time on
pub due_times : (due 1 1380 1379 ≡ false) × (due 1 1380 1380 ≡ true) × (due 0 1380 1380 ≡ false)
unfolding due
due_times = (refl, refl, refl)

-- ---- the rule

-- a queue with one place filled, and these times
abbrev holding : Waiting → ℕ → ℕ → SendQueue
holding w last next = queue_from (new_queue false 0) last next 1 (w ∷ replicate 7 empty_place)

-- a request of this length to this address, with such bytes after its header
abbrev in_place : (length low high byte : ℕ) → Waiting
in_place length low high byte =
    record { delay = 65535; length = length; hops = 255; response_hops = 255; frame = (low ∷ high ∷ replicate 4 0) ++ replicate 56 byte }

-- 6 and 62 bytes, addresses 1, 239 and 255, the latest times
pub sound_queues : map queue_ok
    (holding (in_place 6 1 0 0) 0 0
    ∷ holding (in_place 62 239 0 1) 0 116735
    ∷ holding (in_place 62 255 0 0) 1099511627776 1099511744511
    ∷ [])
    ≡ replicate 3 true
unfolding new_queue queue_ok places_ok place_ok widths_ok waiting_ok empty_ok all_zero all_below address_ok frame_fits
sound_queues = refl

-- 5 and 63 bytes; addresses 0, 240, 254, 257 and 511; a byte after the request; times that are too late
pub broken_queues : map queue_ok
    (holding (in_place 5 1 0 0) 0 0
    ∷ holding (in_place 63 1 0 0) 0 0
    ∷ holding (in_place 6 0 0 0) 0 0
    ∷ holding (in_place 6 240 0 0) 0 0
    ∷ holding (in_place 6 254 0 0) 0 0
    ∷ holding (in_place 6 1 1 0) 0 0
    ∷ holding (in_place 6 255 1 0) 0 0
    ∷ holding (in_place 61 1 0 1) 0 0
    ∷ holding (in_place 6 1 0 0) 1099511627777 0
    ∷ holding (in_place 6 1 0 0) 0 116736
    ∷ [])
    ≡ replicate 10 false
unfolding new_queue queue_ok places_ok place_ok widths_ok waiting_ok empty_ok all_zero all_below address_ok frame_fits
broken_queues = refl

-- a third network type, a count of nine, a request that is not counted, an empty place that is
pub miscounted_queues : map queue_ok
    (record { last = 0; next = 0; network = 2; dpa_value = 0; count = 0; places = replicate 8 empty_place }
    ∷ queue_from (new_queue true 0) 0 0 9 (replicate 8 (in_place 6 1 0 0))
    ∷ queue_from (new_queue true 0) 0 0 0 (in_place 6 1 0 0 ∷ replicate 7 empty_place)
    ∷ queue_from (new_queue true 0) 0 0 2 (in_place 6 1 0 0 ∷ replicate 7 empty_place)
    ∷ [])
    ≡ replicate 4 false
unfolding new_queue queue_ok places_ok place_ok widths_ok waiting_ok empty_ok all_zero all_below address_ok frame_fits
miscounted_queues = refl
