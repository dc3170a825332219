-- Examples from documents 01, 003 (confirmation) and 000 (DPA guide).
use mathlib.Core.Path.{◌≡◌, refl}
use mathlib.Core.Bool.{true, false}
use mathlib.Core.List.{[], ◌∷◌, map}
use Prim.Native.Nat.{ℕ, ◌+◌, ◌*◌}
use native.Mathlib.Omega.{arith}
use Rattle.timing.specs.declared.slot.Network.TheVariants.{Std, StdLp}
use Rattle.timing.specs.Slot.{base_slot, network_extra, slot_of, direction_time, earliest_of}
use Rattle.timing.specs.Confirm.{response_hops_sent, confirmation}

-- 01: slots by PData length, and 4 more each in STD+LP
pub slots_01 : (map (λ n. slot_of n Std) (0 ∷ 16 ∷ 17 ∷ 40 ∷ 41 ∷ 56 ∷ []) ≡ 4 ∷ 4 ∷ 5 ∷ 5 ∷ 6 ∷ 6 ∷ [])
    × (map (λ n. slot_of n StdLp) (0 ∷ 16 ∷ 17 ∷ 40 ∷ 41 ∷ 56 ∷ []) ≡ 8 ∷ 8 ∷ 9 ∷ 9 ∷ 10 ∷ 10 ∷ [])
unfolding base_slot network_extra slot_of
slots_01 = (refl, refl)

-- 01: hops 2 and 3, PData of 5 and 20 bytes, a delay of 20 ms; without the response for a broadcast
pub wait_01 : (earliest_of 2 5 20 3 20 Std false ≡ 340) × (earliest_of 2 5 20 3 20 Std true ≡ 140) × (earliest_of 2 5 20 3 20 StdLp false ≡ 620)
unfolding base_slot network_extra slot_of direction_time earliest_of
wait_01 = (refl, refl, refl)

-- 003: a request over q hops, a delay of 20 ms, a response of 20 bytes over r hops
pub wait_003 : (q r : ℕ) → earliest_of q 6 20 r 20 Std false ≡ (q + 1) * 40 + 20 + (r + 1) * 50
unfolding base_slot network_extra slot_of direction_time earliest_of
wait_003 q r = omega arith

-- 000: the confirmation of a request without PData to node 10, 6 hops in each direction, slots of 40 ms
pub confirmation_000 : confirmation (10 ∷ 0 ∷ 7 ∷ 1 ∷ 255 ∷ 255 ∷ []) 7 6 6 Std
    ≡ 10 ∷ 0 ∷ 7 ∷ 1 ∷ 255 ∷ 255 ∷ 255 ∷ 7 ∷ 6 ∷ 4 ∷ 6 ∷ []
unfolding base_slot network_extra slot_of response_hops_sent
confirmation_000 = refl

-- response hops are 0 for a broadcast; only NADR 0x00FF is one
pub confirmation_broadcast : (confirmation (255 ∷ 0 ∷ 7 ∷ 1 ∷ 255 ∷ 255 ∷ []) 7 2 3 StdLp ≡ 255 ∷ 0 ∷ 7 ∷ 1 ∷ 255 ∷ 255 ∷ 255 ∷ 7 ∷ 2 ∷ 8 ∷ 0 ∷ [])
    × (confirmation (255 ∷ 1 ∷ 7 ∷ 1 ∷ 255 ∷ 255 ∷ []) 7 2 3 Std ≡ 255 ∷ 1 ∷ 7 ∷ 1 ∷ 255 ∷ 255 ∷ 255 ∷ 7 ∷ 2 ∷ 4 ∷ 3 ∷ [])
unfolding base_slot network_extra slot_of response_hops_sent
confirmation_broadcast = (refl, refl)
