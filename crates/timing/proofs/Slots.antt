-- Laws of timeslots and of the times computed from them.
use mathlib.Core.Path.{◌≡◌}
use mathlib.Core.Bool.{Bool, true, false}
use Prim.Native.Nat.{ℕ, ◌+◌, ◌*◌, ◌≤◌, ◌<◌}
use native.Mathlib.Nat.{mul-le-mul}
use native.Mathlib.Omega.{arith}
use Rattle.std.proofs.lemmas.Bool.Decides.{nat_tests}
use borrow.Author.Tests.{le-ltb}
use Rattle.dpa.specs.Frame.{pdata_max}
use Rattle.timing.specs.declared.slot.Network.{Network}
use Rattle.timing.specs.declared.slot.Network.TheVariants.{Std, StdLp}
use Rattle.timing.specs.Slot.{base_slot, network_extra, slot_of, direction_time, earliest_of, wait_max, send_of}

base_range : (n : ℕ) → (4 ≤ base_slot n) × (base_slot n ≤ 6)
unfolding base_slot
base_range n = (grind (arith, nat_tests), grind (arith, nat_tests))

extra_max : (net : Network) → network_extra net ≤ 4
unfolding network_extra
extra_max Std = omega arith
extra_max StdLp = omega arith

-- a slot is 40 to 100 ms
pub slot_range : (n : ℕ) (net : Network) → (4 ≤ slot_of n net) × (slot_of n net ≤ 10)
unfolding slot_of
slot_range n net =
    let b = base_range n in
    let x = extra_max net in
    (omega arith, omega arith)

-- the longest time for one direction with slots of at most m: 255 hops
pub direction_max_lem : (hops slot m : ℕ) → hops < 256 → slot ≤ m → direction_time hops slot ≤ 2560 * m
unfolding direction_time
direction_max_lem hops slot m h s =
    let k : hops + 1 ≤ 256 = omega arith in
    let p : (hops + 1) * slot ≤ 256 * m = mul-le-mul k s in
    omega arith

-- more hops never take less time
pub direction_grows : (h k slot : ℕ) → h ≤ k → direction_time h slot ≤ direction_time k slot
unfolding direction_time
direction_grows h k slot l =
    let a : h + 1 ≤ k + 1 = omega arith in
    let b : slot ≤ slot = omega arith in
    let p : (h + 1) * slot ≤ (k + 1) * slot = mul-le-mul a b in
    omega arith

-- no wait is longer
pub earliest_max : (hops request_length delay hops_of_response response_length : ℕ) (net : Network) (broadcast : Bool) → hops < 256 → delay < 65536 → hops_of_response < 256
    → earliest_of hops request_length delay hops_of_response response_length net broadcast ≤ wait_max
unfolding earliest_of
earliest_max hops request_length delay hops_of_response response_length net broadcast h d b =
    let p : direction_time hops (slot_of request_length net) ≤ 2560 * 10 = direction_max_lem hops (slot_of request_length net) 10 h (slot_range request_length net).1 in
    let q : direction_time hops_of_response (slot_of response_length net) ≤ 2560 * 10 = direction_max_lem hops_of_response (slot_of response_length net) 10 b (slot_range response_length net).1 in
    grind (arith, nat_tests)

-- nor is one that `earliest_send` answers longer
pub send_max : (hops request_length delay hops_of_response response_length : ℕ) (net : Network) (broadcast : Bool) → hops < 256 → delay < 65536 → hops_of_response < 256
    → (send_of hops request_length delay hops_of_response response_length net broadcast).milliseconds ≤ wait_max
unfolding send_of
send_max hops request_length delay hops_of_response response_length net broadcast h d b =
    let e = earliest_max hops request_length delay hops_of_response response_length net broadcast h d b in
    grind (arith, nat_tests)

-- the wait after a broadcast does not depend on the response, as long as its length is in range
pub broadcast_ignores_response : (hops request_length delay b b' r r' : ℕ) (net : Network) → r ≤ pdata_max → r' ≤ pdata_max
    → send_of hops request_length delay b r net true ≡ send_of hops request_length delay b' r' net true
unfolding send_of earliest_of
broadcast_ignores_response hops request_length delay b b' r r' net h h' = simp (le-ltb pdata_max r h, le-ltb pdata_max r' h')

earliest_grows : (h h' request_length delay b b' response_length : ℕ) (net : Network) (broadcast : Bool) → h ≤ h' → b ≤ b'
    → earliest_of h request_length delay b response_length net broadcast ≤ earliest_of h' request_length delay b' response_length net broadcast
unfolding earliest_of
earliest_grows h h' request_length delay b b' response_length net true l m = omega (arith, direction_grows h h' (slot_of request_length net) l)
earliest_grows h h' request_length delay b b' response_length net false l m =
    omega (arith, direction_grows h h' (slot_of request_length net) l, direction_grows b b' (slot_of response_length net) m)

-- more hops in either direction never give an earlier time
pub send_grows : (h h' request_length delay b b' response_length : ℕ) (net : Network) (broadcast : Bool) → h ≤ h' → b ≤ b'
    → (send_of h request_length delay b response_length net broadcast).milliseconds ≤ (send_of h' request_length delay b' response_length net broadcast).milliseconds
unfolding send_of
send_grows h h' request_length delay b b' response_length net broadcast l m =
    let e = earliest_grows h h' request_length delay b b' response_length net broadcast l m in
    grind (arith, nat_tests)
