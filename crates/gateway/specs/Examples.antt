-- Worked examples of the gateway, as histories: the request of document 000's confirmation, twice; a request whose response takes other
-- hops, and one to all nodes; the order of the refusals; bonds. Figures are from documents 01, 02 and 003.
use Rattle.std.specs.Prelude.{ℕ, ◌≡◌, true, false, List, [], ◌∷◌, ◌++◌, replicate}
use Rattle.queue.specs.Queue.{Outgoing, outgoing, new_queue}
use Rattle.gateway.specs.declared.record.Gateway.{Gateway}
use Rattle.gateway.specs.Gateway.{gateway_from, new_gateway, bond_of, unbond_of, clear_of, bond_count_of, bond_bitmap_of, send_request, release_of}
use Rattle.gateway.specs.History.{Call, bond, unbond, clear, count, bitmap, send, release, after, after_all, released_all}

-- the refusal of a call
abbrev refusal_of : Gateway → Call → ℕ
refusal_of g (bond a) = (bond_of g a).refusal
refusal_of g (unbond a) = (unbond_of g a).refusal
refusal_of g clear = (clear_of g).refusal
refusal_of g count = (bond_count_of g).refusal
refusal_of g bitmap = (bond_bitmap_of g).refusal
refusal_of g (send r t) = (send_request g r t).refusal
refusal_of g (release t o) = (release_of g t o).answer.refusal

-- those of a history
unfoldable pub call_refusals : Gateway → List Call → List ℕ
call_refusals g [] = []
call_refusals g (c ∷ cs) = refusal_of g c ∷ call_refusals (after g c) cs

-- a release with room for the confirmation
abbrev release_at : ℕ → Call
release_at t = release t (replicate 64 0)

-- ---- requests

-- document 000's request to node 10 over six hops in each direction, with document 003's delay
abbrev to_ten : Outgoing
to_ten = outgoing (10 ∷ 0 ∷ 7 ∷ 1 ∷ 255 ∷ 255 ∷ []) 6 6 20

-- to node 5 over 2 hops, 3 for the response, with 5 bytes of PData
abbrev to_five : Outgoing
to_five = outgoing (5 ∷ 0 ∷ 0x71 ∷ 0 ∷ 255 ∷ 255 ∷ 1 ∷ 0 ∷ 0 ∷ 0 ∷ 100 ∷ []) 2 3 20

-- to all nodes over 2 hops, with 17 bytes of PData
abbrev to_all : Outgoing
to_all = outgoing ((255 ∷ 0 ∷ 5 ∷ 1 ∷ 255 ∷ 255 ∷ []) ++ replicate 17 0) 2 3 20

-- to the node at this address, without PData
abbrev short_to : ℕ → Outgoing
short_to address = outgoing (address ∷ 0 ∷ 7 ∷ 1 ∷ 255 ∷ 255 ∷ []) 0 0 0

-- ---- histories

-- all bonds are removed while requests wait; a release is too early; and then a time goes back
abbrev mixed_calls : List Call
mixed_calls =
    bond 5 ∷ send to_five 900 ∷ send to_all 950 ∷ unbond 5 ∷ clear ∷ release_at 1000 ∷ release_at 1379 ∷ send to_all 1378 ∷ release_at 1380 ∷ release_at 1550 ∷ []

-- eight requests wait, the last given at 1,000 ms; only node 1 is bonded
abbrev full_calls : List Call
full_calls = bond 1 ∷ replicate 8 (send (short_to 1) 1000)

-- 1, 239 and 10 are bonded and 1 is removed again; the others are refused
abbrev bond_calls : List Call
bond_calls =
    bond 0 ∷ bond 1 ∷ bond 1 ∷ bond 239 ∷ bond 240 ∷ bond 255 ∷ bond 257 ∷ bond 10 ∷ unbond 2 ∷ unbond 257 ∷ unbond 1 ∷ unbond 1 ∷ []

-- one call of each kind
abbrev every_call : List Call
every_call = bond 1 ∷ unbond 1 ∷ clear ∷ count ∷ bitmap ∷ send (short_to 255) 0 ∷ release_at 0 ∷ []

-- ---- what they answer (proofs/Examples)

pub record GatewayExamples : Type 0 where
  -- the first ever is released at any time, the second 7 slots of 40 ms, the delay and 7 slots of 60 ms later
  pub second_waits : released_all (new_gateway false 7)
      (bond 10 ∷ send to_ten 1000 ∷ release_at 1000 ∷ send to_ten 1001 ∷ release_at 1719 ∷ release_at 1720 ∷ [])
      ≡ record { time = 1000; frame = to_ten.frame; confirmation = 10 ∷ 0 ∷ 7 ∷ 1 ∷ 255 ∷ 255 ∷ 255 ∷ 7 ∷ 6 ∷ 4 ∷ 6 ∷ []; next = 1720 }
      ∷ record { time = 1720; frame = to_ten.frame; confirmation = 10 ∷ 0 ∷ 7 ∷ 1 ∷ 255 ∷ 255 ∷ 255 ∷ 7 ∷ 6 ∷ 4 ∷ 6 ∷ []; next = 2440 }
      ∷ []
  -- 3 slots of 40 ms, the delay and 4 slots of 60 ms after the release to the node; 3 slots of 50 ms and the delay after that to all nodes
  pub mixed_released : released_all (new_gateway false 7) mixed_calls
      ≡ record { time = 1000; frame = to_five.frame; confirmation = 5 ∷ 0 ∷ 0x71 ∷ 0 ∷ 255 ∷ 255 ∷ 255 ∷ 7 ∷ 2 ∷ 4 ∷ 3 ∷ []; next = 1380 }
      ∷ record { time = 1380; frame = to_all.frame; confirmation = 255 ∷ 0 ∷ 5 ∷ 1 ∷ 255 ∷ 255 ∷ 255 ∷ 7 ∷ 2 ∷ 5 ∷ 0 ∷ []; next = 1550 }
      ∷ []
  -- only the send at 1,378 is refused: the release that was too early gave 1,379
  pub mixed_refused : call_refusals (new_gateway false 7) mixed_calls ≡ 0 ∷ 0 ∷ 0 ∷ 0 ∷ 0 ∷ 0 ∷ 0 ∷ 14 ∷ 0 ∷ 0 ∷ []
  -- a full queue: 12 before 13 before 14 in a send, 3 before 14 in a release
  pub full_refused : call_refusals (new_gateway true 0)
      (full_calls ++ (send (short_to 2) 999 ∷ send (short_to 1) 999 ∷ send (short_to 1) 1000 ∷ release 999 (replicate 63 0) ∷ release_at 999 ∷ []))
      ≡ replicate 9 0 ++ (12 ∷ 13 ∷ 13 ∷ 3 ∷ 14 ∷ [])
  -- a place that was released is used again: 12 before 14, and 2 ^ 40 ms can be given; then the queue is full again
  pub freed_refused : call_refusals (new_gateway true 0)
      (full_calls ++ (release_at 1000 ∷ send (short_to 2) 999 ∷ send (short_to 1) 999 ∷ send (short_to 1) 1099511627777 ∷ send (short_to 1) 1099511627776 ∷ send (short_to 1) 1099511627776 ∷ []))
      ≡ replicate 9 0 ++ (0 ∷ 12 ∷ 14 ∷ 14 ∷ 0 ∷ 13 ∷ [])
  -- one slot of 80 ms and one of 100 ms in an STD+LP network
  pub freed_released : released_all (new_gateway true 0) (full_calls ++ (release_at 1000 ∷ release_at 1179 ∷ []))
      ≡ record { time = 1000; frame = (short_to 1).frame; confirmation = 1 ∷ 0 ∷ 7 ∷ 1 ∷ 255 ∷ 255 ∷ 255 ∷ 0 ∷ 0 ∷ 8 ∷ 0 ∷ []; next = 1180 } ∷ []
  -- both bytes of NADR count, and the length of the frame is tested before
  pub frames_refused : call_refusals (new_gateway false 0)
      (bond 1 ∷ send (outgoing (1 ∷ 1 ∷ 7 ∷ 1 ∷ 255 ∷ 255 ∷ []) 0 0 0) 0 ∷ send (outgoing (2 ∷ 0 ∷ 7 ∷ 1 ∷ 255 ∷ []) 0 0 0) 0 ∷ send (short_to 255) 0 ∷ [])
      ≡ 0 ∷ 12 ∷ 2 ∷ 0 ∷ []
  pub bonds_refused : call_refusals (new_gateway false 0) bond_calls ≡ 12 ∷ 0 ∷ 12 ∷ 0 ∷ 12 ∷ 12 ∷ 12 ∷ 0 ∷ 12 ∷ 12 ∷ 0 ∷ 12 ∷ []
  -- bit 2 of byte 1 and bit 7 of byte 29
  pub bonds_left : let g = after_all (new_gateway false 0) bond_calls in
      (bond_count_of g ≡ record { refusal = 0; count = 2 })
      × (bond_bitmap_of g ≡ record { refusal = 0; bitmap = (0 ∷ 4 ∷ []) ++ (replicate 27 0 ++ (128 ∷ 0 ∷ 0 ∷ [])) })
  -- the count is that after the call, and 0 in a refused one; removing all bonds twice is not refused
  pub bonds_counted : let one = bond_of (new_gateway false 0) 1 in let two = bond_of one.gateway 239 in
      (one.count ≡ 1) × (two.count ≡ 2) × ((unbond_of two.gateway 1).count ≡ 1) × (bond_of two.gateway 1 ≡ record { refusal = 12; count = 0; gateway = two.gateway })
      × ((clear_of two.gateway).count ≡ 0) × (call_refusals two.gateway (clear ∷ clear ∷ []) ≡ 0 ∷ 0 ∷ [])
  -- address 0 or 240 is bonded: every call is refused
  pub broken_refused : (call_refusals (gateway_from (1 ∷ replicate 31 0) (new_queue false 0)) every_call ≡ replicate 7 1)
      × (call_refusals (gateway_from (replicate 30 0 ++ (1 ∷ 0 ∷ [])) (new_queue false 0)) every_call ≡ replicate 7 1)
