-- Document 02, change 6: the gateway record, its rule, and the calls. Each call gives the first refusal that applies, in the order written.
use Rattle.std.specs.Prelude.{ℕ, List, [], Bool, true, false, cond, not, ◌&&◌, length, eqb, ltb, Result, Ok, Err}
use Rattle.dpa.specs.Frame.{longest_response, frame_fits}
use Rattle.dpa.specs.Lists.{overwrite_front}
use Rattle.dpa.specs.declared.refusal.Refusal.{Refusal}
use Rattle.dpa.specs.Refusal.{refusal_number}
use Rattle.bonds.specs.declared.addresses.Bonds.{Bonds}
use Rattle.queue.specs.declared.record.SendQueue.{SendQueue}
use Rattle.gateway.specs.declared.record.Gateway.{Gateway}
use Rattle.gateway.specs.declared.record.BondAnswer.{BondAnswer}
use Rattle.gateway.specs.declared.record.CountAnswer.{CountAnswer}
use Rattle.gateway.specs.declared.record.BitmapAnswer.{BitmapAnswer}
use Rattle.gateway.specs.declared.record.GatewayAnswer.{GatewayAnswer}
use Rattle.gateway.specs.declared.record.ReleaseAnswer.{ReleaseAnswer}
use Rattle.bonds.specs.Bonds.{no_bonds, bond_count, can_change, changed_bonds, can_send, bonds_ok, BondsRule}
use Rattle.queue.specs.Queue.{Outgoing, nadr_of, confirmation_of, queue_size, padded, queue_ok, QueueRule, new_queue, network_in, oldest, clock_ok, due, with_time, with_request, without_oldest}

abbrev pub gateway_from : List ℕ → SendQueue → Gateway
gateway_from bonds q = record { bonds = bonds; queue = q }

-- the gateway rule
unfoldable pub gateway_ok : Gateway → Bool
gateway_ok g = bonds_ok g.bonds && queue_ok g.queue

-- the same as facts (proofs/Gateways: `gateway_facts`, `gateway_test`)
pub record GatewayRule (g : Gateway) : Type 0 where
  pub bonds : BondsRule g.bonds
  pub queue : QueueRule g.queue

-- ---- start

-- `gateway_start`: no bonds, an empty send queue
abbrev pub new_gateway : Bool → ℕ → Gateway
new_gateway lp dpa_value = gateway_from no_bonds (new_queue lp dpa_value)

-- ---- bonds

-- the answer of a call that is not refused: the number of bonds after it, and the gateway with these bonds
abbrev pub bonds_answer : Gateway → List ℕ → BondAnswer
bonds_answer g bonds = record { refusal = 0; count = bond_count bonds; gateway = gateway_from bonds g.queue }

abbrev pub bond_refused : ℕ → Gateway → BondAnswer
bond_refused refusal g = record { refusal = refusal; count = 0; gateway = g }

-- the answer for C of a call on the bonds, from its outcome: the bonds after it, or a refusal
abbrev pub bond_answer_of : Gateway → Result Bonds Refusal → BondAnswer
bond_answer_of g (Ok b) = bonds_answer g b.bytes
bond_answer_of g (Err e) = bond_refused (refusal_number e) g

-- an address is added (true) or removed (false): a broken record: 1; an address that no node can have, one that is bonded when it is to be
-- added, or not bonded when it is to be removed: 12
unfoldable pub change_of : Bool → Gateway → ℕ → BondAnswer
change_of add g a =
    cond (not (gateway_ok g)) (bond_refused 1 g)
    (cond (not (can_change add g.bonds a)) (bond_refused 12 g)
    (bonds_answer g (changed_bonds add g.bonds a)))

-- `bond`
abbrev pub bond_of : Gateway → ℕ → BondAnswer
bond_of g a = change_of true g a

-- `unbond`
abbrev pub unbond_of : Gateway → ℕ → BondAnswer
unbond_of g a = change_of false g a

-- `clear_bonds`: a broken record: 1
unfoldable pub clear_of : Gateway → BondAnswer
clear_of g = cond (gateway_ok g) (bonds_answer g no_bonds) (bond_refused 1 g)

-- the answer for C: a refused call counts no bonds
abbrev pub count_answer_of : Result ℕ Refusal → CountAnswer
count_answer_of (Ok n) = record { refusal = 0; count = n }
count_answer_of (Err e) = record { refusal = refusal_number e; count = 0 }

-- `bond_count`: a broken record: 1
unfoldable pub bond_count_of : Gateway → CountAnswer
bond_count_of g = cond (gateway_ok g) (record { refusal = 0; count = bond_count g.bonds }) (record { refusal = 1; count = 0 })

-- the answer for C: a refused call has no bits
abbrev pub bitmap_answer_of : Result (List ℕ) Refusal → BitmapAnswer
bitmap_answer_of (Ok bits) = record { refusal = 0; bitmap = bits }
bitmap_answer_of (Err e) = record { refusal = refusal_number e; bitmap = no_bonds }

-- `bond_bitmap`: a broken record: 1
unfoldable pub bond_bitmap_of : Gateway → BitmapAnswer
bond_bitmap_of g = cond (gateway_ok g) (record { refusal = 0; bitmap = g.bonds }) (record { refusal = 1; bitmap = no_bonds })

-- ---- the send queue

-- why a send is refused: a broken record: 1; not a frame of 6 to 62 bytes: 2; NADR neither that of a bonded node nor 255: 12; eight
-- requests wait: 13; a time before the last one or over 2 ^ 40: 14
unfoldable pub send_refusal : Gateway → List ℕ → ℕ → ℕ
send_refusal g frame t =
    cond (not (gateway_ok g)) 1
    (cond (not (frame_fits (length frame))) 2
    (cond (not (can_send g.bonds (nadr_of frame))) 12
    (cond (eqb g.queue.count queue_size) 13
    (cond (not (clock_ok g.queue.last t)) 14
    0))))

abbrev pub gateway_answer : ℕ → Gateway → GatewayAnswer
gateway_answer refusal g = record { refusal = refusal; gateway = g }

-- `send`
unfoldable pub send_request : Gateway → Outgoing → ℕ → GatewayAnswer
send_request g r t =
    cond (eqb (send_refusal g r.frame t) 0)
    (gateway_answer 0 (gateway_from g.bonds (with_request g.queue r t)))
    (gateway_answer (send_refusal g r.frame t) g)

-- why a release with a buffer of this size is refused: a broken record: 1; under 64 bytes: 3; a time before the last one or over 2 ^ 40: 14
unfoldable pub release_refusal : Gateway → ℕ → ℕ → ℕ
release_refusal g t size =
    cond (not (gateway_ok g)) 1
    (cond (ltb size longest_response) 3
    (cond (not (clock_ok g.queue.last t)) 14
    0))

-- the answer of a release, and the buffer
pub record ReleaseResult : Type 0 where
  pub answer : ReleaseAnswer
  pub out : List ℕ

abbrev pub release_result : ReleaseAnswer → List ℕ → ReleaseResult
release_result a o = record { answer = a; out = o }

-- nothing is released
abbrev pub not_released : ℕ → Gateway → List ℕ → ReleaseResult
not_released refusal g o =
    release_result
    (record { refusal = refusal; released = false; length = 0; frame_length = 0; frame = padded []; gateway = g })
    o

-- r is released, with this confirmation
abbrev pub released_result : Outgoing → List ℕ → Gateway → List ℕ → ReleaseResult
released_result r confirmation g o =
    release_result
    (record {
      refusal = 0;
      released = true;
      length = length confirmation;
      frame_length = length r.frame;
      frame = padded r.frame;
      gateway = g;
    })
    (overwrite_front confirmation o)

-- a release that is not refused; if none waits, or the time is too early, only the time is recorded
unfoldable pub release_effect : Gateway → ℕ → List ℕ → ReleaseResult
release_effect g t o =
    cond (due g.queue.count g.queue.next t)
    (released_result (oldest g.queue) (confirmation_of (network_in g.queue) g.queue.dpa_value (oldest g.queue))
    (gateway_from g.bonds (without_oldest g.queue t)) o)
    (not_released 0 (gateway_from g.bonds (with_time g.queue t)) o)

-- `release`
unfoldable pub release_of : Gateway → ℕ → List ℕ → ReleaseResult
release_of g t o = cond (eqb (release_refusal g t (length o)) 0) (release_effect g t o) (not_released (release_refusal g t (length o)) g o)
