-- The cases of each call, what a refused call leaves, and the four effects that a call can have on the queue.
use Prim.Native.Nat.{ℕ, ◌+◌, ◌≤◌, ◌<◌}
use mathlib.Core.Path.{◌≡◌, refl, sym}
use mathlib.Core.Bool.{Bool, true, false, cond, not, ◌&&◌, ◌||◌}
use mathlib.Core.List.{List, [], ◌∷◌}
use native.Mathlib.Omega.{arith}
use lib.ListN.{length, drop, replicate}
use lib.Seq.{take-append_seam}
use lib.Dec.{eqb, ltb, leb}
use borrow.Author.Tests.{eqb-true, eqb-false, ne_eqb, ltb-false, le-ltb, le-leb, not-false}
use Rattle.dpa.specs.Frame.{longest_frame, longest_response, broadcast_nadr, frame_fits}
use Rattle.dpa.specs.Settings.{node_address, address_ok}
use Rattle.dpa.proofs.Bool.{and_right, both, by_cond, by_test, else_taken}
use Rattle.timing.specs.Slot.{wait_max}
use Rattle.queue.specs.declared.record.SendQueue.{SendQueue}
use Rattle.gateway.specs.declared.record.Gateway.{Gateway}
use Rattle.gateway.specs.declared.record.BondAnswer.{BondAnswer}
use Rattle.gateway.specs.declared.record.GatewayAnswer.{GatewayAnswer}
use Rattle.bonds.specs.Bonds.{no_bonds, bonded, bonded_node, can_change, changed_bonds, can_send, bonds_ok}
use Rattle.queue.specs.Queue.{Outgoing, nadr_of, queue_size, time_max, queue_ok, QueueRule, network_in, oldest, confirmation_of, clock_ok, due, with_time, with_request, without_oldest}
use Rattle.gateway.specs.Gateway.{gateway_from, gateway_ok, bonds_answer, bond_refused, change_of, clear_of, send_refusal, gateway_answer, send_request, release_refusal, ReleaseResult, not_released, released_result, release_effect, release_of}
use Rattle.gateway.specs.History.{Call, bond, unbond, clear, count, bitmap, send, release, after, accepted, released, Handout, handout, HandoutOf, late_enough}
use Rattle.queue.proofs.Rules.{queue_facts}
use Rattle.queue.proofs.Changes.{due_facts}

-- the queue of a sound gateway is sound
pub gateway_queue : (g : Gateway) → gateway_ok g ≡ true → queue_ok g.queue ≡ true
unfolding gateway_ok
gateway_queue g e = and_right (bonds_ok g.bonds) _ e

-- it follows the rule
pub queue_rule : (g : Gateway) → gateway_ok g ≡ true → QueueRule g.queue
queue_rule g e = queue_facts g.queue (gateway_queue g e)

-- ---- bonds

-- a call on the bonds is refused with the gateway as it is, or answers the changed bonds
module _ (P : BondAnswer → Type 0) (g : Gateway) (refused : (k : ℕ) → P (bond_refused k g)) where
  -- the cases of `bond` and `unbond`
  pub change_cases : (add : Bool) (a : ℕ) → (gateway_ok g ≡ true → can_change add g.bonds a ≡ true → P (bonds_answer g (changed_bonds add g.bonds a)))
      → P (change_of add g a)
  unfolding change_of
  change_cases add a f =
      by_cond P (not (gateway_ok g)) _ _ (λ e. refused 1) λ e.
      by_cond P (not (can_change add g.bonds a)) _ _ (λ d. refused 12) (λ d. f (not-false _ e) (not-false _ d))

  -- the cases of `clear_bonds`
  pub clear_cases : (gateway_ok g ≡ true → P (bonds_answer g no_bonds)) → P (clear_of g)
  unfolding clear_of
  clear_cases f = by_cond P (gateway_ok g) _ _ f (λ e. refused 1)

-- a refused call on the bonds answers only its refusal and the gateway as it was
abbrev pub BondRefusal : Gateway → BondAnswer → Type 0
BondRefusal g x = (x.refusal ≡ 0 → ⊥) → x ≡ bond_refused x.refusal g

-- the queue is as it was, so nothing that waits is withdrawn; refused or not
abbrev pub KeepsQueue : Gateway → BondAnswer → Type 0
KeepsQueue g x = x.gateway.queue ≡ g.queue

module _ (g : Gateway) where
  -- a refused `bond` or `unbond` changes nothing
  pub change_refused : (add : Bool) (a : ℕ) → BondRefusal g (change_of add g a)
  change_refused add a = change_cases (BondRefusal g) g (λ k z. refl) add a (λ e d z. absurd (z refl))

  -- nor does a refused `clear_bonds`
  pub clear_refused : BondRefusal g (clear_of g)
  clear_refused = clear_cases (BondRefusal g) g (λ k z. refl) (λ e z. absurd (z refl))

  -- `bond` and `unbond` keep the queue
  pub change_keeps_queue : (add : Bool) (a : ℕ) → KeepsQueue g (change_of add g a)
  change_keeps_queue add a = change_cases (KeepsQueue g) g (λ k. refl) add a (λ e d. refl)

  -- so does `clear_bonds`
  pub clear_keeps_queue : KeepsQueue g (clear_of g)
  clear_keeps_queue = clear_cases (KeepsQueue g) g (λ k. refl) (λ e. refl)

-- ---- send

-- what holds when a request is accepted
pub record Sendable (g : Gateway) (r : Outgoing) (t : ℕ) : Type 0 where
  pub sound : gateway_ok g ≡ true
  pub fits : frame_fits (length r.frame) ≡ true
  pub bond : can_send g.bonds (nadr_of r.frame) ≡ true
  pub address : address_ok (nadr_of r.frame) ≡ true
  pub free : g.queue.count < queue_size
  pub time : clock_ok g.queue.last t ≡ true

-- an address that a request can be sent to is 255 or that of a node
send_address : (bonds : List ℕ) (a : ℕ) → can_send bonds a ≡ true → address_ok a ≡ true
unfolding can_send bonded_node address_ok
send_address bonds a e = first (eqb a broadcast_nadr) (node_address a) (bonded bonds a) e
  where
    first : (x y z : Bool) → (x || (y && z)) ≡ true → (x || y) ≡ true
    first true y z e = refl
    first false true z e = refl
    first false false z e = e

-- no refusal gives these facts
pub send_facts : (g : Gateway) (r : Outgoing) (t : ℕ) → send_refusal g r.frame t ≡ 0 → Sendable g r t
unfolding send_refusal
send_facts g r t e =
    let a = else_taken (not (gateway_ok g)) 1 _ 0 (λ z. omega arith) e in
    let b = else_taken (not (frame_fits (length r.frame))) 2 _ 0 (λ z. omega arith) a.1 in
    let c = else_taken (not (can_send g.bonds (nadr_of r.frame))) 12 _ 0 (λ z. omega arith) b.1 in
    let d = else_taken (eqb g.queue.count queue_size) 13 _ 0 (λ z. omega arith) c.1 in
    let f = else_taken (not (clock_ok g.queue.last t)) 14 _ 0 (λ z. omega arith) d.1 in
    let sound : gateway_ok g ≡ true = not-false _ a.0 in
    let bonded : can_send g.bonds (nadr_of r.frame) ≡ true = not-false _ c.0 in
    record {
      sound = sound;
      fits = not-false _ b.0;
      bond = bonded;
      address = send_address g.bonds (nadr_of r.frame) bonded;
      free = omega (arith, eqb-false g.queue.count queue_size d.0, (queue_rule g sound).count_max);
      time = not-false _ f.0;
    }

module _ (g : Gateway) (r : Outgoing) (t : ℕ) where
  -- the cases of `send`
  pub send_cases : (P : GatewayAnswer → Type 0) → ((k : ℕ) → (k ≡ 0 → ⊥) → P (gateway_answer k g))
      → (Sendable g r t → P (gateway_answer 0 (gateway_from g.bonds (with_request g.queue r t)))) → P (send_request g r t)
  unfolding send_request
  send_cases P refused f =
      by_cond P (eqb (send_refusal g r.frame t) 0) _ _ (λ e. f (send_facts g r t (eqb-true _ _ e))) (λ e. refused (send_refusal g r.frame t) (eqb-false _ _ e))

  -- a refused `send` answers only its refusal and the gateway as it was
  pub send_refused : ((send_request g r t).refusal ≡ 0 → ⊥) → send_request g r t ≡ gateway_answer (send_request g r t).refusal g
  send_refused = send_cases (λ x. (x.refusal ≡ 0 → ⊥) → x ≡ gateway_answer x.refusal g) (λ k n z. refl) (λ s z. absurd (z refl))

  -- a `send` that is not refused puts the request into the queue
  pub send_accepted : (send_request g r t).refusal ≡ 0 → Sendable g r t × ((send_request g r t).gateway ≡ gateway_from g.bonds (with_request g.queue r t))
  send_accepted =
      send_cases (λ x. x.refusal ≡ 0 → Sendable g r t × (x.gateway ≡ gateway_from g.bonds (with_request g.queue r t)))
      (λ k n z. absurd (n z)) (λ s z. (s, refl))

-- ---- release

-- no refusal gives a sound gateway, a buffer of 64 bytes, and a time that can be given
pub release_facts : (g : Gateway) (t size : ℕ) → release_refusal g t size ≡ 0
    → (gateway_ok g ≡ true) × (longest_response ≤ size) × (clock_ok g.queue.last t ≡ true)
unfolding release_refusal
release_facts g t size e =
    let a = else_taken (not (gateway_ok g)) 1 _ 0 (λ z. omega arith) e in
    let b = else_taken (ltb size longest_response) 3 _ 0 (λ z. omega arith) a.1 in
    let c = else_taken (not (clock_ok g.queue.last t)) 14 _ 0 (λ z. omega arith) b.1 in
    (not-false _ a.0, ltb-false _ _ b.0, not-false _ c.0)

module _ (g : Gateway) (t : ℕ) (o : List ℕ) where
  -- the answer of a release that releases
  abbrev pub handed_out_result : ReleaseResult
  handed_out_result =
      released_result (oldest g.queue) (confirmation_of (network_in g.queue) g.queue.dpa_value (oldest g.queue))
      (gateway_from g.bonds (without_oldest g.queue t)) o

  -- and of one that only records the time
  abbrev pub only_time : ReleaseResult
  only_time = not_released 0 (gateway_from g.bonds (with_time g.queue t)) o

  -- the cases of `release`
  pub release_cases : (P : ReleaseResult → Type 0) → ((k : ℕ) → (k ≡ 0 → ⊥) → P (not_released k g o))
      → (gateway_ok g ≡ true → clock_ok g.queue.last t ≡ true → due g.queue.count g.queue.next t ≡ true → P handed_out_result)
      → (gateway_ok g ≡ true → clock_ok g.queue.last t ≡ true → due g.queue.count g.queue.next t ≡ false → P only_time)
      → P (release_of g t o)
  unfolding release_of release_effect
  release_cases P refused handed timed =
      by_cond P (eqb (release_refusal g t (length o)) 0) _ _
      (λ e.
      let z = release_facts g t (length o) (eqb-true _ _ e) in
      by_cond P (due g.queue.count g.queue.next t) _ _ (handed z.0 z.2) (timed z.0 z.2))
      (λ e. refused (release_refusal g t (length o)) (eqb-false _ _ e))

  -- by its refusal k
  pub release_refusal_answer : (k : ℕ) → k ≡ release_refusal g t (length o) → (k ≡ 0 → ⊥) → release_of g t o ≡ not_released k g o
  unfolding release_of
  release_refusal_answer k e n = rw (sym e, ne_eqb k 0 n)

  -- a time that is too early, or none waiting
  pub effect_early : due g.queue.count g.queue.next t ≡ false → release_effect g t o ≡ only_time
  unfolding release_effect
  effect_early e = rw e

  -- without a refusal
  pub release_answer : release_refusal g t (length o) ≡ 0 → release_of g t o ≡ release_effect g t o
  unfolding release_of
  release_answer e = rw e

  -- a refused `release` releases nothing, and gateway and buffer are as they were
  pub release_refused : ((release_of g t o).answer.refusal ≡ 0 → ⊥) → release_of g t o ≡ not_released (release_of g t o).answer.refusal g o
  release_refused =
      release_cases (λ x. (x.answer.refusal ≡ 0 → ⊥) → x ≡ not_released x.answer.refusal g o)
      (λ k n z. refl) (λ e i u z. absurd (z refl)) (λ e i u z. absurd (z refl))

  -- one that is not refused and does not release only records the time
  pub not_released_lem : (release_of g t o).answer.refusal ≡ 0 → (release_of g t o).answer.released ≡ false → release_of g t o ≡ only_time
  not_released_lem =
      release_cases (λ x. x.answer.refusal ≡ 0 → x.answer.released ≡ false → x ≡ only_time)
      (λ k n z. absurd (n z)) (λ e i u z w. let c : ◌≡◌ {A = ℕ} 0 1 = cc in absurd (omega arith)) (λ e i u z w. refl)

  -- one that releases hands out the oldest request
  pub released_oldest : (release_of g t o).answer.released ≡ true → release_of g t o ≡ handed_out_result
  released_oldest =
      release_cases (λ x. x.answer.released ≡ true → x ≡ handed_out_result)
      (λ k n z. let c : ◌≡◌ {A = ℕ} 0 1 = cc in absurd (omega arith)) (λ e i u z. refl)
      (λ e i u z. let c : ◌≡◌ {A = ℕ} 0 1 = cc in absurd (omega arith))

  -- on a sound gateway, with a buffer of 64 bytes and a time that can be given and is not too early, `release` is late enough
  pub late_enough_lem : gateway_ok g ≡ true → longest_response ≤ length o → clock_ok g.queue.last t ≡ true → g.queue.next ≤ t
      → late_enough g (release t o) ≡ true
  unfolding release_of release_effect release_refusal
  late_enough_lem e l ok n =
      let z : release_refusal g t (length o) ≡ 0 = rw (e, le-ltb (length o) longest_response l, ok) refl in
      rw (z, le-leb g.queue.next t n)
      (by_cond (λ (x : ReleaseResult). (eqb x.answer.refusal 0 && true) ≡ true) (due g.queue.count g.queue.next t) _ _ (λ u. refl) (λ u. refl))

  -- 116,735 ms after the last time given every release is late enough
  pub always_late : gateway_ok g ≡ true → longest_response ≤ length o → g.queue.last + wait_max ≤ t → t ≤ time_max → late_enough g (release t o) ≡ true
  unfolding clock_ok
  always_late e l h m =
      let f = queue_rule g e in
      late_enough_lem e l (both (le-leb g.queue.last t (omega arith)) (le-leb t time_max m)) (omega (arith, f.next_max))

  -- a request is released exactly if the call is not refused, a request waits and the time is not before the next one
  pub released_exactly : (release_of g t o).answer.released ≡ (eqb (release_refusal g t (length o)) 0 && due g.queue.count g.queue.next t)
  unfolding release_of release_effect
  released_exactly =
      by_test (eqb (release_refusal g t (length o)) 0)
      (λ e. by_test (due g.queue.count g.queue.next t) (λ u. rw (e, u)) (λ u. rw (e, u)))
      (λ e. rw e)

  -- after it a place is free, so that the next send is not refused with 13
  pub free_again : (release_of g t o).answer.released ≡ true → (release_of g t o).answer.gateway.queue.count < queue_size
  free_again =
      release_cases (λ x. x.answer.released ≡ true → x.answer.gateway.queue.count < queue_size)
      (λ k n z. let c : ◌≡◌ {A = ℕ} 0 1 = cc in absurd (omega arith))
      (λ e i u z. omega (arith, (queue_rule g e).count_max, (due_facts g.queue t u).0))
      (λ e i u z. let c : ◌≡◌ {A = ℕ} 0 1 = cc in absurd (omega arith))

-- ---- the effect of a call on the queue

-- what is handed out is the oldest request: its frame, and its confirmation
handed_oldest : (g : Gateway) (t : ℕ) (o : List ℕ) → HandoutOf g.queue (oldest g.queue) (handout t (handed_out_result g t o))
handed_oldest g t o =
    let r = oldest g.queue in
    let c = confirmation_of (network_in g.queue) g.queue.dpa_value r in
    record {
      same_frame = take-append_seam r.frame (drop (length r.frame) (replicate longest_frame 0));
      same_confirmation = take-append_seam c (drop (length c) o);
      same_next = refl;
    }

-- no release although the time is late enough: none waits
none_waits : (q : SendQueue) (t : ℕ) → due q.count q.next t ≡ false → leb q.next t ≡ true → q.count ≡ 0
unfolding due
none_waits q t u l =
    by_test (ltb 0 q.count)
    (λ w. let p : due q.count q.next t ≡ true = both w l in let z : ◌≡◌ {A = ℕ} 0 1 = cc in absurd (omega arith))
    (λ w. omega (arith, ltb-false 0 q.count w))

-- a call has one of four effects: none; only the time is recorded; a request is put after the others; the oldest is handed out. P is over
-- the queue after the call, the requests accepted, the handouts, and whether the call was a release that was late enough
module _ (P : SendQueue → List Outgoing → List Handout → Bool → Type 0) (g : Gateway)
    (kept : P g.queue [] [] false)
    (timed : (t : ℕ) (late : Bool) → QueueRule g.queue → clock_ok g.queue.last t ≡ true → (late ≡ true → g.queue.count ≡ 0)
    → P (with_time g.queue t) [] [] late)
    (handed : (h : Handout) → QueueRule g.queue → clock_ok g.queue.last h.time ≡ true → due g.queue.count g.queue.next h.time ≡ true
    → HandoutOf g.queue (oldest g.queue) h → P (without_oldest g.queue h.time) [] (h ∷ []) true) where
  pub by_effect : (c : Call) → ((r : Outgoing) (t : ℕ) → c ≡ send r t → Sendable g r t → P (with_request g.queue r t) (r ∷ []) [] false)
      → P (after g c).queue (accepted g c) (released g c) (late_enough g c)
  by_effect (bond a) sent = change_cases (λ x. P x.gateway.queue [] [] false) g (λ k. kept) true a (λ e d. kept)
  by_effect (unbond a) sent = change_cases (λ x. P x.gateway.queue [] [] false) g (λ k. kept) false a (λ e d. kept)
  by_effect clear sent = clear_cases (λ x. P x.gateway.queue [] [] false) g (λ k. kept) (λ e. kept)
  by_effect count sent = kept
  by_effect bitmap sent = kept
  by_effect (send r t) sent =
      send_cases g r t (λ x. P x.gateway.queue (cond (eqb x.refusal 0) (r ∷ []) []) [] false)
      (λ k n. rw (ne_eqb k 0 n) kept) (λ s. sent r t refl s)
  by_effect (release t o) sent =
      release_cases g t o
      (λ x. P x.answer.gateway.queue [] (cond x.answer.released (handout t x ∷ []) []) (eqb x.answer.refusal 0 && leb g.queue.next t))
      (λ k n. rw (ne_eqb k 0 n) kept)
      (λ e i u.
      let late : leb g.queue.next t ≡ true = le-leb _ _ (due_facts g.queue t u).1 in
      rw late (handed (handout t (handed_out_result g t o)) (queue_rule g e) i u (handed_oldest g t o)))
      (λ e i u. timed t (leb g.queue.next t) (queue_rule g e) i (none_waits g.queue t u))
