-- The call: refusals, the address of the frame, and the response.
use mathlib.Core.Path.{◌≡◌, ap, ◌∙◌}
use mathlib.Core.List.{List}
use mathlib.Core.Bool.{Bool, true, false, ◌&&◌, ◌||◌}
use Prim.Native.Nat.{ℕ, ◌-◌, ◌≤◌}
use native.Mathlib.Omega.{arith}
use lib.Dec.{ltb, eqb}
use lib.ListN.{length, take, drop}
use borrow.Author.Tests.{eq-eqb, ne_eqb, eqb-true, eqb-false, ltb-false}
use Rattle.dpa.specs.declared.frame.Frame.{Frame}
use Rattle.dpa.specs.Frame.{header_size, longest_frame, longest_response, broadcast_nadr, header_of, frame_fits}
use Rattle.dpa.proofs.Bool.{by_cond, by_test, then_taken, else_taken}
use Rattle.dpa.proofs.Headers.{fits_sizes}
use Rattle.dpa.proofs.Lists.{slice_to_end}
use Rattle.memory.specs.declared.block.Memory.TheVariants.{Eeprom, External}
use Rattle.memory.specs.Block.{size_of}
use Rattle.lights.specs.declared.lamp.Lamp.{Lamp}
use Rattle.node.specs.declared.record.Node.{Node}
use Rattle.node.specs.declared.record.ReadOnly.{ReadOnly}
use Rattle.node.specs.Node.{node_ok}
use Rattle.node.specs.State.{State, state, SoundState}
use Rattle.outcome.specs.Request.{header_request, frame_request, execute, CallResult, unhandled_result, unanswered_result, response_result, unicast_result, handle_frame, request_refusal, call_refusal, handle_request}
use Rattle.outcome.specs.Seen.{state_from_parts, Memories, memories_of, addressed_result}

-- the request that the code reads from a frame
pub frame_request_read : (f : List ℕ) {h : Frame} → h ≡ header_of f → header_request h (take (length f - header_size) (drop header_size f)) ≡ frame_request f
frame_request_read f e =
    ap (λ (h : Frame). header_request h (take (length f - header_size) (drop header_size f))) e
    ∙ ap (header_request (header_of f)) (slice_to_end header_size f)

module _ (f : List ℕ) (st : State) (o : List ℕ) where
  -- a broadcast
  pub frame_broadcast : (header_of f).nadr ≡ broadcast_nadr → handle_frame f st o ≡ unanswered_result (execute (frame_request f) st) o
  unfolding handle_frame
  frame_broadcast e = rw (eq-eqb (header_of f).nadr broadcast_nadr e)

  -- a frame for this node
  pub frame_unicast : ((header_of f).nadr ≡ broadcast_nadr → ⊥) → (header_of f).nadr ≡ st.node.settings.address
      → handle_frame f st o ≡ unicast_result st.node.settings (frame_request f) (execute (frame_request f) st) o
  unfolding handle_frame
  frame_unicast n e = rw (ne_eqb (header_of f).nadr broadcast_nadr n, eq-eqb (header_of f).nadr st.node.settings.address e)

  -- a frame for all nodes or for this one
  pub frame_addressed : (eqb (header_of f).nadr broadcast_nadr || eqb (header_of f).nadr st.node.settings.address) ≡ true
      → handle_frame f st o ≡ addressed_result st.node.settings (header_of f) (frame_request f) (execute (frame_request f) st) o
  frame_addressed e =
      by_test (eqb (header_of f).nadr broadcast_nadr)
      (λ a. rw a (frame_broadcast (eqb-true _ _ a)))
      (λ a. rw a (frame_unicast (eqb-false _ _ a) (eqb-true _ _ (own (eqb (header_of f).nadr broadcast_nadr) (eqb (header_of f).nadr st.node.settings.address) a e))))
    where
      own : (b c : Bool) → b ≡ false → (b || c) ≡ true → c ≡ true
      own true c p q = cc
      own false c p q = q

  -- a frame for another node
  pub frame_other : (eqb (header_of f).nadr broadcast_nadr || eqb (header_of f).nadr st.node.settings.address) ≡ false → handle_frame f st o ≡ unhandled_result st 0 o
  unfolding handle_frame
  frame_other e =
      by_test (eqb (header_of f).nadr broadcast_nadr)
      (λ a. cc)
      (λ a. rw (a, other (eqb (header_of f).nadr broadcast_nadr) (eqb (header_of f).nadr st.node.settings.address) a e))
    where
      other : (b c : Bool) → b ≡ false → (b || c) ≡ false → c ≡ false
      other true c p q = cc
      other false c p q = q

  -- a refused call changes nothing
  pub call_refused : {k : ℕ} → k ≡ call_refusal f st o → (k ≡ 0 → ⊥) → unhandled_result st k o ≡ handle_request f st o
  unfolding handle_request
  call_refused e n =
      rw (ne_eqb (call_refusal f st o) 0 (λ z. n (e ∙ z))) (ap (λ (r : ℕ). unhandled_result st r o) e)

  -- a call that is not refused handles the frame
  pub call_accepted : call_refusal f st o ≡ 0 → handle_request f st o ≡ handle_frame f st o
  unfolding handle_request
  call_accepted e = rw (eq-eqb (call_refusal f st o) 0 e)

-- A property of results holds for every call if it holds where nothing is done, without a response and with one.
pub call_cases : (P : CallResult → Type 0) (f : List ℕ) (st : State) (o : List ℕ) → ((k : ℕ) → P (unhandled_result st k o))
    → (call_refusal f st o ≡ 0 → P (unanswered_result (execute (frame_request f) st) o))
    → (call_refusal f st o ≡ 0 → P (response_result st.node.settings (frame_request f) (execute (frame_request f) st) o))
    → P (handle_request f st o)
unfolding handle_request handle_frame
call_cases P f st o nothing all own =
    by_cond P (eqb (call_refusal f st o) 0) _ _
    (λ z. by_cond P (eqb (header_of f).nadr broadcast_nadr) _ _ (λ _. all (eqb-true _ _ z))
    (λ _. by_cond P (eqb (header_of f).nadr st.node.settings.address) _ _
    (λ _. by_cond P (execute (frame_request f) st).answered _ _ (λ _. own (eqb-true _ _ z)) (λ _. all (eqb-true _ _ z)))
    (λ _. nothing 0)))
    (λ _. nothing (call_refusal f st o))

-- a call reports "addressed" exactly if it is not refused and NADR is the broadcast's or the node's
pub addressed_exact : (f : List ℕ) (st : State) (o : List ℕ)
    → (handle_request f st o).addressed
    ≡ (eqb (handle_request f st o).refusal 0 && (eqb (header_of f).nadr broadcast_nadr || eqb (header_of f).nadr st.node.settings.address))
unfolding handle_request handle_frame
addressed_exact f st o =
    let all = eqb (header_of f).nadr broadcast_nadr in
    let own = eqb (header_of f).nadr st.node.settings.address in
    let Exact : CallResult → Type 0 = λ a. a.addressed ≡ (eqb a.refusal 0 && (all || own)) in
    by_cond Exact (eqb (call_refusal f st o) 0) _ _
    (λ _. by_cond Exact all _ _ (λ e. rw e)
    (λ e. by_cond Exact own _ _ (λ q. by_cond Exact (execute (frame_request f) st).answered _ _ (λ _. rw (e, q)) (λ _. rw (e, q))) (λ q. rw (e, q))))
    (λ e. rw e)

module _ (n : Node) (f e x r : ℕ) (z : request_refusal n f e x r ≡ 0) where
  -- what a call without a refusal was given
  pub not_refused_facts : (node_ok n ≡ true) × (header_size ≤ f) × (f ≤ longest_frame) × (longest_response ≤ r) × (e ≡ size_of Eeprom) × (x ≡ size_of External)
  unfolding request_refusal
  not_refused_facts =
      let a = then_taken (node_ok n) _ 1 0 (λ q. omega arith) z in
      let b = then_taken (frame_fits f) _ 2 0 (λ q. omega arith) a.1 in
      let c = else_taken (ltb r longest_response) 3 _ 0 (λ q. omega arith) b.1 in
      let d = then_taken (eqb e (size_of Eeprom)) _ 4 0 (λ q. omega arith) c.1 in
      let g = then_taken (eqb x (size_of External)) 0 4 0 (λ q. omega arith) d.1 in
      (a.0, (fits_sizes f b.0).0, (fits_sizes f b.0).1, ltb-false _ _ c.0, eqb-true _ _ d.0, eqb-true _ _ g.0)

-- a call without a refusal was given a sound state
pub accepted_sound : (n : Node) (e x : List ℕ) (f r : ℕ) → request_refusal n f (length e) (length x) r ≡ 0 → SoundState (state n e x)
accepted_sound n e x f r z =
    let k = not_refused_facts n f (length e) (length x) r z in
    record { node_valid = k.0; eeprom_sized = k.4; external_sized = k.5 }

-- ---- as the code shows it

-- a state is put together from the settings, the lamps and the memories that belong to it
pub state_together : (k : ReadOnly) (ls : List Lamp) (ms : Memories) (st : State) → k.settings ≡ st.node.settings → ls ≡ st.node.lamps → ms ≡ memories_of st
    → state_from_parts k ls ms.ram ms.eeprom ms.external ≡ st
state_together k ls ms st p q m = λ j. state_from_parts (record { settings = p j }) (q j) (m j).ram (m j).eeprom (m j).external
