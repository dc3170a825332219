-- What the code of a release hands out is what the definition says.
use mathlib.Core.Path.{◌≡◌, sym, ap, ap₂, ◌∙◌}
use mathlib.Core.Bool.{true}
use mathlib.Core.List.{List}
use Prim.Native.Nat.{ℕ}
use lib.ListN.{length, get_or}
use Rattle.dpa.specs.Answer.{LengthResult, result_in_buffer}
use Rattle.timing.specs.declared.slot.Network.{Network}
use Rattle.queue.specs.declared.record.Waiting.{Waiting}
use Rattle.gateway.specs.declared.record.Gateway.{Gateway}
use Rattle.queue.specs.Queue.{confirmation_of, empty_place, padded, request_in, WaitingRule, network_in, oldest, due, without_oldest}
use Rattle.gateway.specs.Gateway.{gateway_from, gateway_ok, release_result, released_result, release_effect}
use Rattle.gateway.proofs.Calls.{queue_rule}
use Rattle.queue.proofs.Changes.{due_facts, same_length}

module _ (g : Gateway) (t : ℕ) (o : List ℕ) (ok : gateway_ok g ≡ true) (e : due g.queue.count g.queue.next t ≡ true) where
  abbrev first : Waiting
  first = get_or g.queue.places 0 empty_place

  -- the oldest request follows the rule
  pub first_rule : WaitingRule first
  first_rule = (queue_rule g ok).waiting 0 (due_facts g.queue t e).0

  effect : release_effect g t o
      ≡ released_result (oldest g.queue) (confirmation_of (network_in g.queue) g.queue.dpa_value (oldest g.queue)) (gateway_from g.bonds (without_oldest g.queue t)) o
  unfolding release_effect
  effect = rw e

  -- the answer, from what the code has
  pub oldest_answered : (w : Waiting) (net : Network) (n k : ℕ) (o' : List ℕ) (g' : Gateway) → w ≡ first → net ≡ network_in g.queue
      → ◌≡◌ {A = LengthResult} (record { refusal = 0; length = n; out = o' }) (result_in_buffer 0 (confirmation_of net g.queue.dpa_value (request_in w)) o)
      → k ≡ w.length → g' ≡ gateway_from g.bonds (without_oldest g.queue t)
      → release_result (record { refusal = 0; released = true; length = n; frame_length = k; frame = w.frame; gateway = g' }) o' ≡ release_effect g t o
  oldest_answered w net n k o' g' ew en q ek eg =
      let z = q ∙ ap₂ (λ (m : Network) (x : Waiting). result_in_buffer 0 (confirmation_of m g.queue.dpa_value (request_in x)) o) en ew in
      let l : k ≡ length (oldest g.queue).frame = ek ∙ ap (λ (x : Waiting). x.length) ew ∙ sym (same_length first first_rule) in
      let f : w.frame ≡ padded (oldest g.queue).frame = ap (λ (x : Waiting). x.frame) (ew ∙ first_rule.place) in
      (λ i. release_result (record { refusal = 0; released = true; length = (z i).length; frame_length = l i; frame = f i; gateway = eg i }) (z i).out) ∙ sym effect
