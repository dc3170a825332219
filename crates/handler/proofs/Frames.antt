-- The answer to a frame and its effect are the result of the call.
use Rattle.std.proofs.Common.{◌≡◌, ℕ, ◌≤◌, List, true, eqb, length, length-drop, sym, ap, ◌∙◌, arith}
use Rattle.std.specs.Prelude.{◌||◌}
use Rattle.dpa.specs.declared.frame.Frame.{Frame}
use Rattle.dpa.specs.Frame.{header_size, pdata_max, longest_frame, broadcast_nadr, header_of}
use Rattle.lights.specs.declared.lamp.Lamp.{Lamp}
use Rattle.batch.specs.Batch.{Request}
use Rattle.node.specs.declared.record.Node.{Node}
use Rattle.node.specs.declared.record.ReadOnly.{ReadOnly}
use Rattle.node.specs.Node.{read_only_of, node_from_parts}
use Rattle.node.specs.State.{State, state}
use Rattle.outcome.specs.declared.memories.Memories.{Memories}
use Rattle.outcome.specs.declared.reply.Effect.{Effect}
use Rattle.outcome.specs.declared.reply.Response.{Response}
use Rattle.outcome.specs.Request.{frame_request, execute, handle_frame}
use Rattle.outcome.specs.Effect.{request_effect, after_effect, EffectKnown}
use Rattle.outcome.specs.Seen.{state_from_parts, state_with, SeenAnswer, reply_of, response_seen, answer_in_response, addressed_result, request_answer, call_result}
use Rattle.outcome.proofs.Calls.{frame_addressed}
use Rattle.outcome.proofs.Effects.{effect_known}
use Rattle.outcome.proofs.Sizes.{execute_place}
use Rattle.outcome.proofs.Responses.{handled_call}

module _ (n : Node) (f e x o : List ℕ) where
  -- the state of the call, as the code has it
  abbrev given : ReadOnly → State
  given k = state_from_parts k n.lamps n.ram e x

  -- what the buffer shows of the answer to a request
  abbrev shown : Frame → Request → ReadOnly → SeenAnswer
  shown h i k = answer_in_response (execute i (given k)) (request_effect i) (addressed_result k.settings h i (execute i (given k)) o)

  module _ (k : ReadOnly) (h : Frame) (i : Request) (r : Response) {w : List ℕ} (answered : response_seen r w ≡ shown h i k) where
    -- what the answer found out about the effect that is left
    pub frame_effect : {effect : Effect} → effect ≡ (reply_of r.reply).effect → EffectKnown effect i
    frame_effect same = rw (same, ap (λ (l : SeenAnswer). l.reply.effect) answered) (effect_known i (given k))

    module _ (t : i ≡ frame_request f) where
      -- the place that it reports
      pub reported_place : length f ≤ longest_frame → (reply_of r.reply).report.place ≤ pdata_max
      reported_place l =
          let p = ap (λ (j : Request). length j.pdata) t ∙ length-drop header_size f in
          omega (arith, p, ap (λ (l : SeenAnswer). l.reply.report.place) answered, execute_place i (given k))

      -- after the effect, the answer is the result of the call, with the memories as the call gives them back
      pub frame_handled : k ≡ read_only_of n → h ≡ header_of f → (eqb h.nadr broadcast_nadr || eqb h.nadr n.settings.address) ≡ true
          → {effect : Effect} {ls : List Lamp} (m : Memories) {ram eeprom external : List ℕ} → effect ≡ (reply_of r.reply).effect
          → state_with k ls m ≡ after_effect effect i (given k) → ram ≡ m.ram.now → eeprom ≡ m.eeprom.now → external ≡ m.external.now
          → call_result (request_answer 0 r.length (reply_of r.reply).report true (node_from_parts k ls ram)) eeprom external w ≡ handle_frame f (state n e x) o
      frame_handled p q own m same applied u v z =
          let changed : Request → State → State = after_effect (reply_of r.reply).effect in
          let a = answered ∙ ap (shown h i) p ∙ ap (λ (j : Frame). shown j i (read_only_of n)) q ∙ ap (λ (j : Request). shown (header_of f) j (read_only_of n)) t in
          let b = applied ∙ ap (λ (u : Effect). after_effect u i (given k)) same ∙ ap (λ (j : ReadOnly). changed i (given j)) p ∙ ap (λ (j : Request). changed j (state n e x)) t in
          let g = ap (λ (j : Frame). eqb j.nadr broadcast_nadr || eqb j.nadr n.settings.address) (sym q) ∙ own in
          rw (u, v, z)
          (handled_call n.settings (header_of f) (frame_request f) (state n e x) o a b ∙ sym (frame_addressed f (state n e x) o g))
