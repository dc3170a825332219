-- The response, after the effect of the request, is the result of the call.
use mathlib.Core.Path.{◌≡◌, refl, ap, sym, ◌∙◌}
use mathlib.Core.List.{List}
use mathlib.Core.Bool.{true}
use Prim.Native.Nat.{ℕ}
use lib.Dec.{eqb}
use Rattle.dpa.specs.declared.frame.Frame.{Frame}
use Rattle.dpa.specs.declared.settings.Settings.{Settings}
use Rattle.dpa.specs.Frame.{broadcast_nadr}
use Rattle.dpa.proofs.Bool.{by_cond}
use Rattle.batch.specs.Batch.{Request}
use Rattle.node.specs.State.{State}
use Rattle.outcome.specs.Seen.{RequestReply, SeenAnswer, reply_and_buffer, addressed_result, answer_in_response}
use Rattle.outcome.specs.Request.{execute, CallResult}
use Rattle.outcome.specs.Effect.{request_effect, after_effect}
use Rattle.outcome.proofs.Effects.{request_effect_lem}

-- after the effect of the request, the answer in the response is the result of the call
pub handled_call : (s : Settings) (h : Frame) (i : Request) (st : State) (o : List ℕ) {c : RequestReply} {w : List ℕ} {next : State}
    → reply_and_buffer c w ≡ answer_in_response (execute i st) (request_effect i) (addressed_result s h i (execute i st) o)
    → next ≡ after_effect c.effect i st
    → record { after = next; refusal = 0; length = c.length; report = c.report; addressed = true; response = w } ≡ addressed_result s h i (execute i st) o
handled_call s h i st o {c} {w} {next} p q =
    let a = execute i st in
    let result : State → SeenAnswer → CallResult = λ x l.
    record { after = x; refusal = 0; length = l.reply.length; report = l.reply.report; addressed = true; response = l.out } in
    let Same : CallResult → Type 0 = λ r. result a.after (answer_in_response a (request_effect i) r) ≡ r in
    ap (λ (x : State). result x (reply_and_buffer c w))
    (q ∙ ap (λ (l : SeenAnswer). after_effect l.reply.effect i st) p ∙ sym (request_effect_lem i st))
    ∙ ap (result a.after) p
    ∙ by_cond Same (eqb h.nadr broadcast_nadr) _ _ (λ _. refl) (λ _. by_cond Same a.answered _ _ (λ _. refl) (λ _. refl))
