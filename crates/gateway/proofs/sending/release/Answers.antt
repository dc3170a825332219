-- `sending::release`: refused, only the time, or the oldest request.
use mathlib.Core.Path.{sym, ap, ◌∙◌}
use Prim.Native.Nat.{ℕ}
use Rattle.queue.specs.declared.record.SendQueue.{SendQueue}
use Rattle.gateway.specs.Gateway.{gateway_from, not_released}
use Rattle.gateway.proofs.Calls.{release_refusal_answer, release_answer, effect_early}
use Rattle.queue.proofs.Changes.{numbered}
use Rattle.gateway.proofs.sending.release.Goals as goal

pub returns-in-Err : goal.returns-in-Err
returns-in-Err c =
    let a = c.args in
    c.not_released.ensures a.out.now
    ∙ ap (λ (k : ℕ). not_released k a.gateway a.out.now) c.from.ensures
    ∙ sym (release_refusal_answer a.gateway a.time a.out.now _ c.in-Err.ensures (numbered c.in-Err.refusal))

pub returns-then-not-is_due : goal.returns-then-not-is_due
returns-then-not-is_due c =
    let a = c.args in
    c.not_released-then-not-is_due.ensures a.out.now
    ∙ ap (λ (q : SendQueue). not_released 0 (gateway_from a.gateway.bonds q) a.out.now) c.with_time-queue.ensures
    ∙ sym (release_answer a.gateway a.time a.out.now (sym c.in_default.ensures) ∙ effect_early a.gateway a.time a.out.now (sym c.if-not-is_due.ensures))
