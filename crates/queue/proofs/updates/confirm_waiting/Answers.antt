-- `updates::confirm_waiting`: the confirmation of `timing`.
use Rattle.std.proofs.Common.{ℕ, ap, sym, ◌∙◌}
use Rattle.std.specs.Prelude.{Result}
use Rattle.dpa.specs.declared.refusal.Refusal.{Refusal}
use Rattle.dpa.specs.Answer.{length_answer, length_result}
use Rattle.queue.proofs.Changes.{waiting_confirmed, confirmation_ok}
use Rattle.queue.proofs.updates.confirm_waiting.Goals as goal

pub unwrap-requires : goal.unwrap-requires
unwrap-requires c =
    let a = c.args in
    confirmation_ok a.waiting.now c.requires.0 _ _ _ _ _ a.out.now _ _ c.from.ensures c.requires.1 c.confirm.ensures

pub returns : goal.returns
returns c =
    let a = c.args in
    ap (λ (s : Result ℕ Refusal). length_result (length_answer s) c.confirm.new.out) (sym c.unwrap.ensures)
    ∙ c.confirm.ensures ∙ waiting_confirmed a.waiting.now c.requires.0 a.network a.dpa_value _ a.out.now c.from.ensures c.requires.1
