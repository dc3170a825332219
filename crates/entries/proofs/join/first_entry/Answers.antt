-- The loop: the first i steps are in one entry, of `size` bytes so far.
use mathlib.Core.Path.{sym, ap, ◌∙◌}
use Rattle.book.specs.declared.step.Step.{Step}
use Rattle.entries.specs.EntrySize.{first_size}
use Rattle.entries.proofs.FirstEntry.{first_steps_start, first_steps_stop, first_steps_next, first_steps_end}
use Rattle.entries.proofs.join.first_entry.Goals as goal

pub loop-i-init : goal.loop-i-init
loop-i-init c =
    let s = c.first_size-size.ensures in
    first_steps_start c.args.limit c.requires.1.step _ _ _ c.requires.0 (s.0 ∙ ap first_size c.step-first.ensures) s.1

pub returns-in_default : goal.returns-in_default
returns-in_default c =
    first_steps_stop _ _ _ _ _ _ _ _ c.loop-i.invariant c.loop-i-test.true c.step-before.ensures c.step.ensures
    (ap (λ (x : Step). x.kind) c.step-first.ensures)
    (sym c.joined_size.ensures ∙ c.in_default.is)

pub loop-i-preserved : goal.loop-i-preserved
loop-i-preserved c =
    first_steps_next _ _ _ _ _ _ _ _ c.loop-i.invariant c.loop-i-test.true c.step-before.ensures c.step.ensures
    (ap (λ (x : Step). x.kind) c.step-first.ensures)
    (sym c.joined_size.ensures ∙ c.in-Some.is)

pub returns : goal.returns
returns c = first_steps_end _ _ _ _ _ c.loop-i.invariant c.loop-i-test.false
