-- `apply::apply`: the lights change the lamps alone; for any other effect the walk from its start gives the parts of the state after it.
use mathlib.Core.Path.{◌≡◌, refl, sym, subst, ap, ◌∙◌}
use mathlib.Core.List.{List}
use Rattle.dpa.specs.Reply.{Reply}
use Rattle.lights.specs.declared.lamp.Lamp.{Lamp}
use Rattle.node.specs.State.{State}
use Rattle.outcome.specs.declared.reply.Effect.{Effect}
use Rattle.outcome.specs.declared.reply.Effect.TheVariants.{Lamps}
use Rattle.outcome.specs.Effect.{after_effect}
use Rattle.outcome.specs.Seen.{state_with, memories_in, request_seen}
use Rattle.outcome.proofs.Parts.{sound_sized}
use Rattle.outcome.proofs.Peripherals.{peripheral_lights}
use Rattle.effects.specs.declared.walk.Walk.{Walk}
use Rattle.effects.specs.Walk.{WalkOk, walk_lamps, walk_memories}
use Rattle.effects.proofs.Effects.{start_ok, effect_done}
use Rattle.effects.proofs.apply.apply.Goals as goal

pub returns-in-Lamps-clause-state : goal.returns-in-Lamps-clause-state
returns-in-Lamps-clause-state c =
    let told : c.args.effect ≡ Lamps = c.in-Lamps.is in
    let a = c.args in
    let st = state_with a.fixed a.lamps a.memories.now in
    let i = request_seen a.request in
    ap (λ (ls : List Lamp). state_with a.fixed ls a.memories.now) c.lamps_after.ensures
    ∙ sym (ap (λ (r : Reply State). r.after) (peripheral_lights i.pnum i.pcmd i.pdata st (c.requires.1.lights told)))
    ∙ ap (λ (x : Effect). after_effect x i st) (sym told)

pub change_lamps-requires : goal.change_lamps-requires
change_lamps-requires c = (subst (WalkOk _) (sym c.start_walk.ensures) (start_ok _ _ c.requires.1), sound_sized _ c.requires.0)

pub returns-clause-state : goal.returns-clause-state
returns-clause-state c =
    let a = c.args in
    let i = request_seen a.request in
    let s = a.fixed.settings in
    effect_done a.effect i a.fixed (state_with a.fixed a.lamps a.memories.now) _ _ refl
    (c.change_lamps.ensures.lamps ∙ ap (λ (w : Walk). walk_lamps s i w a.lamps) c.start_walk.ensures)
    (c.change_lamps.ensures.memories ∙ ap (λ (w : Walk). walk_memories s i w (memories_in a.memories.now)) c.start_walk.ensures)
