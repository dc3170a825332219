-- The effect of a request on the settings, the lamps and the memories, and the walk at its start.
use mathlib.Core.Path.{◌≡◌, refl, sym, ap, ◌∙◌}
use mathlib.Core.List.{List}
use Prim.Native.Nat.{ℕ, ◌≤◌}
use native.Mathlib.Omega.{arith}
use lib.ListN.{length, take, drop}
use Rattle.dpa.specs.declared.settings.Settings.{Settings}
use Rattle.dpa.specs.NodeSet.{node_set_size}
use Rattle.lights.specs.declared.lamp.Lamp.{Lamp}
use Rattle.lights.proofs.RemainingLamps.{end_lamps}
use Rattle.batch.specs.Batch.{Request}
use Rattle.node.specs.declared.record.ReadOnly.{ReadOnly}
use Rattle.node.specs.State.{State}
use Rattle.outcome.specs.declared.reply.Effect.{Effect}
use Rattle.outcome.specs.declared.reply.Effect.TheVariants.{Nothing, Lamps, Alone, Batch, Selective}
use Rattle.outcome.specs.Effect.{after_effect, EffectKnown}
use Rattle.outcome.specs.Seen.{state_from_parts, Memories, memories_of}
use Rattle.outcome.proofs.Calls.{state_together}
use Rattle.outcome.proofs.Parts.{peripheral_settings, peripheral_lamps_lem, peripheral_memories_lem, entries_settings, entries_lamps, entries_memories}
use Rattle.effects.specs.declared.walk.Rest.{Rest}
use Rattle.effects.specs.declared.walk.Rest.TheVariants.{Ended, Whole, Entries}
use Rattle.effects.specs.declared.walk.Walk.{Walk}
use Rattle.effects.specs.Walk.{walk_at, WholeOk, WalkOk, current_lamps, rest_lamps, walk_lamps, walk_memories, start_walk}
use Rattle.effects.proofs.Tasks.{at_end_remains}

-- the settings are unchanged
pub effect_settings : (effect : Effect) (i : Request) (st : State) → (after_effect effect i st).node.settings ≡ st.node.settings
effect_settings Nothing i st = refl
effect_settings Lamps i st = peripheral_settings i.pnum i.pcmd i.pdata st
effect_settings Alone i st = peripheral_settings i.pnum i.pcmd i.pdata st
effect_settings Batch i st = entries_settings i.pdata st
effect_settings Selective i st = entries_settings (drop node_set_size i.pdata) st

-- the lamps are those after the walk
pub effect_lamps : (effect : Effect) (i : Request) (st : State)
    → walk_lamps st.node.settings i (start_walk effect) st.node.lamps ≡ (after_effect effect i st).node.lamps
unfolding walk_lamps
effect_lamps effect i st = at (start_walk effect) (started effect) st.node.settings st.node.lamps ∙ by effect
  where
    at : (w : Walk) → w.lamps.remaining ≡ 0 → (s : Settings) (ls : List Lamp)
        → rest_lamps w.rest s i w.next (current_lamps s i.pdata w ls) ≡ rest_lamps w.rest s i w.next ls
    at w z s ls = ap (rest_lamps w.rest s i w.next) (end_lamps s.lamp_count (take w.next i.pdata) w.lamps z ls)

    started : (e : Effect) → (start_walk e).lamps.remaining ≡ 0
    started Nothing = refl
    started Lamps = refl
    started Alone = refl
    started Batch = refl
    started Selective = refl

    by : (e : Effect) → rest_lamps (start_walk e).rest st.node.settings i (start_walk e).next st.node.lamps ≡ (after_effect e i st).node.lamps
    by Nothing = refl
    by Lamps = sym (peripheral_lamps_lem i.pnum i.pcmd i.pdata st)
    by Alone = sym (peripheral_lamps_lem i.pnum i.pcmd i.pdata st)
    by Batch = sym (entries_lamps i.pdata st)
    by Selective = sym (entries_lamps (drop node_set_size i.pdata) st)

-- and so are the memories
pub effect_memories : (effect : Effect) (i : Request) (st : State)
    → walk_memories st.node.settings i (start_walk effect) (memories_of st) ≡ memories_of (after_effect effect i st)
effect_memories Nothing i st = refl
effect_memories Lamps i st = sym (peripheral_memories_lem i.pnum i.pcmd i.pdata st)
effect_memories Alone i st = sym (peripheral_memories_lem i.pnum i.pcmd i.pdata st)
effect_memories Batch i st = sym (entries_memories i.pdata st)
effect_memories Selective i st = sym (entries_memories (drop node_set_size i.pdata) st)

-- the state after an effect, in its parts
pub effect_done : (effect : Effect) (i : Request) (k : ReadOnly) (st : State) (ls : List Lamp) (ns : Memories) → k.settings ≡ st.node.settings
    → ls ≡ walk_lamps st.node.settings i (start_walk effect) st.node.lamps → ns ≡ walk_memories st.node.settings i (start_walk effect) (memories_of st)
    → state_from_parts k ls ns.ram ns.eeprom ns.external ≡ after_effect effect i st
effect_done effect i k st ls ns e p q =
    state_together k ls ns (after_effect effect i st) (e ∙ sym (effect_settings effect i st)) (p ∙ effect_lamps effect i st) (q ∙ effect_memories effect i st)

-- the walk at the start can go on
pub start_ok : (effect : Effect) (i : Request) → EffectKnown effect i → WalkOk i (start_walk effect)
start_ok effect i known = by effect known
  where
    made : (r : Rest) (next : ℕ) → next ≤ length i.pdata → (r ≡ Whole → WholeOk i (walk_at r next)) → WalkOk i (walk_at r next)
    made r next h w = record { next_max = h; remains = at_end_remains i.pdata next h; whole = w }

    by : (e : Effect) → EffectKnown e i → WalkOk i (start_walk e)
    by Nothing k = made Ended 0 (omega arith) (λ e. cc)
    by Lamps k = made Whole 0 (omega arith) (λ _. record { at_start = refl; valid = λ _. k.changes refl })
    by Alone k = made Whole 0 (omega arith) (λ _. record { at_start = refl; valid = λ p. absurd (k.not_lights refl p) })
    by Batch k = made Entries 0 (omega arith) (λ e. cc)
    by Selective k = made Entries node_set_size (k.node_set refl) (λ e. cc)
