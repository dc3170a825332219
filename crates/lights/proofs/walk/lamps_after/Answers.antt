-- `walk::lamps_after`: `LampsDone` is the invariant of its loop.
use borrow.Author.Rules.{rules}
use native.Mathlib.Omega.{arith}
use mathlib.Core.Path.{◌≡◌, refl, sym, ap, subst, ◌∙◌}
use mathlib.Core.Bool.{true}
use Prim.Native.Nat.{ℕ}
use lib.ListN.{length}
use Rattle.dpa.specs.Lists.{Bytes}
use Rattle.dpa.specs.Settings.{max_lamps}
use Rattle.lights.specs.declared.walk.LampWalk.{LampWalk}
use Rattle.lights.specs.Lights.{changes_lamps}
use Rattle.lights.specs.Remaining.{remaining_lamps, Remaining, walk_start}
use Rattle.lights.proofs.Commands.{read_tested}
use Rattle.lights.proofs.LampsLoop.{lamp_changed_lem}
use Rattle.lights.proofs.RemainingLamps.{start_remains, start_lamps, end_lamps}
use Rattle.lights.proofs.walk.lamps_after.Goals as goal

pub loop-walk-init : goal.loop-walk-init
loop-walk-init c =
    let lamps_length : length c.args.lamps ≡ max_lamps = search rules in
    let changing : let a = c.args in changes_lamps a.pcmd a.src.now ≡ true = c.requires (read_tested c.args.pcmd c.try_from.ensures (sym c.is_err.ensures.value ∙ c.if-is_err.false)) in
    let small : Bytes c.args.src.now = λ i. (c.type_inv.src i).fits in
    let a = c.args in
    record {
      full = lamps_length;
      remains = subst (Remaining a.src.now) (sym c.walk_start-walk.ensures) (start_remains a.pcmd a.src.now 0 changing small);
      rest = refl;
    }

pub loop-walk-preserved-then-i-implemented : goal.loop-walk-preserved-then-i-implemented
loop-walk-preserved-then-i-implemented c = lamp_changed_lem c.loop-walk.invariant _ c.next_lamp-change.ensures _ c.if-i-implemented.true c.lamp_after.ensures

pub returns : goal.returns
returns c =
    let changing : let a = c.args in changes_lamps a.pcmd a.src.now ≡ true = c.requires (read_tested c.args.pcmd c.try_from.ensures (sym c.is_err.ensures.value ∙ c.if-is_err.false)) in
    let small : Bytes c.args.src.now = λ i. (c.type_inv.src i).fits in
    let a = c.args in
    let src = a.src.now in
    sym (end_lamps c.from-implemented.result src c.loop-walk.walk (omega (arith, c.loop-walk-test.false)) c.loop-walk.after)
    ∙ c.loop-walk.invariant.rest
    ∙ ap (λ (w : LampWalk). remaining_lamps c.from-implemented.result src w a.lamps) c.walk_start-walk.ensures
    ∙ ap (λ (n : ℕ). remaining_lamps n src (walk_start a.pcmd src 0) a.lamps) c.from-implemented.ensures
    ∙ start_lamps a.pcmd src 0 changing small a.settings a.lamps
