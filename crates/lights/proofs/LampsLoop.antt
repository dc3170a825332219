-- The invariant of the loop in `lamps_after`, and how each way through its body keeps it.
use mathlib.Core.Path.{◌≡◌, ap, ◌∙◌}
use mathlib.Core.List.{List}
use Prim.Native.Nat.{ℕ, ◌≤◌, ◌<◌}
use lib.ListN.{length, get_or, set, length-set}
use Rattle.dpa.specs.Settings.{max_lamps}
use Rattle.lights.specs.declared.lamp.Lamp.{Lamp}
use Rattle.lights.specs.declared.walk.LampWalk.{LampWalk}
use Rattle.lights.specs.declared.walk.NextLamp.{NextLamp}
use Rattle.lights.specs.Lamp.{off}
use Rattle.lights.specs.Lights.{lamp_after}
use Rattle.lights.specs.Remaining.{remaining_lamps, Remaining, lamp_changed, LampStep}
use Rattle.lights.proofs.RemainingLamps.{changed_implemented, changed_unimplemented}

-- What is before `walk` is done: the rest of the walk gives the same lamps as the whole walk from `start`; n is the lamp count.
pub record LampsDone (n : ℕ) (src : List ℕ) (start : LampWalk) (old : List Lamp) (walk : LampWalk) (after : List Lamp) : Type 0 where
  pub full : length after ≡ max_lamps
  pub remains : Remaining src walk
  pub rest : remaining_lamps n src walk after ≡ remaining_lamps n src start old

module _ {n : ℕ} {src : List ℕ} {start : LampWalk} {old : List Lamp} {walk : LampWalk} {after : List Lamp} (w : LampsDone n src start old walk after)
    (x : NextLamp) (step : LampStep src walk x) where
  changed_lamp : (ls : List Lamp) → length ls ≡ max_lamps → ls ≡ lamp_changed x.rest.command n x.lamp x.power x.seconds after
      → LampsDone n src start old x.rest ls
  changed_lamp ls l e =
      record { full = l; remains = step.remains; rest = ap (remaining_lamps n src x.rest) e ∙ step.lamps n after w.full ∙ w.rest }

  -- an implemented lamp
  pub lamp_changed_lem : (y : Lamp) → x.lamp < n → y ≡ lamp_after x.rest.command (get_or after x.lamp off) x.power x.seconds
      → LampsDone n src start old x.rest (set after x.lamp y)
  lamp_changed_lem y h e =
      changed_lamp (set after x.lamp y) (length-set after x.lamp y ∙ w.full)
      (changed_implemented x.rest.command n x.lamp x.power x.seconds after y h e)

  -- an unimplemented lamp
  pub lamp_unchanged : n ≤ x.lamp → LampsDone n src start old x.rest after
  lamp_unchanged h = changed_lamp after w.full (changed_unimplemented x.rest.command n x.lamp x.power x.seconds after h)
