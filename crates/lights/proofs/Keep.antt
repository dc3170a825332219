-- Laws of keep: its bytes, and a lamp after it.
use Prim.Native.Nat.{ℕ}
use mathlib.Core.Path.{◌≡◌, refl, sym, ap}
use mathlib.Core.Bool.{true, false}
use mathlib.Core.List.{List, [], ◌∷◌}
use lib.Dec.{eqb}
use borrow.Author.Tests.{eq-eqb, ne_eqb}
use Rattle.dpa.proofs.Bool.{by_cond}
use Rattle.lights.specs.Lamp.{changed}
use Rattle.lights.specs.Lights.{keep_power, power_ok, time_ok, seconds_of, power_entry, first_power_entry, kept, lamp_after}
use Rattle.lights.specs.declared.apply.Command.{Command}
use Rattle.lights.specs.declared.lamp.Lamp.{Lamp}
use Rattle.std.specs.Prelude.{Some, None}

-- ---- its bytes

-- 7F hex is keep without a time
pub keep_alone : (xs : List ℕ) → first_power_entry (0x7F ∷ xs) ≡ Some (power_entry keep_power 0 1)
unfolding power_ok
keep_alone xs = refl

-- FF hex is keep with the time that follows
pub keep_timed : (t : ℕ) (xs : List ℕ) → time_ok t ≡ true → first_power_entry (0xFF ∷ t ∷ xs) ≡ Some (power_entry keep_power (seconds_of t) 2)
unfolding power_ok
keep_timed t xs k = rw k

-- that time has to be valid
pub keep_bad_time : (t : ℕ) (xs : List ℕ) → time_ok t ≡ false → first_power_entry (0xFF ∷ t ∷ xs) ≡ None
unfolding power_ok
keep_bad_time t xs k = rw k

-- and has to be there
pub keep_no_time : first_power_entry (0xFF ∷ []) ≡ None
unfolding power_ok
keep_no_time = refl

-- ---- the lamp

-- keep does the same whatever the command is
pub keep_after : (c : Command) (l : Lamp) (seconds : ℕ) → lamp_after c l keep_power seconds ≡ kept l seconds
unfolding lamp_after
keep_after c l seconds = refl

module _ (l : Lamp) where
  -- the level stays
  pub kept_level : (seconds : ℕ) → (kept l seconds).level ≡ l.level
  kept_level seconds = by_cond (λ (x : Lamp). x.level ≡ l.level) (eqb seconds 0) _ _ (λ _. refl) (λ _. refl)

  -- without a time the whole lamp stays
  pub kept_untimed : kept l 0 ≡ l
  kept_untimed = refl

  -- with a time a lit lamp has the seconds of that time, and its level
  pub kept_lit : (seconds : ℕ) → (seconds ≡ 0 → ⊥) → (l.level ≡ 0 → ⊥) → kept l seconds ≡ changed l l.level seconds
  kept_lit seconds timed lit = rw (ne_eqb seconds 0 timed, ne_eqb l.level 0 lit)

  -- a lamp that is off stays off, with or without a time
  pub kept_off : (seconds : ℕ) → l.level ≡ 0 → l.seconds ≡ 0 → kept l seconds ≡ l
  kept_off seconds zero none =
      by_cond (λ (x : Lamp). x ≡ l) (eqb seconds 0) _ _ (λ _. refl)
      (λ _. rw (eq-eqb l.level 0 zero) (ap (changed l l.level) (sym none)))
