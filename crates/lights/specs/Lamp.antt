-- Document 01, "Node and lamps": a lamp's valid values, its actual level, and its timer.
use Rattle.std.specs.Prelude.{ℕ, ◌+◌, ◌-◌, ◌*◌, ◌/◌, ◌≤◌, ◌≡◌, Bool, cond, not, ◌&&◌, ◌||◌, List, get_or, leb, ltb, eqb}
use Rattle.dpa.specs.declared.settings.Settings.{Settings}
use Rattle.lights.specs.declared.lamp.Lamp.{Lamp}

-- the highest level, and the longest timer: 127 minutes
abbrev pub max_level : ℕ
max_level = 100

abbrev pub max_seconds : ℕ
max_seconds = 7620

abbrev pub lamp : ℕ → ℕ → Lamp
lamp v s = record { level = v; seconds = s }

-- the lamp with a new level and new seconds; a lamp has no other field
abbrev pub changed : Lamp → ℕ → ℕ → Lamp
changed l v s = lamp v s

-- a lamp of zeros
abbrev pub off : Lamp
off = lamp 0 0

-- an implemented lamp: level and timer within their limits, and no timer at level 0
unfoldable pub lamp_ok : Lamp → Bool
lamp_ok l = leb l.level max_level && leb l.seconds max_seconds && (not (eqb l.level 0) || eqb l.seconds 0)

-- the same rule as facts (proofs/Lamps: `lamp_facts`, `lamp_test`)
pub record LampRule (l : Lamp) : Type 0 where
  pub level_max : l.level ≤ max_level
  pub seconds_max : l.seconds ≤ max_seconds
  pub seconds_off : l.level ≡ 0 → l.seconds ≡ 0

-- an unimplemented lamp: all zero
unfoldable pub lamp_zero : Lamp → Bool
lamp_zero l = eqb l.level 0 && eqb l.seconds 0

-- lamp k of a node with `count` lamps: implemented if k is below the count
unfoldable pub lamp_fits : ℕ → ℕ → Lamp → Bool
lamp_fits count k l = cond (ltb k count) (lamp_ok l) (lamp_zero l)

-- no level is above the highest
abbrev pub LevelsInRange : List Lamp → Type 0
LevelsInRange ls = (i : ℕ) → (get_or ls i off).level ≤ max_level

-- the same, and the lamps from n on are off: so it is in a sound node with n lamps
pub record SoundLevels (n : ℕ) (ls : List Lamp) : Type 0 where
  pub in_range : LevelsInRange ls
  pub unimplemented_off : (i : ℕ) → n ≤ i → (get_or ls i off).level ≡ 0

-- the level rounded up to a multiple of the step
-- (proofs/Lamps: `actual_multiple`, `actual_above`, `actual_least`, `actual_max`)
unfoldable pub actual_level : Settings → ℕ → ℕ
actual_level s level = (level + (s.step - 1)) / s.step * s.step

-- rounding multiplies by this number in place of dividing by the step (proofs/Lamps: `inverse_divides`)
unfoldable pub step_inverse : Settings → ℕ
step_inverse s = 65536 / s.step + 1

-- one second later: a running timer counts down, and the lamp turns off when it reaches 0
unfoldable pub tick_lamp : Lamp → Lamp
tick_lamp l =
    cond (eqb l.seconds 0) l
    (changed l (cond (eqb (l.seconds - 1) 0) 0 l.level) (l.seconds - 1))
