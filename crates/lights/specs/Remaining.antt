-- What remains of a set, raise or lower while its lamps are changed one after another. In this file src is the bytes up to the end of the
-- request, and n is the lamp count.
use Rattle.std.specs.Prelude.{ℕ, ◌+◌, ◌^◌, ◌≤◌, ◌<◌, ◌≡◌, List, true, cond, length, drop, get_or, set, ltb}
use Rattle.dpa.specs.Settings.{max_lamps}
use Rattle.lights.specs.Bits.{bitmap_size, bits, count, mask_of}
use Rattle.lights.specs.Lamp.{off}
use Rattle.lights.specs.Lights.{PowerEntries, power_entries, are_valid, changes_of, lamp_after, lamps_after, command_of}
use Rattle.lights.specs.declared.apply.Command.{Command}
use Rattle.lights.specs.declared.apply.Command.TheVariants.{Set}
use Rattle.lights.specs.declared.lamp.Lamp.{Lamp}
use Rattle.lights.specs.declared.walk.LampWalk.{LampWalk}
use Rattle.lights.specs.declared.walk.NextLamp.{NextLamp}

-- the remaining power entries
abbrev pub remaining_entries : List ℕ → LampWalk → PowerEntries
remaining_entries src w = power_entries (count (bits max_lamps w.remaining)) (drop w.at src)

-- the lamps after them
unfoldable pub remaining_lamps : ℕ → List ℕ → LampWalk → List Lamp → List Lamp
remaining_lamps n src w ls = lamps_after w.command n (bits max_lamps w.remaining) (changes_of (remaining_entries src w)) ls

-- a walk that can go on: no bit is above the last lamp's, and the power entries are valid
pub record Remaining (src : List ℕ) (w : LampWalk) : Type 0 where
  pub mask_max : w.remaining < 2 ^ max_lamps
  pub at_max : w.at ≤ length src
  pub entries_valid : are_valid (remaining_entries src w) ≡ true

-- the walk at the end of a request: nothing remains (proofs/RemainingLamps: `end_remains`, `end_lamps`)
abbrev pub walk_end : ℕ → LampWalk
walk_end end = record { command = Set; remaining = 0; at = end }

-- the walk at the start of a request that changes lamps; its PData is from start to the end of src (`start_remains`, `start_lamps`)
abbrev pub walk_start : ℕ → List ℕ → ℕ → LampWalk
walk_start pcmd src start = record { command = command_of pcmd; remaining = mask_of (drop start src); at = start + bitmap_size }

-- the lamps after a power entry for lamp i; for an unimplemented lamp it has no effect
unfoldable pub lamp_changed : Command → (n i power seconds : ℕ) → List Lamp → List Lamp
lamp_changed c n i power seconds ls = cond (ltb i n) (set ls i (lamp_after c (get_or ls i off) power seconds)) ls

-- x is the next step of the walk w: it changes a lamp, and the rest gives the same lamps at the end
pub record LampStep (src : List ℕ) (w : LampWalk) (x : NextLamp) : Type 0 where
  pub lamp_max : x.lamp < max_lamps
  pub remains : Remaining src x.rest
  pub further : w.at < x.rest.at
  pub lamps : (n : ℕ) (ls : List Lamp) → length ls ≡ max_lamps
      → remaining_lamps n src x.rest (lamp_changed x.rest.command n x.lamp x.power x.seconds ls) ≡ remaining_lamps n src w ls
