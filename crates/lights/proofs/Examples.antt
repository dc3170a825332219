-- Examples of set, raise and lower, computed from the definitions: three lamps with step 10, at 20 for 180 seconds, at 15 without a timer,
-- and off.
use mathlib.Core.Path.{◌≡◌, refl}
use mathlib.Core.List.{List, [], ◌∷◌}
use Prim.Native.Nat.{ℕ}
use lib.ListN.{replicate}
use Rattle.dpa.specs.Reply.{Reply, reply, error_reply}
use Rattle.dpa.specs.declared.settings.Settings.{Settings}
use Rattle.lights.specs.Bits.{bits, bitmap}
use Rattle.lights.specs.Lamp.{lamp, off, actual_level}
use Rattle.lights.specs.Lights.{power_ok, time_ok, seconds_of, lamp_after, lamps_after, levels_before, change_lamps}
use Rattle.lights.specs.declared.apply.Command.{Command}
use Rattle.lights.specs.declared.apply.Command.TheVariants.{Set, Raise, Lower}
use Rattle.lights.specs.declared.lamp.Lamp.{Lamp}

abbrev settings : Settings
settings = record { address = 1; hwpid = 0x2471; dpa_value = 0; lamp_count = 3; step = 10 }

abbrev before : List Lamp
before = lamp 20 180 ∷ lamp 15 0 ∷ off ∷ []

-- all lamps of a node, lamp 0 with this level and these seconds
abbrev all_lamps : ℕ → ℕ → List Lamp
all_lamps level seconds = lamp level seconds ∷ replicate 31 off

-- a request for the three lamps with these power entries
abbrev request : Command → List ℕ → Reply (List Lamp)
request c entries = change_lamps settings c (0x07 ∷ 0x00 ∷ 0x00 ∷ 0x00 ∷ entries) before

-- keep: set, raise and lower alike
pub record KeepExamples (c : Command) : Type 0 where
  -- five minutes, ten seconds, a minute: a timer is extended, one starts, and the lamp that is off stays off
  pub timed : request c (0xFF ∷ 0x05 ∷ 0xFF ∷ 0x8A ∷ 0xFF ∷ 0x01 ∷ []) ≡ reply (lamp 20 300 ∷ lamp 15 10 ∷ off ∷ []) 0 (20 ∷ 20 ∷ 0 ∷ [])
  -- without times
  pub untimed : request c (0x7F ∷ 0x7F ∷ 0x7F ∷ []) ≡ reply before 0 (20 ∷ 20 ∷ 0 ∷ [])
  -- an invalid time, here of the lamp that is off
  pub bad_time : request c (0xFF ∷ 0x05 ∷ 0xFF ∷ 0x8A ∷ 0xFF ∷ 0x80 ∷ []) ≡ error_reply before 6

-- the definitions give these replies
pub keep_examples : (c : Command) → KeepExamples c
unfolding bits bitmap actual_level power_ok time_ok seconds_of lamp_after lamps_after levels_before change_lamps
keep_examples c = record { timed = refl; untimed = refl; bad_time = refl }

-- a level: a time starts a timer, without one the timer stops, and level 0 has none; the answer is the level before
pub record LevelExamples : Type 0 where
  -- 30, 50 for five minutes, 0 for a minute
  pub set : request Set (0x1E ∷ 0xB2 ∷ 0x05 ∷ 0x80 ∷ 0x01 ∷ []) ≡ reply (lamp 30 0 ∷ lamp 50 300 ∷ off ∷ []) 0 (20 ∷ 20 ∷ 0 ∷ [])
  -- by 90, by 6 for ten seconds, by 0: no level is above 100
  pub raise : request Raise (0x5A ∷ 0x86 ∷ 0x8A ∷ 0x00 ∷ []) ≡ reply (lamp 100 0 ∷ lamp 21 10 ∷ off ∷ []) 0 (20 ∷ 20 ∷ 0 ∷ [])
  -- by 30, by 10 for a minute, by 5: no level is below 0
  pub lower : request Lower (0x1E ∷ 0x8A ∷ 0x01 ∷ 0x05 ∷ []) ≡ reply (off ∷ lamp 5 60 ∷ off ∷ []) 0 (20 ∷ 20 ∷ 0 ∷ [])
  -- lamp 8 is not implemented: its power entry has no effect, and is tested
  pub unimplemented : change_lamps settings Set (0x01 ∷ 0x01 ∷ 0x00 ∷ 0x00 ∷ 0x1E ∷ 0x32 ∷ []) (all_lamps 20 180) ≡ reply (all_lamps 30 0) 0 (20 ∷ 0 ∷ [])
  pub unimplemented_tested : change_lamps settings Set (0x01 ∷ 0x01 ∷ 0x00 ∷ 0x00 ∷ 0x1E ∷ 0x65 ∷ []) (all_lamps 20 180) ≡ error_reply (all_lamps 20 180) 6
  -- a power entry is missing, or is one too many
  pub too_few : request Set (0x1E ∷ 0x32 ∷ []) ≡ error_reply before 6
  pub too_many : request Set (0x1E ∷ 0x32 ∷ 0x00 ∷ 0x00 ∷ []) ≡ error_reply before 6

-- the definitions give these replies
pub level_examples : LevelExamples
unfolding bits bitmap actual_level power_ok time_ok seconds_of lamp_after lamps_after levels_before change_lamps
level_examples =
    record { set = refl; raise = refl; lower = refl; unimplemented = refl; unimplemented_tested = refl; too_few = refl; too_many = refl }
