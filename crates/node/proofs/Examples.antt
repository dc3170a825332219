-- Document 01, "FRC": examples that tell near readings apart, computed.
use Prim.Native.Nat.{ℕ}
use mathlib.Core.Path.{◌≡◌, refl}
use mathlib.Core.List.{[], ◌∷◌}
use lib.ListN.{replicate}
use Rattle.dpa.specs.Lists.{all_below}
use Rattle.dpa.specs.Settings.{step_ok, settings_ok}
use Rattle.lights.specs.Lamp.{lamp, off, lamp_ok, lamp_zero, lamp_fits, actual_level}
use Rattle.node.specs.declared.record.Node.{Node}
use Rattle.node.specs.Examples.{settings}
use Rattle.node.specs.Node.{fresh, with_lamps, shape_ok, lamps_ok, node_ok}
use Rattle.node.specs.Frc.{bit_set, is_command, asks_lamp, is_on, frc_value, frc_of}

-- three lamps, of which lamp 1 is lit
abbrev lit : Node
lit = with_lamps (fresh (settings 3 1)) (off ∷ lamp 10 0 ∷ replicate 30 off)

-- the value for a command and a second byte of user data, with the stuck and the alarm mask
abbrev value : (command second stuck alarm : ℕ) → ℕ
value command second stuck alarm = (frc_of lit command (0x71 ∷ second ∷ []) stuck alarm).value

pub record FrcExamples : Type 0 where
  -- is the lamp on: lit; off, although its alarm is set; off and stuck
  pub on : value 0x10 1 0 0 ∷ value 0x10 0 0 1 ∷ value 0x10 2 4 0 ∷ [] ≡ 3 ∷ 2 ∷ 3 ∷ []
  -- is its alarm set: set; lit and stuck, but not set
  pub alarm : value 0x11 2 0 4 ∷ value 0x11 1 2 0 ∷ [] ≡ 3 ∷ 2 ∷ []
  -- only five bits name the lamp; lamp 3 is not implemented
  pub lamps : value 0x10 0xE1 0 0 ∷ value 0x10 0x21 0 0 ∷ value 0x10 3 0 0 ∷ [] ≡ 3 ∷ 3 ∷ 1 ∷ []
  -- another command, another PNUM, one byte of user data
  pub others : value 0x12 1 0 0 ∷ (frc_of lit 0x10 (0x70 ∷ 1 ∷ []) 0 0).value ∷ (frc_of lit 0x10 (0x71 ∷ []) 0 0).value ∷ [] ≡ 1 ∷ 1 ∷ 1 ∷ []

pub frc_examples : FrcExamples
unfolding all_below step_ok settings_ok lamp_ok lamp_zero lamp_fits actual_level shape_ok lamps_ok node_ok bit_set is_command asks_lamp is_on frc_value frc_of
frc_examples = record { on = refl; alarm = refl; lamps = refl; others = refl }
