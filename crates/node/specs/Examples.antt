-- Document 01, "Worked examples": the node that they share.
use Rattle.std.specs.Prelude.{ℕ, replicate}
use Rattle.dpa.specs.declared.settings.Settings.{Settings}
use Rattle.memory.specs.declared.block.Memory.TheVariants.{Eeprom, External}
use Rattle.memory.specs.Block.{size_of}
use Rattle.node.specs.Node.{fresh}
use Rattle.node.specs.State.{State, state}

-- node 1 just started, with memories of zeros
abbrev pub settings : ℕ → ℕ → Settings
settings lamps step = record { address = 1; hwpid = 0x2471; dpa_value = 0; lamp_count = lamps; step = step }

abbrev pub fresh_state : ℕ → ℕ → State
fresh_state lamps step = state (fresh (settings lamps step)) (replicate (size_of Eeprom) 0) (replicate (size_of External) 0)
