-- The state that requests and steps work on: a node with its EEPROM and its external memory, and what replaces its parts.
use Rattle.std.specs.Prelude.{ℕ, ◌≡◌, true, List, length}
use Rattle.memory.specs.declared.block.Memory.{Memory}
use Rattle.memory.specs.declared.block.Memory.TheVariants.{Eeprom, External}
use Rattle.memory.specs.Block.{size_of}
use Rattle.node.specs.declared.record.Node.{Node}
use Rattle.node.specs.Node.{node_ok, with_ram}

-- a node with its EEPROM and its external memory
pub record State : Type 0 where
  pub node : Node
  pub eeprom : List ℕ
  pub external : List ℕ

abbrev pub state : Node → List ℕ → List ℕ → State
state n e x = record { node = n; eeprom = e; external = x }

-- the node is sound and both memories have their sizes
pub record SoundState (st : State) : Type 0 where
  pub node_valid : node_ok st.node ≡ true
  pub eeprom_sized : length st.eeprom ≡ size_of Eeprom
  pub external_sized : length st.external ≡ size_of External

-- the state with one part replaced
abbrev pub with_node : State → Node → State
with_node st n = state n st.eeprom st.external

abbrev pub with_eeprom : State → List ℕ → State
with_eeprom st e = state st.node e st.external

abbrev pub with_external : State → List ℕ → State
with_external st x = state st.node st.eeprom x

-- the bytes of a memory; the RAM is part of the node
abbrev pub memory_of : Memory → State → List ℕ
memory_of Memory.Eeprom st = st.eeprom
memory_of Memory.Ram st = st.node.ram
memory_of Memory.External st = st.external

-- the state with the bytes of a memory replaced
abbrev pub with_memory : Memory → State → List ℕ → State
with_memory Memory.Eeprom st bytes = with_eeprom st bytes
with_memory Memory.Ram st bytes = with_node st (with_ram st.node bytes)
with_memory Memory.External st bytes = with_external st bytes
