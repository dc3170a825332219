-- Document 01, "Memories": the three memories and the block rule.
use Rattle.std.specs.Prelude.{ℕ, ◌+◌, List, ◌++◌, cond, length, take, drop, leb, ltb}
use Rattle.dpa.specs.Sizes.{eeprom_size, ram_size, external_size}
use Rattle.memory.specs.declared.block.Memory.{Memory}

-- the PNUM of each memory
abbrev pub memory_pnum : Memory → ℕ
memory_pnum Memory.Eeprom = 0x03
memory_pnum Memory.Ram = 0x05
memory_pnum Memory.External = 0x04

-- size in bytes
abbrev pub size_of : Memory → ℕ
size_of Memory.Eeprom = eeprom_size
size_of Memory.Ram = ram_size
size_of Memory.External = external_size

-- the most bytes that one request reads or writes
abbrev pub longest_of : Memory → ℕ
longest_of Memory.Eeprom = 55
longest_of Memory.Ram = 48
longest_of Memory.External = 54

-- width of an address in PData, in bytes
abbrev pub address_bytes : Memory → ℕ
address_bytes Memory.Eeprom = 1
address_bytes Memory.Ram = 1
address_bytes Memory.External = 2

-- PCMD of a read
abbrev pub read_command : Memory → ℕ
read_command Memory.Eeprom = 0
read_command Memory.Ram = 0
read_command Memory.External = 2

-- PCMD of a write
abbrev pub write_command : Memory → ℕ
write_command Memory.Eeprom = 1
write_command Memory.Ram = 1
write_command Memory.External = 3

-- The block rule: too long; then outside, when the block starts at or past the size or ends past it; else 0.
-- Requests (5, 4) and the view (15, 16) share the rule and differ only in the two numbers.
unfoldable pub block_fault : (size longest start n too_long outside : ℕ) → ℕ
block_fault size longest start n too_long outside =
    cond (ltb longest n) too_long
    (cond (leb size start) outside
    (cond (ltb size (start + n)) outside
    0))

-- mem with the bytes d written at start; every other byte is unchanged
abbrev pub overwrite : List ℕ → ℕ → List ℕ → List ℕ
overwrite mem start d = take start mem ++ d ++ drop (start + length d) mem
