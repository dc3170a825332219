-- Document 01, "Memories": the sizes of a node's memories, in bytes.
use Rattle.std.specs.Prelude.{ℕ}

abbrev pub eeprom_size : ℕ
eeprom_size = 192

abbrev pub ram_size : ℕ
ram_size = 48

abbrev pub external_size : ℕ
external_size = 16384
