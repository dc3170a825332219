-- Document 01, "Scenes": the batch entry of joined steps.
use Rattle.std.specs.Prelude.{cond, List, [], ◌∷◌, ◌++◌, ℕ, ◌+◌, ◌^◌, eqb}
use Rattle.dpa.specs.Number.{low, high}
use Rattle.dpa.specs.Pnum.{lights_pnum}
use Rattle.memory.specs.declared.block.Memory.TheVariants.{Eeprom, Ram}
use Rattle.memory.specs.Block.{memory_pnum, write_command}
use Rattle.lights.specs.Lights.{bit7}
use Rattle.batch.specs.Batch.{Request, request_of}
use Rattle.book.specs.declared.step.Step.{Step}
use Rattle.book.specs.Records.{bytes_of}
use Rattle.step.specs.Step.{ram_kind, is_lamp}

-- the bitmap of lamp steps: the bit of each target
abbrev pub bitmap_of : List Step → ℕ
bitmap_of [] = 0
bitmap_of (s ∷ ss) = 2 ^ s.target + bitmap_of ss

-- a bitmap's four bytes, low byte first
abbrev pub bitmap_bytes : ℕ → List ℕ
bitmap_bytes m = low m ∷ low (high m) ∷ low (high (high m)) ∷ low (high (high (high m))) ∷ []

-- the power byte of a lamp step, and its time byte if it has one
unfoldable pub power_bytes : Step → List ℕ
power_bytes s = cond (eqb s.time 0) (s.value ∷ []) ((s.value + bit7) ∷ s.time ∷ [])

-- the power and time bytes of lamp steps
abbrev pub powers_bytes : List Step → List ℕ
powers_bytes ss = bytes_of power_bytes ss

-- the value byte of a memory step, and the value bytes of memory steps
abbrev pub value_byte : Step → List ℕ
value_byte s = s.value ∷ []

abbrev pub values : List Step → List ℕ
values ss = bytes_of value_byte ss

-- the PData of the joined steps s ∷ ss: bitmap and power bytes for lamps, address and values for a memory
unfoldable pub entry_data : Step → List Step → List ℕ
entry_data s ss =
    cond (is_lamp s.kind)
    (bitmap_bytes (bitmap_of (s ∷ ss)) ++ powers_bytes (s ∷ ss))
    (s.target ∷ values (s ∷ ss))

-- the PData of the entry of a group of joined steps
abbrev pub group_data : List Step → List ℕ
group_data [] = []
group_data (s ∷ ss) = entry_data s ss

-- the kind of a group: all its steps have the kind of the first
abbrev pub kind_of : List Step → ℕ
kind_of [] = 0
kind_of (s ∷ ss) = s.kind

-- the peripheral of a step kind: lights, RAM or EEPROM
unfoldable pub pnum_of : ℕ → ℕ
pnum_of k = cond (is_lamp k) lights_pnum (cond (eqb k ram_kind) (memory_pnum Ram) (memory_pnum Eeprom))

-- the command of a step kind: the lights commands have the numbers of the kinds, a memory's command is its write
unfoldable pub pcmd_of : ℕ → ℕ
pcmd_of k = cond (is_lamp k) k (cond (eqb k ram_kind) (write_command Ram) (write_command Eeprom))

-- the entry of a group of joined steps, with HWPID h
abbrev pub joined_entry : ℕ → List Step → Request
joined_entry h steps = request_of (pnum_of (kind_of steps)) (pcmd_of (kind_of steps)) h (group_data steps)
