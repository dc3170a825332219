-- Worked examples of document 01 for the memories, computed from the definitions.
use mathlib.Core.Path.{◌≡◌, refl}
use mathlib.Core.List.{List, [], ◌∷◌, ◌++◌}
use Prim.Native.Nat.{ℕ}
use lib.ListN.{length, take, drop}
use Rattle.dpa.specs.Lists.{slice}
use Rattle.dpa.specs.Reply.{reply, error_reply}
use Rattle.memory.specs.declared.block.Memory.{Memory}
use Rattle.memory.specs.Block.{block_fault}
use Rattle.memory.specs.Request.{address_of, read_error, write_error, read_request, write_request, memory_request}
use Rattle.memory.specs.View.{view_status, view_bytes}

-- requests on a memory with any contents
pub record Examples (mem : List ℕ) : Type 0 where
  -- external memory at 0x3FFF: one byte can be read, two cannot
  pub last_byte : memory_request Memory.External 2 (0xFF ∷ 0x3F ∷ 1 ∷ []) mem ≡ reply mem 0 (slice mem 0x3FFF 1)
  pub past_end_lem : memory_request Memory.External 2 (0xFF ∷ 0x3F ∷ 2 ∷ []) mem ≡ error_reply mem 4
  -- a read of no bytes: accepted inside EEPROM, refused at its end
  pub empty : memory_request Memory.Eeprom 0 (191 ∷ 0 ∷ []) mem ≡ reply mem 0 []
  pub empty_at_end : memory_request Memory.Eeprom 0 (192 ∷ 0 ∷ []) mem ≡ error_reply mem 4
  -- too long and outside: error 5 comes first
  pub too_long_lem : memory_request Memory.Ram 0 (48 ∷ 49 ∷ []) mem ≡ error_reply mem 5
  -- a write without data
  pub no_data : memory_request Memory.Ram 1 (0 ∷ []) mem ≡ error_reply mem 5

-- the definitions give these replies
pub examples : (mem : List ℕ) → Examples mem
unfolding memory_request read_request write_request read_error write_error block_fault address_of
examples mem = record { last_byte = refl; past_end_lem = refl; empty = refl; empty_at_end = refl; too_long_lem = refl; no_data = refl }

-- the longest blocks, 55, 48 and 54 bytes, and one byte more
pub longest_blocks : (mem : List ℕ)
    → (memory_request Memory.Eeprom 0 (0 ∷ 55 ∷ []) mem ≡ reply mem 0 (slice mem 0 55)) × (memory_request Memory.Eeprom 0 (0 ∷ 56 ∷ []) mem ≡ error_reply mem 5)
    × (memory_request Memory.Ram 0 (0 ∷ 48 ∷ []) mem ≡ reply mem 0 (slice mem 0 48)) × (memory_request Memory.Ram 0 (0 ∷ 49 ∷ []) mem ≡ error_reply mem 5)
    × (memory_request Memory.External 2 (0 ∷ 0 ∷ 54 ∷ []) mem ≡ reply mem 0 (slice mem 0 54)) × (memory_request Memory.External 2 (0 ∷ 0 ∷ 55 ∷ []) mem ≡ error_reply mem 5)
unfolding memory_request read_request read_error block_fault address_of
longest_blocks mem = (refl, refl, refl, refl, refl, refl)

-- a read with a byte too many; a read and a write of RAM past its end; a PCMD of another memory, with wrong PData
pub faults : (mem : List ℕ)
    → (memory_request Memory.Eeprom 0 (0 ∷ 1 ∷ 0 ∷ []) mem ≡ error_reply mem 5)
    × (memory_request Memory.Ram 0 (47 ∷ 2 ∷ []) mem ≡ error_reply mem 4) × (memory_request Memory.Ram 1 (47 ∷ 1 ∷ 2 ∷ []) mem ≡ error_reply mem 4)
    × (memory_request Memory.External 0 [] mem ≡ error_reply mem 2) × (memory_request Memory.Eeprom 2 [] mem ≡ error_reply mem 2)
unfolding memory_request read_request write_request read_error write_error block_fault address_of
faults mem = (refl, refl, refl, refl, refl)

-- writes of the last bytes
pub writes : (mem : List ℕ)
    → (memory_request Memory.Eeprom 1 (191 ∷ 7 ∷ []) mem ≡ reply (take 191 mem ++ (7 ∷ []) ++ drop 192 mem) 0 [])
    × (memory_request Memory.External 3 (0xFE ∷ 0x3F ∷ 7 ∷ 8 ∷ []) mem ≡ reply (take 0x3FFE mem ++ (7 ∷ 8 ∷ []) ++ drop 0x4000 mem) 0 [])
unfolding memory_request write_request write_error block_fault address_of
writes mem = (refl, refl)

module _ (eeprom external : List ℕ) (e : length eeprom ≡ 192) (x : length external ≡ 0x4000) where
  -- refusals of the read view in their order, 4, 10, 15, 16, each with the later faults too
  pub refused_views :
      (view_status (0 ∷ eeprom) external 5 192 56 ≡ 4) × (view_status eeprom (0 ∷ external) 5 192 56 ≡ 4) × (view_status eeprom external 5 192 56 ≡ 10)
      × (view_status eeprom external 3 192 56 ≡ 15) × (view_status eeprom external 4 0x4000 55 ≡ 15)
      × (view_status eeprom external 3 192 0 ≡ 16) × (view_status eeprom external 4 0x3FFF 2 ≡ 16)
  unfolding view_status block_fault
  refused_views = rw (e, x) (refl, refl, refl, refl, refl, refl, refl)

  -- the longest views at the ends of both memories
  pub views : (view_bytes eeprom external 3 137 55 ≡ slice eeprom 137 55) × (view_bytes eeprom external 4 0x3FCA 54 ≡ slice external 0x3FCA 54)
  unfolding view_status view_bytes block_fault
  views = rw (e, x) (refl, refl)
