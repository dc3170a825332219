-- Document 01, "Memories": the read view, with its refusals in the order of the table.
use Rattle.std.specs.Prelude.{ℕ, ◌+◌, List, [], cond, length, eqb}
use Rattle.std.specs.Borrow.{Bor}
use Rattle.dpa.specs.Lists.{slice}
use Rattle.memory.specs.declared.block.Memory.{Memory}
use Rattle.memory.specs.Block.{memory_pnum, size_of, longest_of, block_fault}

-- the block rule for views: 15 is too long, 16 is outside
abbrev pub block_refusal : Memory → ℕ → ℕ → ℕ
block_refusal m start n = block_fault (size_of m) (longest_of m) start n 15 16

-- 4 for a memory of the wrong size, then 10 for a PNUM that is neither EEPROM nor external memory, then the block rule
unfoldable pub view_status : (eeprom external : List ℕ) (pnum start n : ℕ) → ℕ
view_status eeprom external pnum start n =
    cond (eqb (length eeprom) (size_of Memory.Eeprom))
    (cond (eqb (length external) (size_of Memory.External))
    (cond (eqb pnum (memory_pnum Memory.Eeprom)) (block_refusal Memory.Eeprom start n)
    (cond (eqb pnum (memory_pnum Memory.External)) (block_refusal Memory.External start n)
    10))
    4)
    4

-- the bytes that the view asks for; none if it is refused
unfoldable pub view_bytes : (eeprom external : List ℕ) (pnum start n : ℕ) → List ℕ
view_bytes eeprom external pnum start n =
    cond (eqb (view_status eeprom external pnum start n) 0)
    (cond (eqb pnum (memory_pnum Memory.Eeprom)) (slice eeprom start n) (slice external start n))
    []

-- an index of lent bytes as a place in memory: their allocation, and the offset in it
abbrev pub place_in : Bor (List ℕ) → ℕ → ℕ × ℕ
place_in bytes start = (bytes.ref_ptr.0, start + bytes.ref_ptr.1)

-- where the returned slice starts: in the memory that the PNUM selects, even if the slice is empty; at the start of EEPROM if the
-- view is refused
unfoldable pub view_place : (eeprom external : Bor (List ℕ)) (pnum start n : ℕ) → ℕ × ℕ
view_place eeprom external pnum start n =
    cond (eqb (view_status eeprom.now external.now pnum start n) 0)
    (cond (eqb pnum (memory_pnum Memory.Eeprom)) (place_in eeprom start) (place_in external start))
    (place_in eeprom 0)
