-- Laws of the block rule and of copied blocks.
use mathlib.Core.Path.{◌≡◌}
use mathlib.Core.List.{List}
use Prim.Native.Nat.{ℕ, ◌+◌, ◌≤◌, ◌<◌}
use native.Mathlib.Omega.{arith}
use Rattle.std.proofs.lemmas.Bool.Decides.{nat_tests}
use lib.ListN.{length, drop, length-drop}
use lib.Seq.{length-take-le}
use Rattle.dpa.specs.Lists.{slice}
use Rattle.memory.specs.declared.block.Memory.{Memory}
use Rattle.memory.specs.declared.block.Memory.TheVariants.{Eeprom}
use Rattle.memory.specs.Block.{longest_of, block_fault}

-- the block rule as facts
pub record BlockFits (size longest start n : ℕ) : Type 0 where
  pub length_max : n ≤ longest
  pub start_inside : start < size
  pub end_inside : start + n ≤ size

module _ (size longest start n too_long outside : ℕ) where
  -- without a fault the block fits
  pub no_fault_fits : (too_long ≡ 0 → ⊥) → (outside ≡ 0 → ⊥) → block_fault size longest start n too_long outside ≡ 0 → BlockFits size longest start n
  unfolding block_fault
  no_fault_fits t o e = record { length_max = grind (arith, nat_tests); start_inside = grind (arith, nat_tests); end_inside = grind (arith, nat_tests) }

  -- a block that fits has no fault
  pub fits_no_fault : BlockFits size longest start n → block_fault size longest start n too_long outside ≡ 0
  unfolding block_fault
  fits_no_fault f = grind (arith, nat_tests)

-- EEPROM has the longest block of the three memories
pub longest_max : (m : Memory) → longest_of m ≤ longest_of Eeprom
longest_max Memory.Eeprom = omega arith
longest_max Memory.Ram = omega arith
longest_max Memory.External = omega arith

-- a slice inside the memory has the length asked for
pub slice_length : (mem : List ℕ) (start n : ℕ) → start + n ≤ length mem → length (slice mem start n) ≡ n
slice_length mem start n h = length-take-le n (drop start mem) (simp length-drop (omega arith))
