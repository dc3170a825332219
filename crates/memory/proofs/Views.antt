-- Laws of the read view.
use mathlib.Core.Path.{◌≡◌}
use mathlib.Core.List.{List, []}
use Prim.Native.Nat.{ℕ, ◌+◌, ◌≤◌}
use native.Mathlib.Omega.{arith}
use Rattle.std.proofs.lemmas.Bool.Decides.{nat_tests}
use lib.Dec.{eqb}
use lib.ListN.{length}
use denote.Ref.{Bor}
use borrow.Author.Tests.{eqb-true, eqb-false, eq-eqb, ne_eqb}
use Rattle.dpa.specs.Lists.{slice}
use Rattle.dpa.proofs.Bool.{by_test}
use Rattle.memory.specs.declared.block.Memory.TheVariants.{Eeprom, External}
use Rattle.memory.specs.Block.{memory_pnum, size_of, block_fault}
use Rattle.memory.specs.View.{view_status, view_bytes, place_in, view_place}
use Rattle.memory.proofs.Blocks.{slice_length}

-- the facts of an accepted view: both memories have their size, and the slice lies inside the one it is taken from
pub record ViewFits (e x : List ℕ) (p start n : ℕ) : Type 0 where
  pub eeprom_sized : length e ≡ size_of Eeprom
  pub external_sized : length x ≡ size_of External
  pub in_eeprom : p ≡ memory_pnum Eeprom → start + n ≤ size_of Eeprom
  pub end_max : start + n ≤ size_of External

-- a view with status 0 fits
pub view_fits : (e x : List ℕ) (p start n : ℕ) → view_status e x p start n ≡ 0 → ViewFits e x p start n
unfolding view_status block_fault
view_fits e x p start n h =
    record { eeprom_sized = grind (arith, nat_tests); external_sized = grind (arith, nat_tests); in_eeprom = λ q. grind (arith, nat_tests); end_max = grind (arith, nat_tests) }

module _ (e x : List ℕ) (p start n : ℕ) where
  -- a refused view is empty
  pub view_refused : (view_status e x p start n ≡ 0 → ⊥) → view_bytes e x p start n ≡ []
  unfolding view_bytes
  view_refused h = simp (ne_eqb (view_status e x p start n) 0 h)

  -- an accepted view with EEPROM's PNUM is a slice of EEPROM
  pub view_eeprom : view_status e x p start n ≡ 0 → p ≡ memory_pnum Eeprom → view_bytes e x p start n ≡ slice e start n
  unfolding view_bytes
  view_eeprom z q = simp (z, eq-eqb p (memory_pnum Eeprom) q)

  -- an accepted view with any other PNUM is a slice of external memory
  pub view_external : view_status e x p start n ≡ 0 → (p ≡ memory_pnum Eeprom → ⊥) → view_bytes e x p start n ≡ slice x start n
  unfolding view_bytes
  view_external z q = simp (z, ne_eqb p (memory_pnum Eeprom) q)

  -- an accepted view has the length asked for
  pub view_length : view_status e x p start n ≡ 0 → length (view_bytes e x p start n) ≡ n
  view_length z =
      let v = view_fits e x p start n z in
      by_test (eqb p (memory_pnum Eeprom))
      (λ b. let q : p ≡ memory_pnum Eeprom = eqb-true p (memory_pnum Eeprom) b in rw (view_eeprom z q) (slice_length e start n (omega (arith, v.eeprom_sized, v.in_eeprom q))))
      (λ b. let q : p ≡ memory_pnum Eeprom → ⊥ = eqb-false p (memory_pnum Eeprom) b in rw (view_external z q) (slice_length x start n (omega (arith, v.external_sized, v.end_max))))

module _ (e x : Bor (List ℕ)) (p start n : ℕ) where
  -- a refused view returns a slice at the start of EEPROM
  pub place_refused : (view_status e.now x.now p start n ≡ 0 → ⊥) → view_place e x p start n ≡ place_in e 0
  unfolding view_place
  place_refused h = simp (ne_eqb (view_status e.now x.now p start n) 0 h)

  -- an accepted view of EEPROM, empty or not, returns a slice in EEPROM
  pub place_eeprom : view_status e.now x.now p start n ≡ 0 → p ≡ memory_pnum Eeprom → view_place e x p start n ≡ place_in e start
  unfolding view_place
  place_eeprom z q = simp (z, eq-eqb p (memory_pnum Eeprom) q)

  -- an accepted view of external memory, empty or not, returns a slice in external memory
  pub place_external : view_status e.now x.now p start n ≡ 0 → (p ≡ memory_pnum Eeprom → ⊥) → view_place e x p start n ≡ place_in x start
  unfolding view_place
  place_external z q = simp (z, ne_eqb p (memory_pnum Eeprom) q)
