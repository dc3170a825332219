-- Laws of well-formed PData: the bitmap and the power entries after it.
use mathlib.Core.Path.{◌≡◌, refl, sym, ◌∙◌}
use mathlib.Core.Bool.{Bool, true, false, cond}
use mathlib.Core.List.{List}
use Prim.Native.Nat.{ℕ, ◌≤◌, ◌<◌}
use native.Mathlib.Omega.{arith}
use lib.ListN.{length, drop}
use lib.Dec.{ltb, leb}
use borrow.Author.Tests.{lt-ltb, le-ltb, ltb-false, leb-true}
use Rattle.dpa.proofs.Bool.{and_left, and_right}
use Rattle.lights.specs.Bits.{bitmap_size, count, bitmap}
use Rattle.lights.specs.Lights.{command_pcmd, PowerEntries, power_entries, are_valid, changes_of, well_formed, changes_lamps}
use Rattle.lights.specs.declared.apply.Command.TheVariants.{Lower}
use Rattle.lights.specs.declared.power.PowerEntry.{PowerEntry}

-- the power entries that PData holds, one for each selected lamp
abbrev pub entries_in : List ℕ → PowerEntries
entries_in xs = power_entries (count (bitmap xs)) (drop bitmap_size xs)

-- the changes that PData holds
abbrev pub changes_in : List ℕ → List PowerEntry
changes_in xs = changes_of (entries_in xs)

not_short : (a b : Bool) → cond a false b ≡ true → (a ≡ false) × (b ≡ true)
not_short true b e = let z : ◌≡◌ {A = ℕ} 0 1 = cc in absurd (omega arith)
not_short false b e = (refl, e)

module _ (xs : List ℕ) where
  -- PData without a bitmap is not well formed
  pub short_malformed : length xs < bitmap_size → well_formed xs ≡ false
  unfolding well_formed
  short_malformed h = rw (lt-ltb (length xs) bitmap_size h)

  -- with a bitmap it is well formed if its power entries are valid
  pub well_formed_entries : bitmap_size ≤ length xs → well_formed xs ≡ are_valid (entries_in xs)
  unfolding well_formed
  well_formed_entries h = rw (le-ltb (length xs) bitmap_size h)

  module _ (w : well_formed xs ≡ true) where
    -- well-formed PData has a bitmap
    pub bitmap_there : bitmap_size ≤ length xs
    unfolding well_formed
    bitmap_there = ltb-false _ _ (not_short (ltb (length xs) bitmap_size) (are_valid (entries_in xs)) w).0

    -- and its power entries are valid
    pub entries_valid : are_valid (entries_in xs) ≡ true
    entries_valid = sym (well_formed_entries bitmap_there) ∙ w

module _ (pcmd : ℕ) (xs : List ℕ) (h : changes_lamps pcmd xs ≡ true) where
  -- a request that changes lamps is set, raise or lower
  pub changes_command : pcmd ≤ command_pcmd Lower
  unfolding changes_lamps
  changes_command = leb-true _ _ (and_left _ (well_formed xs) h)

  -- and its PData is well formed
  pub changes_well_formed : well_formed xs ≡ true
  unfolding changes_lamps
  changes_well_formed = and_right (leb pcmd (command_pcmd Lower)) _ h
