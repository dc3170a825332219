-- Laws of an overwritten block: its length, and each of its bytes.
use mathlib.Core.Path.{◌≡◌, sym, ap, ◌∙◌}
use mathlib.Core.List.{List, [], ◌∷◌, ◌++◌, append_assoc}
use Prim.Native.Nat.{ℕ, ◌+◌, ◌≤◌, ◌<◌}
use native.Mathlib.Numerals.{add-one}
use native.Mathlib.Omega.{arith}
use lib.ListN.{length, take, drop, get_or, set, length-append, length-set, get_or-append}
use lib.Seq.{sets, sets-eq, length-sets, length-take-le, get_or-append-add, get_or-take, get_or-drop}
use Rattle.memory.specs.Block.{overwrite}

-- a block inside the memory is written byte by byte
pub overwrite_sets : (mem : List ℕ) (start : ℕ) (d : List ℕ) → start + length d ≤ length mem → overwrite mem start d ≡ sets mem start d
overwrite_sets mem start d h = sym (sets-eq d mem start h)

-- a block of one byte
pub overwrite_one : (mem : List ℕ) (start v : ℕ) → start < length mem → overwrite mem start (v ∷ []) ≡ set mem start v
overwrite_one mem start v h = overwrite_sets mem start (v ∷ []) (omega arith)

-- the first byte is written, then the others
pub overwrite_more : (mem : List ℕ) (start v : ℕ) (d : List ℕ) → start + length (v ∷ d) ≤ length mem
    → overwrite mem start (v ∷ d) ≡ overwrite (set mem start v) (start + 1) d
overwrite_more mem start v d h =
    let l : start + 1 + length d ≤ length (set mem start v) = rw length-set (omega arith) in
    overwrite_sets mem start (v ∷ d) h ∙ rw (overwrite_sets (set mem start v) (start + 1) d l, add-one)

module _ (mem : List ℕ) (start : ℕ) (d : List ℕ) (h : start + length d ≤ length mem) where
  -- the memory keeps its length
  pub overwrite_length : length (overwrite mem start d) ≡ length mem
  overwrite_length = ap length (overwrite_sets mem start d h) ∙ length-sets mem start d

  front_length : length (take start mem) ≡ start
  front_length = length-take-le start mem (omega arith)

  -- inside the block the memory has the data
  pub overwrite_inside : (i : ℕ) → i < length d → get_or (overwrite mem start d) (start + i) 0 ≡ get_or d i 0
  overwrite_inside i l =
      rw append_assoc
      (ap (λ (k : ℕ). get_or (take start mem ++ (d ++ drop (start + length d) mem)) (k + i) 0) (sym front_length)
      ∙ get_or-append-add (take start mem) (d ++ drop (start + length d) mem) i 0
      ∙ get_or-append d (drop (start + length d) mem) 0 i l)

  -- before the block every byte is unchanged
  pub overwrite_before : (i : ℕ) → i < start → get_or (overwrite mem start d) i 0 ≡ get_or mem i 0
  overwrite_before i l =
      let k : i < length (take start mem) = rw front_length l in
      rw append_assoc (get_or-append (take start mem) (d ++ drop (start + length d) mem) 0 i k ∙ get_or-take start mem i 0 l)

  -- and so it is after the block
  pub overwrite_after : (i : ℕ) → get_or (overwrite mem start d) (start + length d + i) 0 ≡ get_or mem (start + length d + i) 0
  overwrite_after i =
      let k : length (take start mem ++ d) ≡ start + length d = rw (length-append, front_length) in
      ap (λ (n : ℕ). get_or (overwrite mem start d) (n + i) 0) (sym k)
      ∙ get_or-append-add (take start mem ++ d) (drop (start + length d) mem) i 0
      ∙ get_or-drop (start + length d) mem i 0
