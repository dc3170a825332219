-- Laws of the loops over steps that write, and of the bytes of an entry.
use mathlib.Core.Bool.{true, false}
use mathlib.Core.List.{List, [], ◌∷◌, ◌++◌}
use mathlib.Core.Path.{◌≡◌, refl, ap, ◌∙◌}
use Prim.Native.Nat.{ℕ, zero, suc, ◌+◌, ◌*◌, ◌^◌, ◌≤◌, ◌<◌}
use native.Mathlib.Omega.{arith}
use lib.ListN.{length, drop}
use Rattle.dpa.specs.Lists.{All}
use Rattle.dpa.specs.Settings.{max_lamps}
use Rattle.lights.specs.Lamp.{max_level}
use Rattle.batch.specs.Batch.{entry_bytes}
use Rattle.book.specs.declared.step.Step.{Step}
use Rattle.book.specs.Book.{step_length, step_of, steps_in}
use Rattle.book.specs.Positions.{step_at}
use Rattle.book.proofs.Records.{drop_record}
use Rattle.book.proofs.Positions.{steps_length}
use Rattle.step.specs.Step.{is_lamp}
use Rattle.entries.specs.Entry.{powers_bytes, values, bitmap_of, bitmap_bytes, joined_entry, entry_data, group_data}
use Rattle.entries.specs.Writing.{LampStepsInRange, lamp_bit_bound, entry_head_bytes}

-- ---- the loops over lamp steps

-- the value and the target of a lamp step are in range
abbrev pub LampStepInRange : Step → Type 0
LampStepInRange s = (s.value ≤ max_level) × (s.target < max_lamps)

-- steps in range in the bytes are a list of such steps
pub in_range : (n : ℕ) (a : List ℕ) → LampStepsInRange a n → All LampStepInRange (steps_in n a)
in_range zero a r = tt
in_range (suc n) a r = (r 0 (omega arith), in_range n (drop step_length a) (λ i h. rw (drop_record step_length step_of a i) (r (suc i) (omega arith))))

-- the loop of bitmap_of: the bits of the steps `rest` are still to be added to m
pub record BitmapSoFar (all rest : List Step) (m : ℕ) : Type 0 where
  pub sum : m + bitmap_of rest ≡ bitmap_of all
  pub bound : m + lamp_bit_bound * length rest ≤ lamp_bit_bound * length all
  pub lamps : All LampStepInRange rest

module _ {all rest others : List Step} {m : ℕ} {x : Step} (l : BitmapSoFar all rest m) (e : rest ≡ x ∷ others) where
  -- step x comes next
  pub bitmap_lamp : LampStepInRange x
  bitmap_lamp = (rw e at l.lamps).0

  -- and is added
  pub bitmap_next : {p : ℕ} → p ≡ 2 ^ x.target → p ≤ lamp_bit_bound → BitmapSoFar all others (m + p)
  bitmap_next ep small =
      record { sum = omega (arith, l.sum, ap bitmap_of e); bound = omega (arith, l.bound, ap length e); lamps = (rw e at l.lamps).1 }

-- ---- values

values_length : (ss : List Step) → length (values ss) ≡ length ss
values_length [] = refl
values_length (s ∷ ss) = ap suc (values_length ss)

-- n steps have n values
pub values_count : (n : ℕ) (a : List ℕ) → length (values (steps_in n a)) ≡ n
values_count n a = values_length (steps_in n a) ∙ steps_length n a

-- ---- an entry's PData by its kind, and an entry's bytes

-- the PData of a lamp entry
pub data_lamp : (n : ℕ) (a : List ℕ) {x : Step} → 0 < n → x ≡ step_at a 0 → is_lamp x.kind ≡ true
    → group_data (steps_in n a) ≡ bitmap_bytes (bitmap_of (steps_in n a)) ++ powers_bytes (steps_in n a)
unfolding entry_data
data_lamp zero a h e k = absurd (omega arith)
data_lamp (suc n) a h e k = rw (rw e at k)

-- the PData of a memory entry
pub data_memory : (n : ℕ) (a : List ℕ) {x : Step} → 0 < n → x ≡ step_at a 0 → is_lamp x.kind ≡ false
    → group_data (steps_in n a) ≡ (x.target ∷ []) ++ values (steps_in n a)
unfolding entry_data
data_memory zero a h e k = absurd (omega arith)
data_memory (suc n) a h e k = rw (e, rw e at k)

-- an entry is its head and its PData
pub entry_split : (n : ℕ) (a : List ℕ) {x : Step} (h : ℕ) {size : ℕ} → 0 < n → x ≡ step_at a 0 → size ≡ length (group_data (steps_in n a))
    → entry_bytes (joined_entry h (steps_in n a)) ≡ entry_head_bytes x.kind h size ++ group_data (steps_in n a)
unfolding entry_bytes
entry_split zero a h p e l = absurd (omega arith)
entry_split (suc n) a h p e l = rw (e, l)
