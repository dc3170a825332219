-- Which steps join, and the bytes of an entry.
use mathlib.Core.List.{[], ◌∷◌, map}
use mathlib.Core.Path.{◌≡◌, refl}
use Prim.Native.Nat.{ℕ}
use lib.ListN.{length}
use Rattle.book.specs.declared.step.Step.{Step}
use Rattle.entries.specs.Entry.{power_bytes, entry_data, group_data}
use Rattle.entries.specs.Join.{follows, entries_of}

abbrev step : (kind target value time : ℕ) → Step
step kind target value time = record { kind = kind; target = target; value = value; time = time }

-- lamps 3, 5, 5, 4: a larger lamp joins, the same lamp and a smaller one do not
pub lamps_join : map length (entries_of 50 (step 0 3 1 0 ∷ step 0 5 1 0 ∷ step 0 5 1 0 ∷ step 0 4 1 0 ∷ [])) ≡ 2 ∷ 1 ∷ 1 ∷ []
unfolding follows power_bytes entry_data
lamps_join = refl

-- RAM bytes 3, 4, 6, 6, 5: only the next byte joins
pub bytes_join : map length (entries_of 50 (step 3 3 1 0 ∷ step 3 4 1 0 ∷ step 3 6 1 0 ∷ step 3 6 1 0 ∷ step 3 5 1 0 ∷ [])) ≡ 2 ∷ 1 ∷ 1 ∷ 1 ∷ []
unfolding follows power_bytes entry_data
bytes_join = refl

-- set and raise, RAM and EEPROM: another kind does not join
pub kinds_apart : map length (entries_of 50 (step 0 3 1 0 ∷ step 1 4 1 0 ∷ step 3 5 1 0 ∷ step 4 6 1 0 ∷ [])) ≡ 1 ∷ 1 ∷ 1 ∷ 1 ∷ []
unfolding follows power_bytes entry_data
kinds_apart = refl

-- the PData of lamps 0 and 31 with a time for the second, and of RAM bytes 5 and 6
pub lamp_data : group_data (step 0 0 10 0 ∷ step 0 31 100 2 ∷ []) ≡ 0x01 ∷ 0x00 ∷ 0x00 ∷ 0x80 ∷ 0x0A ∷ 0xE4 ∷ 0x02 ∷ []
unfolding power_bytes entry_data
lamp_data = refl

pub byte_data : group_data (step 3 5 0xAA 0 ∷ step 3 6 0xBB 0 ∷ []) ≡ 0x05 ∷ 0xAA ∷ 0xBB ∷ []
unfolding entry_data
byte_data = refl
