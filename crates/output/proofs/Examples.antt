-- Entries and lists at their limits.
use mathlib.Core.Bool.{true, false}
use mathlib.Core.List.{List, [], ◌∷◌}
use mathlib.Core.Path.{◌≡◌, refl}
use Prim.Native.Nat.{ℕ, zero, suc}
use Rattle.batch.specs.Batch.{entry_bytes, entries_bytes}
use Rattle.book.specs.declared.step.Step.{Step}
use Rattle.entries.specs.Entry.{power_bytes, entry_data, pnum_of, pcmd_of}
use Rattle.entries.specs.Join.{follows, joins}
use Rattle.output.specs.Requests.{entry_limit, list_limit, fits_batch}

-- a lamp with a time, and n of them from lamp k on; a byte of EEPROM, and n of them from byte k on
abbrev timed_lamp : ℕ → Step
timed_lamp k = record { kind = 0; target = k; value = 1; time = 1 }

abbrev timed_lamps : (k n : ℕ) → List Step
timed_lamps k zero = []
timed_lamps k (suc n) = timed_lamp k ∷ timed_lamps (suc k) n

abbrev byte : ℕ → Step
byte k = record { kind = 4; target = k; value = 1; time = 0 }

abbrev bytes : (k n : ℕ) → List Step
bytes k zero = []
bytes k (suc n) = byte k ∷ bytes (suc k) n

-- a bitmap and 23 lamps are 50 bytes of PData, and so are an address and 49 bytes: no more join
pub lamp_joins : joins entry_limit (timed_lamps 0 22) (timed_lamp 22) ≡ true
unfolding follows power_bytes entry_data
lamp_joins = refl

pub lamp_over : joins entry_limit (timed_lamps 0 23) (timed_lamp 23) ≡ false
unfolding follows power_bytes entry_data
lamp_over = refl

pub byte_joins : joins entry_limit (bytes 0 48) (byte 48) ≡ true
unfolding follows entry_data
byte_joins = refl

pub byte_over : joins entry_limit (bytes 0 49) (byte 49) ≡ false
unfolding follows entry_data
byte_over = refl

-- entries of 42 bytes and of one make a list of 56 bytes with its closing zero; with 43 the list is full
pub list_fits : fits_batch list_limit 0 (bytes 0 42 ∷ []) (bytes 50 1) ≡ true
unfolding entry_data pnum_of pcmd_of entry_bytes entries_bytes
list_fits = refl

pub list_over : fits_batch list_limit 0 (bytes 0 43 ∷ []) (bytes 50 1) ≡ false
unfolding entry_data pnum_of pcmd_of entry_bytes entries_bytes
list_over = refl
