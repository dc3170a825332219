-- Small lists with the reason and the position of their fault. The ErrN of the first two are worked examples of acceptance.
use mathlib.Core.Path.{◌≡◌, refl}
use mathlib.Core.List.{[], ◌∷◌}
use Rattle.batch.specs.Batch.{Sound, Broken, closing_zero, short_reason, past_end_reason, unclosed_reason, trailing_reason, next_entry, request_of, reading_from, reading}

-- `00` has no entries
pub zero_alone : reading (closing_zero ∷ []) ≡ record { entries = []; check = Sound }
unfolding next_entry reading_from
zero_alone = refl

-- `04 00` has a length shorter than an entry's head
pub four_zero : (reading (4 ∷ 0 ∷ [])).check ≡ Broken short_reason 0
unfolding next_entry reading_from
four_zero = refl

-- `03` has such a length too; that comes before the end of the list
pub three_alone : (reading (3 ∷ [])).check ≡ Broken short_reason 0
unfolding next_entry reading_from
three_alone = refl

-- `05 71 3E FF` has an entry that runs past the end
pub one_byte_missing : (reading (5 ∷ 0x71 ∷ 0x3E ∷ 0xFF ∷ [])).check ≡ Broken past_end_reason 0
unfolding next_entry reading_from
one_byte_missing = refl

-- `05 71 3E FF FF` is a whole entry without a closing zero
pub zero_missing : (reading (5 ∷ 0x71 ∷ 0x3E ∷ 0xFF ∷ 0xFF ∷ [])).check ≡ Broken unclosed_reason 5
unfolding next_entry reading_from
zero_missing = refl

-- `00 00` has a byte after the closing zero
pub zero_zero : (reading (0 ∷ 0 ∷ [])).check ≡ Broken trailing_reason 1
unfolding next_entry reading_from
zero_zero = refl

-- an empty list has no closing zero
pub no_bytes : (reading []).check ≡ Broken unclosed_reason 0
unfolding reading_from
no_bytes = refl

-- `06 71 3E 34 12 AA 03` is an entry with PNUM, PCMD, HWPID low byte first and a byte of PData; a fault follows at position 6
pub entry_then_fault : reading (0x06 ∷ 0x71 ∷ 0x3E ∷ 0x34 ∷ 0x12 ∷ 0xAA ∷ 0x03 ∷ [])
    ≡ record { entries = request_of 0x71 0x3E 0x1234 (0xAA ∷ []) ∷ []; check = Broken short_reason 6 }
unfolding next_entry reading_from
entry_then_fault = refl
