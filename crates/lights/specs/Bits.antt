-- Document 01, "Lights 71": the bitmap of a request. Bit 0 of byte 0 is lamp 0.
use Rattle.std.specs.Prelude.{ℕ, zero, suc, ◌+◌, ◌-◌, ◌*◌, ◌/◌, ◌%◌, ◌^◌, List, [], ◌∷◌, ◌++◌, Bool, get_or}
use Rattle.std.specs.Int.Count.{count_trailing_zeros}
use Rattle.dpa.specs.Lists.{bit_at}
use Rattle.dpa.specs.Number.{word_at}
use Rattle.dpa.specs.Settings.{max_lamps}

-- the size of the bitmap at the front of PData, in bytes
abbrev pub bitmap_size : ℕ
bitmap_size = 4

-- the k lowest bits of n, lowest first
unfoldable pub bits : ℕ → ℕ → List ℕ
bits zero n = []
bits (suc k) n = n % 2 ∷ bits k (n / 2)

-- how many bits of a list are 1
abbrev pub count : List ℕ → ℕ
count [] = 0
count (zero ∷ bs) = count bs
count (suc b ∷ bs) = suc (count bs)

-- the bits of the four bitmap bytes; bit k selects lamp k
unfoldable pub bitmap : List ℕ → List ℕ
bitmap xs = bits 8 (get_or xs 0 0) ++ (bits 8 (get_or xs 1 0) ++ (bits 8 (get_or xs 2 0) ++ bits 8 (get_or xs 3 0)))

-- the same four bytes as one number (proofs/Bits: `bits_mask`)
abbrev pub mask_of : List ℕ → ℕ
mask_of xs = word_at xs 0 + 65536 * word_at xs 2

-- the lowest lamp that a mask selects, and the mask without it (proofs/Bits: `by_lowest`)
abbrev pub lowest_lamp : ℕ → ℕ
lowest_lamp m = count_trailing_zeros max_lamps m

abbrev pub without_lowest : ℕ → ℕ
without_lowest m = m - 2 ^ lowest_lamp m

-- the same lamp by lamp: bit k selects lamp k (proofs/Selected: `selected_bit`, `count_selected`, `mask_selected`)
unfoldable pub selected : List ℕ → ℕ → Bool
selected xs k = bit_at xs k
