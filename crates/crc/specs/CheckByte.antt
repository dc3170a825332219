-- Document 000, 2.3.2: the check byte, a 1-Wire CRC that starts from FF hex.
use Rattle.std.specs.Prelude.{ℕ, zero, suc, ◌/◌, ◌%◌, List, cond, eqb}
use Rattle.std.specs.Int.Bits.{bit_xor}
use Rattle.dpa.specs.Lists.{fold}

-- the polynomial x^8 + x^5 + x^4 + 1 without x^8, bit 7 for x^0 and bit 0 for x^7
abbrev pub polynomial : ℕ
polynomial = 0x8C

-- the CRC before the first byte
abbrev pub initial_crc : ℕ
initial_crc = 0xFF

-- one shift; a 1 that leaves on the right adds the polynomial
unfoldable pub shift : ℕ → ℕ
shift crc = cond (eqb (crc % 2) 1) (bit_xor (crc / 2) polynomial) (crc / 2)

-- n shifts
unfoldable pub shifts : ℕ → ℕ → ℕ
shifts zero crc = crc
shifts (suc n) crc = shifts n (shift crc)

-- one byte: added to the CRC, then a shift for each of its bits
unfoldable pub crc_byte : ℕ → ℕ → ℕ
crc_byte crc byte = shifts 8 (bit_xor crc byte)

-- all bytes of a list, in order
abbrev pub crc_bytes : ℕ → List ℕ → ℕ
crc_bytes crc bytes = fold crc_byte crc bytes

-- the check byte of a message
abbrev pub check_byte : List ℕ → ℕ
check_byte bytes = crc_bytes initial_crc bytes
