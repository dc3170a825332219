-- Worked example of document 000, 2.3.2.
use mathlib.Core.Path.{◌≡◌, refl}
use mathlib.Core.List.{List, [], ◌∷◌}
use Prim.Native.Nat.{ℕ}
use Rattle.dpa.specs.Lists.{fold}
use Rattle.crc.specs.CheckByte.{shift, shifts, crc_byte, check_byte}

-- write 7E 7D to RAM address 0 of node 2F hex
abbrev pub guide_message : List ℕ
guide_message = 0x2F ∷ 0x00 ∷ 0x05 ∷ 0x01 ∷ 0xFF ∷ 0xFF ∷ 0x00 ∷ 0x7E ∷ 0x7D ∷ []

pub guide_check_byte : check_byte guide_message ≡ 0x7E
unfolding shift shifts crc_byte fold
guide_check_byte = refl
