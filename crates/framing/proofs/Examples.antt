-- Worked examples of framing: document 000, 2.3.2, and the refusals of document 02, change 5.
use mathlib.Core.Path.{◌≡◌, refl}
use mathlib.Core.List.{List, [], ◌∷◌}
use Prim.Native.Nat.{ℕ}
use lib.ListN.{replicate}
use Rattle.dpa.specs.Lists.{fold}
use Rattle.crc.specs.CheckByte.{shift, shifts, crc_byte}
use Rattle.crc.proofs.Examples.{guide_message}
use Rattle.framing.specs.Framing.{reserved, escaped, escaped_all, framed, frame_of}

-- the message of document 000
abbrev pub guide_framed : List ℕ
guide_framed = 0x7E ∷ 0x2F ∷ 0x00 ∷ 0x05 ∷ 0x01 ∷ 0xFF ∷ 0xFF ∷ 0x00 ∷ 0x7D ∷ 0x5E ∷ 0x7D ∷ 0x5D ∷ 0x7D ∷ 0x5E ∷ 0x7E ∷ []

pub guide_framed_lem : framed guide_message ≡ guide_framed
unfolding shift shifts crc_byte fold reserved escaped escaped_all
guide_framed_lem = refl

-- ---- refusals of the sender: 2 before 11

pub refused_lengths : ((frame_of (replicate 5 0) []).refusal ≡ 2) × ((frame_of (replicate 65 0) []).refusal ≡ 2)
unfolding frame_of
refused_lengths = (refl, refl)

pub accepted_lengths : ((frame_of (replicate 6 0) (replicate 132 0)).refusal ≡ 0) × ((frame_of (replicate 64 0) (replicate 132 0)).refusal ≡ 0)
unfolding shift shifts crc_byte fold reserved escaped escaped_all frame_of
accepted_lengths = (refl, refl)

pub refused_room : ((frame_of guide_message (replicate 14 0)).refusal ≡ 11) × ((frame_of guide_message (replicate 15 0)).refusal ≡ 0)
unfolding shift shifts crc_byte fold reserved escaped escaped_all frame_of
refused_room = (refl, refl)
