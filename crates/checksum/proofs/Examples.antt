-- Worked examples of the checksum and of the code check.
use mathlib.Core.Path.{◌≡◌, refl}
use mathlib.Core.List.{List, [], ◌∷◌, ◌++◌}
use mathlib.Core.Bool.{true, false}
use Prim.Native.Nat.{ℕ}
use lib.ListN.{replicate}
use Rattle.dpa.specs.Reply.{reply, error_reply}
use Rattle.checksum.specs.Sums.{add_with_carry, add_byte, sums}
use Rattle.checksum.specs.Blocks.{block_max, plain, pair, plain_sums, reduce, block_sums}
use Rattle.checksum.specs.Check.{image_of, size_of_block, initial_low_of, image_error, image_matches, code_check}

-- 64 zeros at the start of external memory: with the load flag, without it, and with another checksum
pub record Checks (rest : List ℕ) : Type 0 where
  pub load : code_check (replicate 64 0 ++ rest) (1 ∷ 0 ∷ 0 ∷ 64 ∷ 0 ∷ 0x01 ∷ 0x40 ∷ []) ≡ reply true 0 (1 ∷ [])
  pub check : code_check (replicate 64 0 ++ rest) (0 ∷ 0 ∷ 0 ∷ 64 ∷ 0 ∷ 0x01 ∷ 0x40 ∷ []) ≡ reply false 0 (1 ∷ [])
  pub mismatch : code_check (replicate 64 0 ++ rest) (1 ∷ 0 ∷ 0 ∷ 64 ∷ 0 ∷ 0x02 ∷ 0x40 ∷ []) ≡ reply false 0 (0 ∷ [])
  -- 20 zeros as a plug-in; a plug-in loads on flag bit 0 too
  pub plugin : code_check (replicate 64 0 ++ rest) (2 ∷ 0 ∷ 0 ∷ 20 ∷ 0 ∷ 0x03 ∷ 0x3C ∷ []) ≡ reply false 0 (1 ∷ [])
  pub plugin_load : code_check (replicate 64 0 ++ rest) (3 ∷ 0 ∷ 0 ∷ 20 ∷ 0 ∷ 0x03 ∷ 0x3C ∷ []) ≡ reply true 0 (1 ∷ [])

-- the definition gives these replies
pub checks : (rest : List ℕ) → Checks rest
unfolding add_with_carry add_byte sums size_of_block initial_low_of image_error image_matches code_check
checks rest = record { load = refl; check = refl; mismatch = refl; plugin = refl; plugin_load = refl }

-- errors in their order, 5, 1, 6, 4, over any external memory; each request has later faults too
pub check_errors : (external : List ℕ)
    → (code_check external (4 ∷ 0xFF ∷ 0xFF ∷ 65 ∷ 0 ∷ 0 ∷ []) ≡ error_reply false 5) × (code_check external (4 ∷ 0xFF ∷ 0xFF ∷ 65 ∷ 0 ∷ 0 ∷ 0 ∷ 0 ∷ []) ≡ error_reply false 5)
    × (code_check external (4 ∷ 0xFF ∷ 0xFF ∷ 65 ∷ 0 ∷ 0 ∷ 0 ∷ []) ≡ error_reply false 1) × (code_check external (0x80 ∷ 0xFF ∷ 0xFF ∷ 0 ∷ 0 ∷ 0 ∷ 0 ∷ []) ≡ error_reply false 1)
    × (code_check external (3 ∷ 0xFF ∷ 0xFF ∷ 0 ∷ 0 ∷ 0 ∷ 0 ∷ []) ≡ error_reply false 6)
    × (code_check external (2 ∷ 0xFF ∷ 0xFF ∷ 10 ∷ 0 ∷ 0 ∷ 0 ∷ []) ≡ error_reply false 6) × (code_check external (1 ∷ 0xFF ∷ 0xFF ∷ 32 ∷ 0 ∷ 0 ∷ 0 ∷ []) ≡ error_reply false 6)
    × (code_check external (0 ∷ 0xC1 ∷ 0x3F ∷ 64 ∷ 0 ∷ 0 ∷ 0 ∷ []) ≡ error_reply false 4)
unfolding size_of_block image_error code_check
check_errors external = (refl, refl, refl, refl, refl, refl, refl, refl)

-- an image may end where external memory ends
pub at_end_lem : image_error (image_of (0 ∷ 0xC0 ∷ 0x3F ∷ 64 ∷ 0 ∷ 0 ∷ 0 ∷ [])) ≡ 0
unfolding size_of_block image_error
at_end_lem = refl

-- over zeros, sums of 0 and of 255 stay and a low sum of 255 makes the high sum 255; document 01's byte FE; the largest plain sums
pub record BlockExamples : Type 0 where
  pub zeros : block_sums (pair 0 0) (replicate block_max 0) ≡ pair 0 0
  pub full : block_sums (pair 255 255) (replicate block_max 0) ≡ pair 255 255
  pub low_full : block_sums (pair 255 0) (replicate block_max 0) ≡ pair 255 255
  pub high_full : block_sums (pair 0 255) (replicate block_max 0) ≡ pair 0 255
  pub one_byte : block_sums (pair 1 0) (0xFE ∷ []) ≡ pair 255 255
  pub largest : plain_sums (plain 255 255) (replicate block_max 0xFF) ≡ plain 16575 546975

-- the definitions give these sums
pub block_examples : BlockExamples
unfolding plain_sums reduce
block_examples = record { zeros = refl; full = refl; low_full = refl; high_full = refl; one_byte = refl; largest = refl }
