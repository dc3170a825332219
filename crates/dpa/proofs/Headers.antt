-- Laws of the header: it is read back as it was written, and written back as it was read.
use mathlib.Core.Path.{◌≡◌}
use mathlib.Core.List.{List, [], ◌∷◌, ◌++◌}
use Prim.Native.Nat.{ℕ, ◌≤◌}
use native.Mathlib.Omega.{arith}
use lib.ListN.{length, take}
use lib.Dec.{leb}
use mathlib.Core.Bool.{true}
use borrow.Author.Tests.{leb-true}
use Rattle.dpa.specs.declared.frame.Frame.{Frame}
use Rattle.dpa.specs.Lists.{Bytes}
use Rattle.dpa.specs.Frame.{header_size, longest_frame, frame_fits, header_bytes, header_of}
use Rattle.dpa.proofs.Bool.{and_left, and_right}
use Rattle.dpa.proofs.Numbers.{word_split, low_word, high_word}

-- the range that a valid frame length lies in
pub fits_sizes : (n : ℕ) → frame_fits n ≡ true → (header_size ≤ n) × (n ≤ longest_frame)
unfolding frame_fits
fits_sizes n e = (leb-true _ _ (and_left (leb header_size n) (leb n longest_frame) e), leb-true _ _ (and_right (leb header_size n) (leb n longest_frame) e))

-- a written header is read back, with any bytes after it
pub read_written : (f : Frame) (rest : List ℕ) → header_of (header_bytes f ++ rest) ≡ f
read_written f rest = simp (word_split f.nadr, word_split f.hwpid)

-- the header that was read gives back the first six bytes
pub written_read : (s : List ℕ) → Bytes s → header_size ≤ length s → header_bytes (header_of s) ≡ take header_size s
written_read (a ∷ b ∷ d ∷ e ∷ f ∷ g ∷ rest) h n = simp (low_word a b (h 0), high_word a b (h 0), low_word f g (h 4), high_word f g (h 4))
written_read [] h n = absurd (omega arith)
written_read (a ∷ []) h n = absurd (omega arith)
written_read (a ∷ b ∷ []) h n = absurd (omega arith)
written_read (a ∷ b ∷ d ∷ []) h n = absurd (omega arith)
written_read (a ∷ b ∷ d ∷ e ∷ []) h n = absurd (omega arith)
written_read (a ∷ b ∷ d ∷ e ∷ f ∷ []) h n = absurd (omega arith)
