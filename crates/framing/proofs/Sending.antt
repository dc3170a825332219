-- Laws of the sender: what it writes, and what it leaves unchanged.
use mathlib.Core.Path.{◌≡◌}
use mathlib.Core.List.{List}
use Prim.Native.Nat.{ℕ, ◌≤◌}
use native.Mathlib.Omega.{arith}
use Rattle.std.proofs.lemmas.Bool.Decides.{nat_tests}
use lib.ListN.{length, drop}
use lib.Seq.{drop-append_seam}
use Rattle.dpa.specs.Answer.{RefusedKeeps, result_in_buffer}
use Rattle.framing.specs.Framing.{framed, shortest, longest, frame_of}

module _ (m o : List ℕ) where
  -- a message that has from 6 to 64 bytes, and room
  pub frame_accepted : shortest ≤ length m → length m ≤ longest → length (framed m) ≤ length o → frame_of m o ≡ result_in_buffer 0 (framed m) o
  unfolding frame_of
  frame_accepted h k room = grind (arith, nat_tests)

  -- a refused call answers length 0 and leaves the buffer unchanged
  pub refused_frame : RefusedKeeps o (frame_of m o)
  unfolding frame_of
  refused_frame = grind (arith, nat_tests)

  -- bytes after the framed message are unchanged, refused or not
  pub later_bytes_kept : drop (frame_of m o).length (frame_of m o).out ≡ drop (frame_of m o).length o
  unfolding frame_of
  later_bytes_kept =
      let kept = drop-append_seam (framed m) (drop (length (framed m)) o) in
      grind (arith, nat_tests)
