-- Laws of the confirmation.
use mathlib.Core.Path.{◌≡◌}
use mathlib.Core.Bool.{true}
use mathlib.Core.List.{List}
use Prim.Native.Nat.{ℕ, ◌≤◌}
use native.Mathlib.Omega.{arith}
use Rattle.std.proofs.lemmas.Bool.Decides.{nat_tests}
use lib.ListN.{length, take, drop, length-append}
use lib.Seq.{drop_at, length-take-le}
use borrow.Author.Tests.{le-ltb}
use Rattle.dpa.proofs.Headers.{fits_sizes}
use Rattle.dpa.specs.Answer.{RefusedKeeps, result_in_buffer}
use Rattle.dpa.specs.Lists.{overwrite_front}
use Rattle.dpa.specs.Frame.{header_size, longest_response, pdata_of, frame_fits}
use Rattle.timing.specs.declared.slot.Network.{Network}
use Rattle.timing.specs.Slot.{slot_of}
use Rattle.timing.specs.Confirm.{confirmation_length, confirm_bytes, confirmation, confirm_of}

-- the length of a confirmation
pub confirmation_length_lem : (f : List ℕ) (d h s b : ℕ) → header_size ≤ length f → length (confirm_bytes f d h s b) ≡ confirmation_length
confirmation_length_lem f d h s b l = let t : length (take header_size f) ≡ header_size = length-take-le header_size f l in simp (length-append, t)

module _ (f : List ℕ) (d h b : ℕ) (net : Network) (o : List ℕ) where
  -- what a call that is not refused answers
  pub confirmation_given : frame_fits (length f) ≡ true → longest_response ≤ length o → confirm_of f d h b net o ≡ result_in_buffer 0 (confirmation f d h b net) o
  unfolding confirm_of
  confirmation_given fits l = rw (fits, le-ltb (length o) longest_response l)

  -- a call that is not refused returns the length of a confirmation
  pub answered_length : (confirm_of f d h b net o).refusal ≡ 0 → (confirm_of f d h b net o).length ≡ confirmation_length
  unfolding confirm_of
  answered_length =
      let n = λ (e : frame_fits (length f) ≡ true). confirmation_length_lem f d h (slot_of (length (pdata_of f)) net) b (fits_sizes (length f) e).0 in
      grind (arith, nat_tests)

  -- a refused call returns length 0 and leaves the buffer unchanged
  pub refused_unchanged : RefusedKeeps o (confirm_of f d h b net o)
  unfolding confirm_of
  refused_unchanged = grind (arith, nat_tests)

  -- bytes after the confirmation are unchanged, refused or not
  pub later_bytes_kept : drop confirmation_length (confirm_of f d h b net o).out ≡ drop confirmation_length o
  unfolding confirm_of
  later_bytes_kept =
      let kept : frame_fits (length f) ≡ true → drop confirmation_length (overwrite_front (confirmation f d h b net) o) ≡ drop confirmation_length o
      = λ e. let l = confirmation_length_lem f d h (slot_of (length (pdata_of f)) net) b (fits_sizes (length f) e).0 in
      rw l (drop_at (confirmation f d h b net) (drop confirmation_length o) confirmation_length l) in
      grind (arith, nat_tests)
