-- The result of a check, as the code has it.
use mathlib.Core.Path.{◌≡◌, ap}
use Prim.Native.Nat.{ℕ, ◌+◌}
use Rattle.std.proofs.Common.{Result, Ok, Err}
use Rattle.std.specs.Prelude.{MatchResult, IsErrAnd}
use Rattle.batch.specs.declared.fault.ListFault.{ListFault}
use Rattle.batch.specs.Batch.{Broken, shift_fault}
use Rattle.batch.specs.Seen.{reason_number, check_seen}

-- a check whose fault is moved by n bytes; P is what is known of the moved fault
pub check_moved : (n : ℕ) (P : ListFault → ListFault → Type 0) → ((f g : ListFault) → P f g → g ≡ record f { at = n + f.at })
    → (r x : Result Unit ListFault) → MatchResult r (λ u. x ≡ Ok u) (λ f. IsErrAnd x (P f)) → check_seen x ≡ shift_fault n (check_seen r)
check_moved n P moved (Ok u) x m = ap check_seen m
check_moved n P moved (Err f) (Ok u) m = absurd m
check_moved n P moved (Err f) (Err g) m = ap (λ (h : ListFault). Broken (reason_number h.reason) h.at) (moved f g m)
