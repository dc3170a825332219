-- Sizes of lists and requests: each request fits a frame.
use mathlib.Core.List.{List, [], ◌∷◌, ◌++◌, map, append_assoc, append-nil}
use mathlib.Core.Path.{◌≡◌, sym, ap, ◌∙◌}
use Prim.Native.Nat.{ℕ, ◌+◌, ◌≤◌}
use native.Mathlib.Omega.{arith}
use lib.ListN.{length, length-append}
use Rattle.dpa.specs.declared.frame.Frame.{Frame}
use Rattle.dpa.specs.Frame.{header_size, longest_frame}
use Rattle.dpa.specs.Lists.{All}
use Rattle.batch.specs.Batch.{closing_zero, entry_bytes, entries_bytes}
use Rattle.batch.proofs.RoundTrip.{entry_length_lem}
use Rattle.book.specs.declared.step.Step.{Step}
use Rattle.step.proofs.Faults.{Good}
use Rattle.entries.specs.Entry.{group_data, joined_entry}
use Rattle.output.specs.Requests.{Limits, joined_entries, list_of, entry_size, empty_list_size, batches_of, request_with}
use Rattle.output.proofs.Batches.{BatchRule, batches_rule}

-- one more entry at the end of a list adds its bytes
pub entries_snoc : (h : ℕ) (rs : List (List Step)) (r : List Step)
    → entries_bytes (joined_entries h (rs ++ (r ∷ []))) ≡ entries_bytes (joined_entries h rs) ++ entry_bytes (joined_entry h r)
unfolding entries_bytes
entries_snoc h [] r = append-nil (entry_bytes (joined_entry h r))
entries_snoc h (x ∷ rs) r =
    ap (λ (t : List ℕ). entry_bytes (joined_entry h x) ++ t) (entries_snoc h rs r)
    ∙ sym (append_assoc (entry_bytes (joined_entry h x)) (entries_bytes (joined_entries h rs)) (entry_bytes (joined_entry h r)))

-- and its size
pub list_snoc : (h : ℕ) (rs : List (List Step)) (r : List Step)
    → length (list_of h (rs ++ (r ∷ []))) ≡ length (list_of h rs) + entry_size (length (group_data r))
list_snoc h rs r =
    omega (
      arith,
      length-append (entries_bytes (joined_entries h (rs ++ (r ∷ [])))) (closing_zero ∷ []),
      length-append (entries_bytes (joined_entries h rs)) (closing_zero ∷ []),
      ap length (entries_snoc h rs r),
      length-append (entries_bytes (joined_entries h rs)) (entry_bytes (joined_entry h r)),
      entry_length_lem (joined_entry h r),
    )

-- size of a list of one entry
pub list_one : (h : ℕ) (r : List Step) → length (list_of h (r ∷ [])) ≡ empty_list_size + entry_size (length (group_data r))
unfolding entries_bytes entry_bytes
list_one h r = simp length-append (omega arith)

-- size of a request
pub request_length : (header : Frame) (front : List ℕ) (rs : List (List Step))
    → length (request_with header front rs) ≡ header_size + (length front + length (list_of header.hwpid rs))
request_length header front rs = omega (arith, length-append front (list_of header.hwpid rs))

-- a size that a frame may have
abbrev pub FrameSized : List ℕ → Type 0
FrameSized r = (header_size ≤ length r) × (length r ≤ longest_frame)

module _ {entry_max list_max : ℕ} {front : List ℕ} (l : Limits entry_max list_max front) (header : Frame) where
  -- the request of a batch fits a frame
  pub batch_fits : (rs : List (List Step)) → BatchRule entry_max list_max header.hwpid rs → FrameSized (request_with header front rs)
  batch_fits rs b =
      let n = request_length header front rs in
      let s = b.size in
      let f = l.frame in
      (omega arith, omega arith)

  -- every request of a scene fits a frame
  pub requests_fit : (ss : List Step) → All Good ss → All FrameSized (map (request_with header front) (batches_of entry_max list_max header.hwpid ss))
  requests_fit ss g = each (batches_of entry_max list_max header.hwpid ss) (batches_rule l header.hwpid ss g)
    where
      each : (bs : List (List (List Step))) → All (BatchRule entry_max list_max header.hwpid) bs → All FrameSized (map (request_with header front) bs)
      each [] a = tt
      each (b ∷ bs) a = (batch_fits b a.0, each bs a.1)
