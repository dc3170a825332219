-- The output of a compile call: the requests can be read back from it, and it fits its buffer; when it is written.
use mathlib.Core.List.{List, [], ◌∷◌}
use mathlib.Core.Path.{◌≡◌, refl, ap}
use Prim.Native.Nat.{ℕ, suc, ◌+◌, ◌*◌, ◌≤◌}
use native.Mathlib.Omega.{arith}
use lib.ListN.{length, length-append, length-map}
use lib.Seq.{take-append_seam, drop-append_seam, take_at, drop_at}
use Rattle.dpa.specs.declared.frame.Frame.{Frame}
use Rattle.dpa.specs.Frame.{longest_frame}
use Rattle.dpa.specs.Lists.{All}
use Rattle.book.specs.declared.step.Step.{Step}
use Rattle.book.specs.Book.{steps_max}
use Rattle.step.proofs.Faults.{Good}
use Rattle.entries.specs.Group.{concat}
use Rattle.entries.specs.Join.{joins, entries_of}
use Rattle.entries.proofs.Groups.{length_group}
use Rattle.output.specs.declared.form.SizeLimits.{SizeLimits}
use Rattle.output.specs.Requests.{Limits, fits_batch, batches_of, request_with}
use Rattle.output.specs.Output.{lengths, output, split_by, requests_in, min_output}
use Rattle.output.specs.Fill.{requests_with}
use Rattle.output.proofs.Sizes.{FrameSized, requests_fit}

-- ---- the requests are read back

-- as many lengths as requests
pub lengths_length : (rs : List (List ℕ)) → length (lengths rs) ≡ length rs
lengths_length [] = refl
lengths_length (r ∷ rs) = ap suc (lengths_length rs)

split_back : (rs : List (List ℕ)) → split_by (lengths rs) (concat rs) ≡ rs
split_back [] = refl
split_back (r ∷ rs) = rw (take-append_seam r (concat rs), drop-append_seam r (concat rs), split_back rs)

-- an output is read back as its requests
pub requests_back : (rs : List (List ℕ)) → requests_in (output rs) ≡ rs
unfolding requests_in
requests_back rs =
    rw (take_at (lengths rs) (concat rs) (length rs) (lengths_length rs), drop_at (lengths rs) (concat rs) (length rs) (lengths_length rs))
    (split_back rs)

-- ---- the output fits its buffer

-- size of an output
pub output_length : (rs : List (List ℕ)) → length (output rs) ≡ suc (length rs + length (concat rs))
output_length rs = omega (arith, length-append (lengths rs) (concat rs), lengths_length rs)

joined_length : (rs : List (List ℕ)) → All FrameSized rs → length (concat rs) ≤ longest_frame * length rs
joined_length [] a = omega arith
joined_length (r ∷ rs) a = omega (arith, a.0.1, length-append r (concat rs), joined_length rs a.1)

module _ (limits : SizeLimits) (header : Frame) (front : List ℕ) where
  -- no more requests than steps
  pub request_count : (ss : List Step) → length (requests_with limits header front ss) ≤ length ss
  request_count ss =
      omega (
        arith,
        length-map (batches_of limits.entry limits.list header.hwpid ss) (request_with header front),
        length_group (fits_batch limits.list header.hwpid) (entries_of limits.entry ss),
        length_group (joins limits.entry) ss,
      )

  -- the output of any scene fits: at most `steps_max` requests, each no longer than a frame
  pub output_fits : Limits limits.entry limits.list front → (ss : List Step) → length ss ≤ steps_max → All Good ss
      → length (output (requests_with limits header front ss)) ≤ min_output
  output_fits l ss n g =
      let rs = requests_with limits header front ss in
      omega (arith, output_length rs, joined_length rs (requests_fit l header ss g), request_count ss)
