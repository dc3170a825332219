-- Progress of the two passes over a scene's entries: what is written so far, and what remains.
use mathlib.Core.List.{List, [], ◌∷◌, ◌++◌, append_assoc}
use mathlib.Core.Path.{◌≡◌, refl, sym, ap, ◌∙◌}
use Prim.Native.Nat.{ℕ, suc, ◌+◌, ◌-◌, ◌≤◌}
use native.Mathlib.Omega.{arith}
use lib.ListN.{length, take, drop, set}
use lib.Seq.{sets, set_comm}
use Rattle.dpa.specs.declared.frame.Frame.{Frame}
use Rattle.batch.specs.Batch.{entry_head_size, entry_bytes}
use Rattle.batch.proofs.RoundTrip.{entry_length_lem}
use Rattle.book.specs.declared.step.Step.{Step}
use Rattle.book.specs.Book.{steps_max, steps_in}
use Rattle.book.proofs.Positions.{steps_length}
use Rattle.step.specs.Step.{AllStepsGood}
use Rattle.step.proofs.GoodSteps.{good_steps}
use Rattle.entries.specs.declared.write.Writer.{Writer}
use Rattle.entries.specs.Group.{concat}
use Rattle.entries.specs.Entry.{joined_entry}
use Rattle.entries.specs.Join.{entries_of}
use Rattle.entries.specs.EntrySize.{FirstEntry}
use Rattle.entries.specs.Writer.{HasRoom, Writes}
use Rattle.entries.proofs.Writers.{writes_append, Remaining, remaining_start, remaining_room, remaining_more}
use Rattle.output.specs.declared.form.SizeLimits.{SizeLimits}
use Rattle.output.specs.Requests.{Limits, empty_list_size}
use Rattle.output.specs.Output.{lengths, output, min_output}
use Rattle.output.specs.Fill.{requests_with, next_size, separator_bytes, length_byte_if_full}
use Rattle.output.proofs.Remaining.{remaining_bytes, remaining_lengths, next_small, bytes_next, lengths_next}
use Rattle.output.proofs.Outputs.{lengths_length, output_fits}

-- ---- the loops over the entries of a scene: a list of `size` bytes is open, and the steps `rest` are next. `remaining` gives the bytes
-- that remain after an open list of a size, when the entries of these groups remain.
pub record Progress (entry_max list_max : ℕ) (remaining : ℕ → List (List Step) → List ℕ) (ss : List Step) (start : Writer) (rest : List Step) (size : ℕ)
    (out : Writer) : Type 0 where
  pub size_max : size ≤ list_max
  pub bytes : Remaining start (remaining empty_list_size (entries_of entry_max ss)) out (remaining size (entries_of entry_max rest))

module _ {entry_max list_max : ℕ} {front : List ℕ} (l : Limits entry_max list_max front) (remaining : ℕ → List (List Step) → List ℕ)
    (ss : List Step) (start : Writer) where
  -- before the first entry
  pub progress_start : Progress entry_max list_max remaining ss start ss empty_list_size start
  progress_start = record { size_max = omega (arith, l.list); bytes = remaining_start _ _ }

  -- after an entry of k steps
  progress_more : {rest : List Step} {size : ℕ} {out : Writer} → Progress entry_max list_max remaining ss start rest size out
      → {k sz : ℕ} → FirstEntry entry_max rest k sz → (xs : List ℕ) {out' : Writer} {size' : ℕ}
      → remaining size (entries_of entry_max rest) ≡ xs ++ remaining (next_size list_max size sz) (entries_of entry_max (drop k rest))
      → Writes out out' xs → size' ≡ next_size list_max size sz
      → Progress entry_max list_max remaining ss start (drop k rest) size' out'
  progress_more {size = size} o {sz = sz} f xs e w es =
      rw es (record { size_max = next_small l size sz f.size_max; bytes = remaining_more o.bytes xs _ e w })

-- ---- the next entry, of k steps with sz bytes of PData
module _ {entry_max list_max : ℕ} {front : List ℕ} (l : Limits entry_max list_max front) {ss : List Step} {start : Writer} {rest : List Step} {size : ℕ}
    {out : Writer} {k sz : ℕ} (f : FirstEntry entry_max rest k sz) where
  -- the length bytes: one more if the entry does not fit the open list
  module _ (prefix : ℕ) (o : Progress entry_max list_max (remaining_lengths list_max prefix) ss start rest size out) where
    -- which has room
    pub lengths_room : HasRoom start (length (remaining_lengths list_max prefix empty_list_size (entries_of entry_max ss)))
        → HasRoom out (length (length_byte_if_full list_max prefix size sz))
    lengths_room = remaining_room o.bytes (length_byte_if_full list_max prefix size sz) _ (lengths_next entry_max list_max f prefix size)

    -- and after which the loop goes on
    pub lengths_more : {out' : Writer} {size' : ℕ} → Writes out out' (length_byte_if_full list_max prefix size sz) → size' ≡ next_size list_max size sz
        → Progress entry_max list_max (remaining_lengths list_max prefix) ss start (drop k rest) size' out'
    lengths_more w es =
        progress_more l (remaining_lengths list_max prefix) ss start o f (length_byte_if_full list_max prefix size sz) (lengths_next entry_max list_max f prefix size) w es

  -- the requests: the separator, then the entry
  module _ (prefix : List ℕ) (h : ℕ) (o : Progress entry_max list_max (remaining_bytes list_max prefix h) ss start rest size out) where
    abbrev separator : List ℕ
    separator = separator_bytes list_max prefix size sz

    abbrev entry : List ℕ
    entry = entry_bytes (joined_entry h (take k rest))

    abbrev later_bytes : List ℕ
    later_bytes = remaining_bytes list_max prefix h (next_size list_max size sz) (entries_of entry_max (drop k rest))

    -- the separator has room
    pub separator_room : HasRoom start (length (remaining_bytes list_max prefix h empty_list_size (entries_of entry_max ss))) → HasRoom out (length separator)
    separator_room = remaining_room o.bytes separator (entry ++ later_bytes) (bytes_next entry_max list_max f prefix h size)

    module _ {out' : Writer} (w : Writes out out' separator) where
      -- and so has the entry
      pub entry_room : HasRoom start (length (remaining_bytes list_max prefix h empty_list_size (entries_of entry_max ss))) → HasRoom out' (entry_head_size + sz)
      entry_room c =
          let x = remaining_more o.bytes separator (entry ++ later_bytes) (bytes_next entry_max list_max f prefix h size) w in
          omega (arith, remaining_room x entry later_bytes refl c, entry_length_lem (joined_entry h (take k rest)), f.size_is)

      -- after both the loop goes on
      pub bytes_more : {out'' : Writer} {size' : ℕ} → Writes out' out'' entry → size' ≡ next_size list_max size sz
          → Progress entry_max list_max (remaining_bytes list_max prefix h) ss start (drop k rest) size' out''
      bytes_more v es =
          progress_more l (remaining_bytes list_max prefix h) ss start o f (separator ++ entry)
          (bytes_next entry_max list_max f prefix h size ∙ sym (append_assoc separator entry later_bytes)) (writes_append w v) es

-- ---- the whole output
set_sets : (l : List ℕ) (c i : ℕ) (xs : List ℕ) → set (sets l (suc i) xs) 0 c ≡ sets (set l 0 c) (suc i) xs
set_sets l c i [] = refl
set_sets l c i (x ∷ xs) =
    set_sets (set l (suc i) x) c (suc i) xs ∙ ap (λ (t : List ℕ). sets t (suc (suc i)) xs) (set_comm l (suc i) 0 x c (λ z. omega arith))

-- the lengths and the requests, written from place 1 on, and the count in front of them are the output
pub output_written : (rs : List (List ℕ)) {start middle end : Writer} → start.at ≡ 1 → Writes start middle (lengths rs) → Writes middle end (concat rs)
    → (final : List ℕ) → final ≡ end.out.now → set final 0 (middle.at - 1) ≡ sets start.out.now 0 (output rs)
output_written rs {start} {middle} {end} one v w final e =
    let n : middle.at - 1 ≡ length rs = omega (arith, v.end, lengths_length rs) in
    rw (e, (writes_append v w).written, one, n) (set_sets start.out.now (length rs) 0 (lengths rs ++ concat rs))

-- the output of good steps fits its buffer, within any limits
pub steps_fit : (limits : SizeLimits) (header : Frame) (front : List ℕ) → Limits limits.entry limits.list front → (n : ℕ) (a : List ℕ) → AllStepsGood a n → n ≤ steps_max
    → length (output (requests_with limits header front (steps_in n a))) ≤ min_output
steps_fit limits header front l n a g m = output_fits limits header front l (steps_in n a) (omega (arith, steps_length n a)) (good_steps n a g)
