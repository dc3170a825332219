-- What remains to be written while entries are filled into lists, and how the next entry changes it.
use mathlib.Core.Bool.{true}
use mathlib.Core.List.{List, [], ◌∷◌, ◌++◌, map, append_assoc, append-nil}
use mathlib.Core.Path.{◌≡◌, sym, ap, ◌∙◌}
use Prim.Native.Nat.{ℕ, ◌+◌, ◌≤◌, ◌<◌}
use native.Mathlib.Omega.{arith}
use lib.Dec.{leb}
use lib.ListN.{length, take, drop, length-append}
use borrow.Author.Tests.{le-leb, leb-true}
use Rattle.dpa.specs.Lists.{All}
use Rattle.dpa.proofs.Bool.{by_test, by_cond}
use Rattle.batch.specs.Batch.{closing_zero, entry_bytes, entries_bytes}
use Rattle.book.specs.declared.step.Step.{Step}
use Rattle.step.proofs.Faults.{Good}
use Rattle.entries.specs.Group.{concat, grow, group}
use Rattle.entries.specs.Entry.{group_data, joined_entry}
use Rattle.entries.specs.Join.{entries_of}
use Rattle.entries.specs.EntrySize.{FirstEntry}
use Rattle.entries.proofs.Groups.{grow_fits, grow_not_fits}
use Rattle.entries.proofs.EntryGroups.{EntryGroup, entry_groups, joining_keeps}
use Rattle.output.specs.Requests.{Limits, joined_entries, list_of, empty_list_size, fits_batch, batches_of}
use Rattle.output.specs.Output.{lengths}
use Rattle.output.specs.Fill.{fits_list, next_size, separator_bytes, length_byte_if_full}
use Rattle.output.proofs.Sizes.{entries_snoc, list_snoc, list_one}

-- all bytes after those of an open list of `size` bytes, when the entries of these groups remain
abbrev pub remaining_bytes : ℕ → List ℕ → ℕ → ℕ → List (List Step) → List ℕ
remaining_bytes list_max prefix h size [] = closing_zero ∷ []
remaining_bytes list_max prefix h size (r ∷ rs) =
    let pdata = length (group_data r) in
    separator_bytes list_max prefix size pdata ++ (entry_bytes (joined_entry h r) ++ remaining_bytes list_max prefix h (next_size list_max size pdata) rs)

-- the length bytes of its request and of the requests after it
abbrev pub remaining_lengths : ℕ → ℕ → ℕ → List (List Step) → List ℕ
remaining_lengths list_max prefix size [] = (size + prefix) ∷ []
remaining_lengths list_max prefix size (r ∷ rs) =
    let pdata = length (group_data r) in
    length_byte_if_full list_max prefix size pdata ++ remaining_lengths list_max prefix (next_size list_max size pdata) rs

-- a request by its prefix: the header and the bytes in front of the list
abbrev pub with_prefix : List ℕ → ℕ → List (List Step) → List ℕ
with_prefix prefix h groups = prefix ++ list_of h groups

module _ (list_max : ℕ) (prefix : List ℕ) (h : ℕ) where
  fits_as : (cur : List (List Step)) (r : List Step) → fits_batch list_max h cur r ≡ fits_list list_max (length (list_of h cur)) (length (group_data r))
  fits_as cur r = ap (λ (n : ℕ). leb n list_max) (list_snoc h cur r)

  prefixed_length : (cur : List (List Step)) → length (with_prefix prefix h cur) ≡ length (list_of h cur) + length prefix
  prefixed_length cur = omega (arith, length-append prefix (list_of h cur))

  -- the requests from an open list on: its prefix, its entries, and what remains
  pub grow_bytes : (cur rs : List (List Step)) → concat (map (with_prefix prefix h) (grow (fits_batch list_max h) cur rs))
      ≡ prefix ++ (entries_bytes (joined_entries h cur) ++ remaining_bytes list_max prefix h (length (list_of h cur)) rs)
  unfolding next_size separator_bytes entries_bytes
  grow_bytes cur [] = append-nil (with_prefix prefix h cur)
  grow_bytes cur (r ∷ rs) =
      by_test (fits_batch list_max h cur r)
      (λ e. let b = remaining_bytes list_max prefix h (length (list_of h (cur ++ (r ∷ [])))) rs in
      rw (grow_fits (fits_batch list_max h) cur r rs e, sym (fits_as cur r) ∙ e, ← (list_snoc h cur r))
      (grow_bytes (cur ++ (r ∷ [])) rs
      ∙ ap (λ (t : List ℕ). prefix ++ t)
      (ap (λ (t : List ℕ). t ++ b) (entries_snoc h cur r) ∙ append_assoc (entries_bytes (joined_entries h cur)) (entry_bytes (joined_entry h r)) b)))
      (λ e. let b = remaining_bytes list_max prefix h (length (list_of h (r ∷ []))) rs in
      let x = prefix ++ (entry_bytes (joined_entry h r) ++ b) in
      rw (grow_not_fits (fits_batch list_max h) cur r rs e, sym (fits_as cur r) ∙ e, ← (list_one h r))
      (ap (λ (t : List ℕ). with_prefix prefix h cur ++ t)
      (grow_bytes (r ∷ []) rs ∙ ap (λ (t : List ℕ). prefix ++ (t ++ b)) (append-nil (entry_bytes (joined_entry h r))))
      ∙ append_assoc prefix (list_of h cur) x
      ∙ ap (λ (t : List ℕ). prefix ++ t) (append_assoc (entries_bytes (joined_entries h cur)) (closing_zero ∷ []) x)))

  -- and their lengths
  pub grow_lengths : (cur rs : List (List Step)) → lengths (map (with_prefix prefix h) (grow (fits_batch list_max h) cur rs))
      ≡ remaining_lengths list_max (length prefix) (length (list_of h cur)) rs
  unfolding next_size length_byte_if_full
  grow_lengths cur [] = ap (λ (n : ℕ). n ∷ []) (prefixed_length cur)
  grow_lengths cur (r ∷ rs) =
      by_test (fits_batch list_max h cur r)
      (λ e. rw (grow_fits (fits_batch list_max h) cur r rs e, sym (fits_as cur r) ∙ e, ← (list_snoc h cur r)) (grow_lengths (cur ++ (r ∷ [])) rs))
      (λ e. rw (grow_not_fits (fits_batch list_max h) cur r rs e, sym (fits_as cur r) ∙ e, prefixed_length cur, ← (list_one h r))
      (ap (λ (t : List ℕ). (length (list_of h cur) + length prefix) ∷ t) (grow_lengths (r ∷ []) rs)))

module _ {entry_max list_max : ℕ} {front : List ℕ} (l : Limits entry_max list_max front) where
  -- a list stays within its limit
  pub next_small : (size pdata : ℕ) → pdata ≤ entry_max → next_size list_max size pdata ≤ list_max
  unfolding next_size
  next_small size pdata m =
      by_cond (λ (n : ℕ). n ≤ list_max) (fits_list list_max size pdata) _ _ (λ e. leb-true _ _ e) (λ e. omega (arith, l.list))

  module _ (prefix : List ℕ) (h : ℕ) (ss : List Step) (good : All Good ss) (some : 0 < length ss) where
    first_fits : (r : List Step) → EntryGroup entry_max r → fits_batch list_max h [] r ≡ true
    first_fits [] q = absurd q
    first_fits (s ∷ ss) q = le-leb (length (list_of h ((s ∷ ss) ∷ []))) list_max (omega (arith, list_one h (s ∷ ss), q.2, l.list))

    -- the first entry fits a list without entries
    from_empty : (rs : List (List Step)) → concat rs ≡ ss → All (EntryGroup entry_max) rs → group (fits_batch list_max h) rs ≡ grow (fits_batch list_max h) [] rs
    from_empty [] e a = absurd (omega (arith, ap length e))
    from_empty (r ∷ rs) e a = sym (grow_fits (fits_batch list_max h) [] r rs (first_fits r a.0))

    batches_grow : batches_of entry_max list_max h ss ≡ grow (fits_batch list_max h) [] (entries_of entry_max ss)
    batches_grow = from_empty (entries_of entry_max ss) (joining_keeps entry_max ss) (entry_groups entry_max l.entry ss good)

    -- the requests of a scene, before the first entry is written
    pub requests_bytes : concat (map (with_prefix prefix h) (batches_of entry_max list_max h ss)) ≡ prefix ++ remaining_bytes list_max prefix h empty_list_size (entries_of entry_max ss)
    unfolding entries_bytes
    requests_bytes =
        ap (λ (bs : List (List (List Step))). concat (map (with_prefix prefix h) bs)) batches_grow ∙ grow_bytes list_max prefix h [] (entries_of entry_max ss)

    -- and their lengths
    pub requests_lengths : lengths (map (with_prefix prefix h) (batches_of entry_max list_max h ss)) ≡ remaining_lengths list_max (length prefix) empty_list_size (entries_of entry_max ss)
    unfolding entries_bytes
    requests_lengths =
        ap (λ (bs : List (List (List Step))). lengths (map (with_prefix prefix h) bs)) batches_grow ∙ grow_lengths list_max prefix h [] (entries_of entry_max ss)

-- ---- the next entry, of k steps with sz bytes of PData, where the steps `rest` are next
module _ (entry_max list_max : ℕ) {rest : List Step} {k sz : ℕ} (f : FirstEntry entry_max rest k sz) where
  -- the bytes that remain: what separates it from the entry before, its own, the later ones
  pub bytes_next : (prefix : List ℕ) (h size : ℕ) → remaining_bytes list_max prefix h size (entries_of entry_max rest)
      ≡ separator_bytes list_max prefix size sz
      ++ (entry_bytes (joined_entry h (take k rest)) ++ remaining_bytes list_max prefix h (next_size list_max size sz) (entries_of entry_max (drop k rest)))
  bytes_next prefix h size = rw (f.first, f.size_is)

  -- the length bytes that remain
  pub lengths_next : (prefix size : ℕ) → remaining_lengths list_max prefix size (entries_of entry_max rest)
      ≡ length_byte_if_full list_max prefix size sz ++ remaining_lengths list_max prefix (next_size list_max size sz) (entries_of entry_max (drop k rest))
  lengths_next prefix size = rw (f.first, f.size_is)
