-- What the inner functions of the compiler compute, for any two limits and any bytes in front of a list.
use Rattle.std.specs.Prelude.{List, map, [], ◌∷◌, Bool, cond, ℕ, ◌+◌, length, leb}
use Rattle.dpa.specs.declared.frame.Frame.{Frame}
use Rattle.batch.specs.Batch.{closing_zero}
use Rattle.book.specs.declared.step.Step.{Step}
use Rattle.entries.specs.Entry.{group_data}
use Rattle.entries.specs.declared.join.EntrySpan.{EntrySpan}
use Rattle.output.specs.declared.form.SizeLimits.{SizeLimits}
use Rattle.output.specs.declared.list.Place.{Place}
use Rattle.output.specs.declared.list.Place.TheVariants.{Open, Next}
use Rattle.output.specs.Requests.{request_with, batches_of, entry_size, empty_list_size}

-- the requests of steps within these limits, with this header and these bytes in front of each list
abbrev pub requests_with : SizeLimits → Frame → List ℕ → List Step → List (List ℕ)
requests_with limits header front ss = map (request_with header front) (batches_of limits.entry limits.list header.hwpid ss)

-- ---- an open list of `size` bytes, its closing zero included, and a next entry with `pdata` bytes of PData

-- whether the list has room for the entry
abbrev pub fits_list : (list_max size pdata : ℕ) → Bool
fits_list list_max size pdata = leb (size + entry_size pdata) list_max

-- size of the list that the entry goes into: the open list, or a new one
unfoldable pub next_size : (list_max size pdata : ℕ) → ℕ
next_size list_max size pdata = cond (fits_list list_max size pdata) (size + entry_size pdata) (empty_list_size + entry_size pdata)

-- bytes written before the entry: none, or the open list's closing zero and the prefix of the next request
unfoldable pub separator_bytes : (list_max : ℕ) (prefix : List ℕ) (size pdata : ℕ) → List ℕ
separator_bytes list_max prefix size pdata = cond (fits_list list_max size pdata) [] (closing_zero ∷ prefix)

-- the length byte of the open list's request if the entry does not fit, where a request has `prefix` bytes before its list
unfoldable pub length_byte_if_full : (list_max prefix size pdata : ℕ) → List ℕ
length_byte_if_full list_max prefix size pdata = cond (fits_list list_max size pdata) [] ((size + prefix) ∷ [])

-- where the entry goes, and the size of that list with it
unfoldable pub place_for : (list_max size pdata : ℕ) → Place
place_for list_max size pdata = cond (fits_list list_max size pdata) (Open (size + entry_size pdata)) (Next (empty_list_size + entry_size pdata))

-- ---- spans: what the first pass keeps about each entry for the second, its number of steps and the size of its PData

-- the spans of the entries of these groups
abbrev pub spans_of : List (List Step) → List EntrySpan
spans_of [] = []
spans_of (group ∷ groups) = record { steps = length group; size = length (group_data group) } ∷ spans_of groups
