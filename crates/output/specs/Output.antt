-- Document 01, "Scenes": the bytes of the output, and the requests in them.
use Rattle.std.specs.Prelude.{List, [], ◌∷◌, ◌++◌, ℕ, suc, ◌+◌, ◌≤◌, length, get_or, take, drop}
use Rattle.entries.specs.Group.{concat}

-- the length of each request
abbrev pub lengths : List (List ℕ) → List ℕ
lengths [] = []
lengths (r ∷ rs) = length r ∷ lengths rs

-- the number of requests, the length of each, the requests
abbrev pub output : List (List ℕ) → List ℕ
output rs = length rs ∷ (lengths rs ++ concat rs)

-- bytes split into parts of these lengths
abbrev pub split_by : List ℕ → List ℕ → List (List ℕ)
split_by [] bs = []
split_by (n ∷ ns) bs = take n bs ∷ split_by ns (drop n bs)

-- the requests that an output holds; `requests_back` in proofs/Outputs: they are those that it was made of
unfoldable pub requests_in : List ℕ → List (List ℕ)
requests_in o = split_by (take (get_or o 0 0) (drop 1 o)) (drop (suc (get_or o 0 0)) o)

-- the sum of length bytes
abbrev pub total_length : List ℕ → ℕ
total_length [] = 0
total_length (n ∷ ns) = n + total_length ns

-- an output that has all the bytes that its count and its length bytes announce
pub record CompleteOutput (o : List ℕ) : Type 0 where
  pub counted : suc (get_or o 0 0) ≤ length o
  pub whole : total_length (take (get_or o 0 0) (drop 1 o)) ≤ length (drop (suc (get_or o 0 0)) o)

-- minimum size of the output buffer; `output_fits` in proofs/Outputs: every output fits
abbrev pub min_output : ℕ
min_output = 4096
