-- An output has all the bytes that it announces: its length bytes and its requests.
use mathlib.Core.Path.{◌≡◌, refl, ap, ◌∙◌}
use mathlib.Core.List.{List, [], ◌∷◌}
use Prim.Native.Nat.{ℕ, suc, ◌+◌, ◌-◌, ◌≤◌}
use native.Mathlib.Omega.{arith}
use lib.ListN.{length, get_or, take, drop, length-append, length-drop}
use lib.Seq.{take_at, drop_at}
use Rattle.dpa.proofs.Lists.{slice_to_end}
use Rattle.entries.specs.Group.{concat}
use Rattle.output.specs.Output.{split_by, requests_in, lengths, output, total_length, CompleteOutput}
use Rattle.output.proofs.Outputs.{lengths_length}

-- the bytes hold the first request, of the first length n
pub first_covered : (ns bs : List ℕ) {n : ℕ} → (length ns ≡ 0 → ⊥) → n ≡ get_or ns 0 0 → total_length ns ≤ length bs → n ≤ length bs
first_covered [] bs z e h = absurd (z refl)
first_covered (m ∷ ns) bs z e h = omega arith

-- and the later requests
pub rest_covered : (ns bs : List ℕ) {n : ℕ} → (length ns ≡ 0 → ⊥) → n ≡ get_or ns 0 0 → total_length ns ≤ length bs
    → total_length (take (length ns - 1) (drop 1 ns)) ≤ length (take (length bs - n) (drop n bs))
rest_covered [] bs z e h = absurd (z refl)
rest_covered (m ∷ ns) bs {n} z e h = rw (slice_to_end 1 (m ∷ ns), slice_to_end n bs, length-drop) (omega arith)

-- the two parts of an output that the code passes on: length bytes and requests
module _ (o : List ℕ) {n : ℕ} (e : n ≡ get_or o 0 0) where
  lengths_part : take (1 + n - 1) (drop 1 o) ≡ take (get_or o 0 0) (drop 1 o)
  lengths_part = ap (λ (k : ℕ). take k (drop 1 o)) (let z : 1 + n - 1 ≡ get_or o 0 0 = omega arith in z)

  requests_part : take (length o - (1 + n)) (drop (1 + n) o) ≡ drop (suc (get_or o 0 0)) o
  requests_part = slice_to_end (1 + n) o ∙ ap (λ (k : ℕ). drop k o) (let z : 1 + n ≡ suc (get_or o 0 0) = omega arith in z)

  -- the second holds the requests
  pub parts_covered : CompleteOutput o → total_length (take (1 + n - 1) (drop 1 o)) ≤ length (take (length o - (1 + n)) (drop (1 + n) o))
  parts_covered h = rw (lengths_part, requests_part) h.whole

  -- and splits into them
  pub parts_requests : split_by (take (1 + n - 1) (drop 1 o)) (take (length o - (1 + n)) (drop (1 + n) o)) ≡ requests_in o
  unfolding requests_in
  parts_requests = rw (lengths_part, requests_part)

total_length_lem : (rs : List (List ℕ)) → total_length (lengths rs) ≡ length (concat rs)
total_length_lem [] = refl
total_length_lem (r ∷ rs) = omega (arith, length-append r (concat rs), total_length_lem rs)

-- an output has all the bytes that it announces
pub output_complete : (rs : List (List ℕ)) → CompleteOutput (output rs)
output_complete rs =
    record {
      counted = omega (arith, length-append (lengths rs) (concat rs), lengths_length rs);
      whole =
          rw (take_at (lengths rs) (concat rs) (length rs) (lengths_length rs), drop_at (lengths rs) (concat rs) (length rs) (lengths_length rs))
          (omega (arith, total_length_lem rs));
    }
