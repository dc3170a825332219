-- Laws of grouping: nothing is lost or moved, what holds of each group, and how a group ends.
use mathlib.Core.Bool.{Bool, true, false}
use mathlib.Core.List.{List, [], ◌∷◌, ◌++◌, append_assoc}
use mathlib.Core.Path.{◌≡◌, refl, ap, ◌∙◌}
use Prim.Native.Nat.{ℕ, suc, ◌≤◌, ◌<◌}
use native.Mathlib.Omega.{arith}
use lib.ListN.{length, get_or, take, drop}
use lib.Seq.{take-suc, drop-cons}
use Rattle.dpa.specs.Lists.{All}
use Rattle.dpa.proofs.Bool.{by_cond}
use Rattle.entries.specs.Group.{concat, grow, group}

module _ {A : Type 0} where
  -- the concatenation of two lists of groups
  pub concat_append : (xs ys : List (List A)) → concat (xs ++ ys) ≡ concat xs ++ concat ys
  concat_append [] ys = refl
  concat_append (x ∷ xs) ys = rw (concat_append xs ys, append_assoc x (concat xs) (concat ys))

module _ {A : Type 0} (fits : List A → A → Bool) where
  concat_grow : (cur xs : List A) → concat (grow fits cur xs) ≡ cur ++ xs
  concat_grow cur [] = refl
  concat_grow cur (x ∷ xs) =
      by_cond (λ (g : List (List A)). concat g ≡ cur ++ (x ∷ xs)) (fits cur x) _ _
      (λ _. concat_grow (cur ++ (x ∷ [])) xs ∙ append_assoc cur (x ∷ []) xs)
      (λ _. ap (λ (l : List A). cur ++ l) (concat_grow (x ∷ []) xs))

  -- the groups in order are the whole list
  pub concat_group : (xs : List A) → concat (group fits xs) ≡ xs
  concat_group [] = refl
  concat_group (x ∷ xs) = concat_grow (x ∷ []) xs

  length_grow : (cur xs : List A) → length (grow fits cur xs) ≤ suc (length xs)
  length_grow cur [] = omega arith
  length_grow cur (x ∷ xs) =
      by_cond (λ (g : List (List A)). length g ≤ suc (suc (length xs))) (fits cur x) _ _
      (λ _. omega (arith, length_grow (cur ++ (x ∷ [])) xs)) (λ _. omega (arith, length_grow (x ∷ []) xs))

  -- there are no more groups than elements
  pub length_group : (xs : List A) → length (group fits xs) ≤ length xs
  length_group [] = omega arith
  length_group (x ∷ xs) = length_grow (x ∷ []) xs

  module _ (P : List A → Type 0) (Q : A → Type 0) (one : (x : A) → Q x → P (x ∷ []))
      (more : (cur : List A) (x : A) → P cur → Q x → fits cur x ≡ true → P (cur ++ (x ∷ []))) where
    all_grow : (cur xs : List A) → P cur → All Q xs → All P (grow fits cur xs)
    all_grow cur [] p qs = (p, tt)
    all_grow cur (x ∷ xs) p qs =
        by_cond (All P) (fits cur x) _ _
        (λ e. all_grow (cur ++ (x ∷ [])) xs (more cur x p qs.0 e) qs.1)
        (λ _. (p, all_grow (x ∷ []) xs (one x qs.0) qs.1))

    -- P holds of each group if it holds of one element and each added element keeps it
    pub all_group : (xs : List A) → All Q xs → All P (group fits xs)
    all_group [] qs = tt
    all_group (x ∷ xs) qs = all_grow (x ∷ []) xs (one x qs.0) qs.1

  -- ---- a loop along a list

  -- the first element starts a group
  pub group_start : (xs : List A) → 0 < length xs → group fits xs ≡ grow fits (take 1 xs) (drop 1 xs)
  group_start [] h = absurd (omega arith)
  group_start (x ∷ xs) h = refl

  -- an element that fits joins the current group
  pub grow_fits : (cur : List A) (x : A) (xs : List A) → fits cur x ≡ true → grow fits cur (x ∷ xs) ≡ grow fits (cur ++ (x ∷ [])) xs
  grow_fits cur x xs e = rw e

  -- so does element k, if the current group is the first k elements
  pub take_fits : (d : A) (xs : List A) (k : ℕ) → k < length xs → fits (take k xs) (get_or xs k d) ≡ true
      → grow fits (take k xs) (drop k xs) ≡ grow fits (take (suc k) xs) (drop (suc k) xs)
  take_fits d xs k h e = rw (drop-cons xs k d h, take-suc xs k d h, e)

  -- an element that does not fit starts the next group
  pub grow_not_fits : (cur : List A) (x : A) (xs : List A) → fits cur x ≡ false → grow fits cur (x ∷ xs) ≡ cur ∷ group fits (x ∷ xs)
  grow_not_fits cur x xs e = rw e

  -- so does element k, if the current group is the first k elements
  pub take_not_fits : (d : A) (xs : List A) (k : ℕ) → k < length xs → fits (take k xs) (get_or xs k d) ≡ false
      → grow fits (take k xs) (drop k xs) ≡ take k xs ∷ group fits (drop k xs)
  take_not_fits d xs k h e = rw (drop-cons xs k d h, e)
