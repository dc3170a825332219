-- Laws of `All`: a property holds for every element of a list.
use mathlib.Core.List.{List, [], ◌∷◌, ◌++◌}
use Prim.Native.Nat.{ℕ, zero, suc, ◌<◌}
use native.Mathlib.Omega.{arith}
use lib.ListN.{length, get_or, drop}
use Rattle.dpa.specs.Lists.{All}

module _ {A : Type 0} where
  -- the property holds for all elements and for one more at the end
  pub all_snoc : (P : A → Type 0) (xs : List A) (x : A) → All P xs → P x → All P (xs ++ (x ∷ []))
  all_snoc P [] x a p = (p, tt)
  all_snoc P (y ∷ ys) x a p = (a.0, all_snoc P ys x a.1 p)

  -- the property holds for two lists in a row
  pub all_append : (P : A → Type 0) (xs ys : List A) → All P xs → All P ys → All P (xs ++ ys)
  all_append P [] ys a b = b
  all_append P (x ∷ xs) ys a b = (a.0, all_append P xs ys a.1 b)

  -- the property holds for the element at a place
  pub all_at : (P : A → Type 0) (xs : List A) (d : A) (i : ℕ) → All P xs → i < length xs → P (get_or xs i d)
  all_at P [] d i a h = absurd (omega arith)
  all_at P (x ∷ xs) d zero a h = a.0
  all_at P (x ∷ xs) d (suc i) a h = all_at P xs d i a.1 (omega arith)

  -- a property that P implies holds for all elements too
  pub all_weaken : (P Q : A → Type 0) → ((x : A) → P x → Q x) → (xs : List A) → All P xs → All Q xs
  all_weaken P Q f [] a = tt
  all_weaken P Q f (x ∷ xs) a = (f x a.0, all_weaken P Q f xs a.1)

  -- the property holds for the elements from place i on
  pub all_drop : (P : A → Type 0) (xs : List A) (i : ℕ) → All P xs → All P (drop i xs)
  all_drop P xs zero a = a
  all_drop P [] (suc i) a = tt
  all_drop P (x ∷ xs) (suc i) a = all_drop P xs i a.1
