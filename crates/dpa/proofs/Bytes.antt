-- Laws of `Bytes`: every element of a list is a byte.
use mathlib.Core.Path.{◌≡◌}
use mathlib.Core.Bool.{true}
use mathlib.Core.List.{List, [], ◌∷◌, ◌++◌}
use Prim.Native.Nat.{ℕ, zero, suc, ◌+◌, ◌≤◌, ◌<◌}
use native.Mathlib.Omega.{arith}
use lib.ListN.{length, get_or, take, drop, set, get_or-eq_default}
use lib.Seq.{get_or-drop}
use lib.Dec.{ltb}
use mir.Syntax.{w8}
use mir.Val.{Val}
use denote.Shadow.{shadow}
use denote.Array.{each}
use denote.Plain.{UInt}
use borrow.Author.Tests.{ltb-true, ltb-false}
use Rattle.dpa.specs.Lists.{Bytes, all_below}
use Rattle.dpa.proofs.Bool.{by_test, all_below_elim}

-- the empty list
pub bytes_nil : Bytes []
bytes_nil i = omega arith

-- one more byte in front
pub bytes_cons : (x : ℕ) (xs : List ℕ) → x < 256 → Bytes xs → Bytes (x ∷ xs)
bytes_cons x xs h k zero = h
bytes_cons x xs h k (suc i) = k i

-- two lists in a row
pub bytes_append : (xs ys : List ℕ) → Bytes xs → Bytes ys → Bytes (xs ++ ys)
bytes_append [] ys h k = k
bytes_append (x ∷ xs) ys h k = bytes_cons x (xs ++ ys) (h 0) (bytes_append xs ys (λ i. h (suc i)) k)

-- the front of a list
pub bytes_take : (n : ℕ) (xs : List ℕ) → Bytes xs → Bytes (take n xs)
bytes_take zero xs h = bytes_nil
bytes_take (suc n) [] h = bytes_nil
bytes_take (suc n) (x ∷ xs) h = bytes_cons x (take n xs) (h 0) (bytes_take n xs (λ i. h (suc i)))

-- the rest of a list
pub bytes_drop : (n : ℕ) (xs : List ℕ) → Bytes xs → Bytes (drop n xs)
bytes_drop n xs h i = rw (get_or-drop n xs i 0) (h (n + i))

-- another byte at a place
pub bytes_set : (xs : List ℕ) (i x : ℕ) → x < 256 → Bytes xs → Bytes (set xs i x)
bytes_set [] i x h k = k
bytes_set (y ∷ xs) zero x h k = bytes_cons x xs h (λ j. k (suc j))
bytes_set (y ∷ xs) (suc i) x h k = bytes_cons y (set xs i x) (k 0) (bytes_set xs i x h (λ j. k (suc j)))

-- a list of n elements that are tested to be bytes
pub bytes_tested : (n : ℕ) (xs : List ℕ) → length xs ≡ n → all_below n (λ i. ltb (get_or xs i 0) 256) ≡ true → Bytes xs
bytes_tested n xs e t i =
    by_test (ltb i n) (λ l. ltb-true _ _ (all_below_elim n (λ j. ltb (get_or xs j 0) 256) t i (ltb-true i n l)))
    (λ l. let h : length xs ≤ i = omega (arith, ltb-false i n l) in omega (arith, get_or-eq_default xs 0 h))

-- an array of bytes that a function is given or a call returns
pub bytes_owned : (xs : List ℕ) (us : List Val) → shadow (each ℕ (UInt w8).own_val xs us) → Bytes xs
bytes_owned [] us s = bytes_nil
bytes_owned (x ∷ xs) [] s = absurd s
bytes_owned (x ∷ xs) (u ∷ us) s = bytes_cons x xs s.0.1 (bytes_owned xs us s.1)
