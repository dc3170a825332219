-- Laws of a loop that stores f of each element of a list in an array, from the front.
use Prim.Native.Nat.{ℕ, suc, ◌+◌, ◌≤◌, ◌<◌}
use mathlib.Core.Path.{◌≡◌, ap, ◌∙◌}
use mathlib.Core.List.{List, ◌∷◌, ◌++◌, map, append_assoc, append-nil, map-append}
use native.Mathlib.Omega.{arith}
use native.Mathlib.Numerals.{add-one}
use lib.ListN.{get_or, set, take, drop, length, length-map, drop_of_length-le}
use lib.Seq.{take_all, take-suc, drop-cons, length-take-le, get_or_at, set_at}

module _ {A B : Type 0} (f : A → B) (xs : List A) (out out₀ : List B) (i : ℕ) (e : out ≡ map f (take i xs) ++ drop i out₀) where
  -- one iteration
  pub map_next : (a : A) → i < length xs → i < length out₀ → set out i (f (get_or xs i a)) ≡ map f (take (i + 1) xs) ++ drop (i + 1) out₀
  map_next a h k =
      let p : List B = map f (take i xs) in
      let y : B = get_or out₀ i (f a) in
      let ys : List B = drop (suc i) out₀ in
      let n : length p ≡ i = length-map (take i xs) f ∙ length-take-le i xs (omega arith) in
      let e' : out ≡ p ++ y ∷ ys = e ∙ ap (λ (t : List B). p ++ t) (drop-cons out₀ i (f a) k) in
      rw (e', set_at p y ys (f (get_or xs i a)) i n, add-one, take-suc xs i a h, map-append, append_assoc)

  -- after the last iteration
  pub map_done : length xs ≤ i → length out₀ ≤ i → out ≡ map f xs
  map_done h k = e ∙ rw (take_all i xs h, drop_of_length-le out₀ k, append-nil)

-- an array that is updated in place still has its old element at the next place
pub map_unchanged : {A : Type 0} (f : A → A) (xs out : List A) (i : ℕ) (a : A) → i < length xs → out ≡ map f (take i xs) ++ drop i xs → get_or out i a ≡ get_or xs i a
map_unchanged {A = A} f xs out i a h e =
    let p : List A = map f (take i xs) in
    let n : length p ≡ i = length-map (take i xs) f ∙ length-take-le i xs (omega arith) in
    rw (e, drop-cons xs i a h) (get_or_at p (get_or xs i a) (drop (suc i) xs) a i n)
