-- Lists of bytes, and conditions on all elements or indices.
use Rattle.std.specs.Prelude.{ℕ, zero, suc, ◌+◌, ◌/◌, ◌%◌, ◌^◌, ◌<◌, List, [], ◌∷◌, ◌++◌, Bool, true, cond, ◌&&◌, length, take, drop, get_or, eqb}

-- ys with its first bytes replaced by xs
abbrev pub overwrite_front : List ℕ → List ℕ → List ℕ
overwrite_front xs ys = xs ++ drop (length xs) ys

-- the n bytes of a list from a start
abbrev pub slice : List ℕ → ℕ → ℕ → List ℕ
slice xs start n = take n (drop start xs)

-- f for each byte of a list in order, from s on
unfoldable pub fold : {S : Type 0} → (S → ℕ → S) → S → List ℕ → S
fold f s [] = s
fold f s (b ∷ bs) = fold f (f s b) bs

-- every element is a byte
abbrev pub Bytes : List ℕ → Type 0
Bytes s = (i : ℕ) → get_or s i 0 < 256

-- bit k of a byte, and of a list of bytes: bit k mod 8 of byte k / 8
abbrev pub bit_of : ℕ → ℕ → Bool
bit_of byte k = eqb (byte / 2 ^ k % 2) 1

abbrev pub bit_at : List ℕ → ℕ → Bool
bit_at bytes k = bit_of (get_or bytes (k / 8) 0) (k % 8)

-- the test f holds for every number below n
unfoldable pub all_below : ℕ → (ℕ → Bool) → Bool
all_below zero f = true
all_below (suc n) f = all_below n f && f n

-- how many numbers below n satisfy f
unfoldable pub number_below : ℕ → (ℕ → Bool) → ℕ
number_below zero f = 0
number_below (suc n) f = number_below n f + cond (f n) 1 0

-- P holds for every element
abbrev pub All : {A : Type 0} → (A → Type 0) → List A → Type 0
All P [] = Unit
All P (x ∷ xs) = P x × All P xs
