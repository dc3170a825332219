-- Records one after another in bytes: read at a fixed width, and written.
use Rattle.std.specs.Prelude.{List, [], ◌∷◌, ◌++◌, ℕ, zero, suc, drop}

-- the first n records of `width` bytes each; `read` takes a record from the front of the bytes
abbrev pub records : {A : Type 0} (width : ℕ) (read : List ℕ → A) → ℕ → List ℕ → List A
records width read zero bs = []
records width read (suc n) bs = read bs ∷ records width read n (drop width bs)

-- the bytes of each element, one element after another
abbrev pub bytes_of : {A : Type 0} (write : A → List ℕ) → List A → List ℕ
bytes_of write [] = []
bytes_of write (x ∷ xs) = write x ++ bytes_of write xs
