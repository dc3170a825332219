-- Grouping a list from the left, and concatenating groups.
use Rattle.std.specs.Prelude.{Bool, cond, List, [], ◌∷◌, ◌++◌}

module _ {A : Type 0} where
  -- the elements of all groups, in order
  abbrev pub concat : List (List A) → List A
  concat [] = []
  concat (x ∷ xs) = x ++ concat xs

  -- an element that fits is added to the end of the current group, any other starts a new group
  abbrev pub grow : (List A → A → Bool) → List A → List A → List (List A)
  grow fits cur [] = cur ∷ []
  grow fits cur (x ∷ xs) = cond (fits cur x) (grow fits (cur ++ (x ∷ [])) xs) (cur ∷ grow fits (x ∷ []) xs)

  -- the groups of a list; the first element starts the first group
  abbrev pub group : (List A → A → Bool) → List A → List (List A)
  group fits [] = []
  group fits (x ∷ xs) = grow fits (x ∷ []) xs
