-- Document 01, "Scenes": the first fault of a book, in the order in which a reader meets them, and where it is.
use Rattle.std.specs.Prelude.{cond, List, [], ◌∷◌, ℕ, suc, ◌+◌, ◌*◌, ltb, eqb, length, Result, Ok, Err}
use Rattle.book.specs.declared.locations.SceneLocation.{SceneLocation}
use Rattle.book.specs.declared.check.BookFault.{BookFault}
use Rattle.book.specs.declared.check.BookFault.TheVariants.{Empty, Scenes, Locations, Start, Steps, End}
use Rattle.book.specs.Book.{scenes_max, steps_max, location_length, step_length, scene_count, scene_locations}

-- the bodies of the scenes from number k on: the first starts at `start`, the last ends at `end`
unfoldable pub check_bodies : (k start : ℕ) → List SceneLocation → (end : ℕ) → Result Unit BookFault
check_bodies k start [] end = cond (eqb start end) (Ok tt) (Err (End start))
check_bodies k start (l ∷ ls) end =
    cond (eqb l.offset start)
    (cond (ltb steps_max l.steps) (Err (Steps k l.steps))
    (check_bodies (suc k) (start + step_length * l.steps) ls end))
    (Err (Start k l.offset start))

-- the count, the locations, the bodies
unfoldable pub check_book : List ℕ → Result Unit BookFault
check_book b =
    cond (ltb (length b) 1) (Err Empty)
    (cond (ltb scenes_max (scene_count b)) (Err (Scenes (scene_count b)))
    (cond (ltb (length b) (1 + location_length * scene_count b)) (Err (Locations (1 + location_length * scene_count b)))
    (check_bodies 0 (1 + location_length * scene_count b) (scene_locations b) (length b))))

-- the refusal: none for a sound book, 6 for every fault. `check_exact` (proofs/Checks): 0 exactly if the book is well formed
abbrev pub book_refusal : Result Unit BookFault → ℕ
book_refusal (Ok _) = 0
book_refusal (Err fault) = 6
