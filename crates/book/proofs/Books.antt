-- Laws of the book: its scene locations, and what a well-formed book guarantees.
use mathlib.Core.Bool.{true, ◌&&◌}
use mathlib.Core.List.{List, [], ◌∷◌}
use mathlib.Core.Path.{◌≡◌, sym, ap, subst, ◌∙◌}
use Prim.Native.Nat.{ℕ, zero, suc, ◌+◌, ◌*◌, ◌≤◌, ◌<◌}
use native.Mathlib.Nat.{add_comm}
use native.Mathlib.Numerals.{add-one}
use native.Mathlib.Omega.{arith}
use lib.Dec.{leb, eqb}
use lib.ListN.{length, get_or, drop, length-map, get_or-map}
use lib.Seq.{drop-drop}
use borrow.Author.Tests.{eqb-true, leb-true}
use Rattle.dpa.proofs.Bool.{and_left, and_right}
use Rattle.book.specs.declared.locations.SceneLocation.{SceneLocation}
use Rattle.book.specs.Book.{scenes_max, steps_max, location_length, step_length, location_of, scene_count, steps_in, chained, scene_locations, book_ok, scene_at, scene_of, scenes_of}
use Rattle.book.specs.Positions.{location_at}
use Rattle.book.proofs.Records.{records_length, records_at, records_next, records_end}
use Rattle.book.proofs.Positions.{steps_length}

-- ---- scene locations

-- the default where a list has no location
abbrev no_location : SceneLocation
no_location = location_of []

-- the locations start after the book's first byte
after_count : (b : List ℕ) (i : ℕ) → location_of (drop (location_length * i) (drop 1 b)) ≡ location_at b i
after_count b i = ap location_of (drop-drop (location_length * i) 1 b ∙ ap (λ (k : ℕ). drop k b) (add_comm 1 (location_length * i)))

location_at_lem : (b : List ℕ) (i : ℕ) → i < scene_count b → get_or (scene_locations b) i no_location ≡ location_at b i
location_at_lem b i h = records_at location_length location_of (scene_count b) (drop 1 b) i no_location h ∙ after_count b i

-- scene i, then the others
pub location_next : (b : List ℕ) (i : ℕ) → i < scene_count b → drop i (scene_locations b) ≡ location_at b i ∷ drop (suc i) (scene_locations b)
location_next b i h = records_next location_length location_of (scene_count b) (drop 1 b) i h ∙ rw (after_count b i)

pub location_after : (b : List ℕ) (i : ℕ) → i < scene_count b → drop i (scene_locations b) ≡ location_at b i ∷ drop (i + 1) (scene_locations b)
location_after b i h = rw (add-one i) (location_next b i h)

pub locations_end : (b : List ℕ) (i : ℕ) → scene_count b ≤ i → drop i (scene_locations b) ≡ []
locations_end b i h = records_end location_length location_of (scene_count b) (drop 1 b) i h

-- ---- what a well-formed book guarantees

-- the first location of a chain, and the chain after it
pub chained_first : (start : ℕ) (l : SceneLocation) (ls : List SceneLocation) (end : ℕ) → chained start (l ∷ ls) end ≡ true
    → (l.offset ≡ start) × (l.steps ≤ steps_max) × (chained (start + step_length * l.steps) ls end ≡ true)
unfolding chained
chained_first start l ls end e =
    let f : (eqb l.offset start && leb l.steps steps_max) ≡ true = and_left _ _ e in
    (eqb-true _ _ (and_left _ _ f), leb-true _ _ (and_right (eqb l.offset start) _ f), and_right (eqb l.offset start && leb l.steps steps_max) _ e)

pub chained_le : (start : ℕ) (ls : List SceneLocation) (end : ℕ) → chained start ls end ≡ true → start ≤ end
unfolding chained
chained_le start [] end e = omega (arith, eqb-true start end e)
chained_le start (l ∷ ls) end e = omega (arith, chained_le (start + step_length * l.steps) ls end (chained_first start l ls end e).2)

chained_body : (start : ℕ) (ls : List SceneLocation) (end i : ℕ) → chained start ls end ≡ true → i < length ls
    → (get_or ls i no_location).offset + step_length * (get_or ls i no_location).steps ≤ end
chained_body start [] end i e h = absurd (omega arith)
chained_body start (l ∷ ls) end zero e h =
    let f = chained_first start l ls end e in
    omega (arith, f.0, chained_le (start + step_length * l.steps) ls end f.2)
chained_body start (l ∷ ls) end (suc i) e h = chained_body (start + step_length * l.steps) ls end i (chained_first start l ls end e).2 (omega arith)

chained_steps : (start : ℕ) (ls : List SceneLocation) (end i : ℕ) → chained start ls end ≡ true → (get_or ls i no_location).steps ≤ steps_max
chained_steps start [] end i e = omega arith
chained_steps start (l ∷ ls) end zero e = (chained_first start l ls end e).1
chained_steps start (l ∷ ls) end (suc i) e = chained_steps (start + step_length * l.steps) ls end i (chained_first start l ls end e).2

pub book_chained : (b : List ℕ) → book_ok b ≡ true → chained (1 + location_length * scene_count b) (scene_locations b) (length b) ≡ true
unfolding book_ok
book_chained b e = and_right (leb 1 (length b) && leb (scene_count b) scenes_max && leb (1 + location_length * scene_count b) (length b)) _ e

-- a well-formed book has a count, not too many scenes, and all their locations
pub book_facts : (b : List ℕ) → book_ok b ≡ true → (1 ≤ length b) × (scene_count b ≤ scenes_max) × (1 + location_length * scene_count b ≤ length b)
unfolding book_ok
book_facts b e =
    let f = and_left _ _ e in
    let g = and_left _ _ f in
    (leb-true _ _ (and_left _ _ g), leb-true _ _ (and_right (leb 1 (length b)) _ g), leb-true _ _ (and_right (leb 1 (length b) && leb (scene_count b) scenes_max) _ f))

-- the body of a scene is in the book, and not too long
pub body_within : (b : List ℕ) (i : ℕ) → book_ok b ≡ true → i < scene_count b
    → ((location_at b i).offset + step_length * (location_at b i).steps ≤ length b) × ((location_at b i).steps ≤ steps_max)
body_within b i e h =
    let start = 1 + location_length * scene_count b in
    let ls = scene_locations b in
    subst (λ (l : SceneLocation). (l.offset + step_length * l.steps ≤ length b) × (l.steps ≤ steps_max)) (location_at_lem b i h) (
      chained_body start ls (length b) i (book_chained b e) (omega (arith, records_length location_length location_of (scene_count b) (drop 1 b))),
      chained_steps start ls (length b) i (book_chained b e),
    )

-- the steps of a scene are read where its location says
pub scene_at_lem : (b : List ℕ) (i : ℕ) → i < scene_count b → scene_of b i ≡ steps_in (location_at b i).steps (drop (location_at b i).offset b)
unfolding scene_of
scene_at_lem b i h = ap (scene_at b) (location_at_lem b i h)

-- a scene of a well-formed book has at most `steps_max` steps
pub scene_length : (b : List ℕ) (k : ℕ) → book_ok b ≡ true → length (scene_of b k) ≤ steps_max
unfolding scene_of
scene_length b k e =
    let l = get_or (scene_locations b) k no_location in
    rw (steps_length l.steps (drop l.offset b))
    (chained_steps (1 + location_length * scene_count b) (scene_locations b) (length b) k (book_chained b e))

-- all scenes: their number, and scene k, which is empty past the last
pub scenes_count : (b : List ℕ) → length (scenes_of b) ≡ scene_count b
unfolding scenes_of
scenes_count b = length-map (scene_locations b) (scene_at b) ∙ records_length location_length location_of (scene_count b) (drop 1 b)

pub scene_of_lem : (b : List ℕ) (k : ℕ) → scene_of b k ≡ get_or (scenes_of b) k []
unfolding scene_of scenes_of
scene_of_lem b k = sym (get_or-map (scene_at b) (scene_locations b) k no_location)
