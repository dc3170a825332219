-- Steps, bodies and books are read back as they were written, and written back as they were read.
use mathlib.Core.Bool.{true}
use mathlib.Core.List.{List, [], ◌∷◌, ◌++◌, map}
use mathlib.Core.Path.{◌≡◌, refl, sym, ap, ◌∙◌}
use Prim.Native.Nat.{ℕ, zero, suc, ◌+◌, ◌*◌, ◌≤◌, ◌<◌}
use native.Mathlib.Omega.{arith}
use lib.ListN.{length, get_or, take, drop, length-append, length-drop, take-append-drop, drop_of_length-le}
use lib.Seq.{take_all, drop_at, drop-cons, drop-drop}
use borrow.Author.Tests.{le-leb, eq-eqb, eqb-true}
use Rattle.dpa.specs.Lists.{Bytes, All}
use Rattle.dpa.proofs.All.{all_weaken}
use Rattle.dpa.proofs.Bool.{both}
use Rattle.dpa.proofs.Bytes.{bytes_cons, bytes_append, bytes_drop}
use Rattle.dpa.proofs.Numbers.{word_split, low_word, high_word}
use Rattle.book.specs.declared.locations.SceneLocation.{SceneLocation}
use Rattle.book.specs.declared.step.Step.{Step}
use Rattle.book.specs.Book.{scenes_max, steps_max, location_length, step_length, location_of, step_of, scene_count, scene_locations, chained, book_ok, steps_in, scene_at, scene_of, scenes_of}
use Rattle.book.specs.Records.{records, bytes_of}
use Rattle.book.specs.Write.{step_bytes, body_bytes, location_bytes, locations_from, book_bytes, WritableScene, WritableScenes}
use Rattle.book.proofs.Records.{records_read, records_written, bytes_of_length, bytes_of_bytes}
use Rattle.book.proofs.Positions.{steps_length}
use Rattle.book.proofs.Books.{chained_first, chained_le, book_chained, book_facts, scene_of_lem, scenes_count}

-- ---- a step and a body

pub step_read : (s : Step) (rest : List ℕ) → step_of (step_bytes s ++ rest) ≡ s
step_read s rest = refl

pub step_written : (bs : List ℕ) → step_length ≤ length bs → step_bytes (step_of bs) ≡ take step_length bs
step_written (a ∷ b ∷ d ∷ e ∷ rest) h = refl
step_written [] h = absurd (omega arith)
step_written (a ∷ []) h = absurd (omega arith)
step_written (a ∷ b ∷ []) h = absurd (omega arith)
step_written (a ∷ b ∷ d ∷ []) h = absurd (omega arith)

pub body_length : (steps : List Step) → length (body_bytes steps) ≡ step_length * length steps
body_length = bytes_of_length step_bytes step_length (λ s. refl)

pub body_read : (steps : List Step) (rest : List ℕ) → steps_in (length steps) (body_bytes steps ++ rest) ≡ steps
body_read = records_read step_bytes step_length step_of (λ s. refl) step_read

pub body_written : (n : ℕ) (bs : List ℕ) → step_length * n ≤ length bs → body_bytes (steps_in n bs) ≡ take (step_length * n) bs
body_written n bs h =
    records_written step_bytes step_length step_of n bs (λ i l. step_written (drop (step_length * i) bs) (rw (length-drop (step_length * i) bs) (omega arith)))

-- bytes of n whole steps
pub body_whole : (n : ℕ) (bs : List ℕ) → length bs ≡ step_length * n → body_bytes (steps_in n bs) ≡ bs
body_whole n bs e = body_written n bs (omega arith) ∙ take_all (step_length * n) bs (omega arith)

-- steps that are read from bytes
step_bytes_lem : (bs : List ℕ) → Bytes bs → Bytes (step_bytes (step_of bs))
step_bytes_lem bs h zero = h 0
step_bytes_lem bs h (suc zero) = h 1
step_bytes_lem bs h (suc (suc zero)) = h 2
step_bytes_lem bs h (suc (suc (suc zero))) = h 3
step_bytes_lem bs h (suc (suc (suc (suc i)))) = omega arith

pub steps_bytes : (n : ℕ) (bs : List ℕ) → Bytes bs → All (λ s. Bytes (step_bytes s)) (steps_in n bs)
steps_bytes zero bs h = tt
steps_bytes (suc n) bs h = (step_bytes_lem bs h, steps_bytes n (drop step_length bs) (bytes_drop step_length bs h))

-- ---- scene locations

location_read : (l : SceneLocation) (rest : List ℕ) → location_of (location_bytes l ++ rest) ≡ l
location_read l rest = simp (word_split l.offset)

location_written : (bs : List ℕ) → Bytes bs → location_length ≤ length bs → location_bytes (location_of bs) ≡ take location_length bs
location_written (a ∷ b ∷ d ∷ rest) h n = simp (low_word a b (h 0), high_word a b (h 0))
location_written [] h n = absurd (omega arith)
location_written (a ∷ []) h n = absurd (omega arith)
location_written (a ∷ b ∷ []) h n = absurd (omega arith)

location_bytes_lem : (l : SceneLocation) → l.offset < 65536 → l.steps < 256 → Bytes (location_bytes l)
location_bytes_lem l h n zero = omega arith
location_bytes_lem l h n (suc zero) = omega arith
location_bytes_lem l h n (suc (suc zero)) = n
location_bytes_lem l h n (suc (suc (suc i))) = omega arith

locations_length : (start : ℕ) (scenes : List (List Step)) → length (locations_from start scenes) ≡ length scenes
locations_length start [] = refl
locations_length start (steps ∷ scenes) = ap suc (locations_length (start + step_length * length steps) scenes)

-- ---- scenes, written, then read

-- the length of the bodies
bodies_next : (steps : List Step) (scenes : List (List Step))
    → length (bytes_of body_bytes (steps ∷ scenes)) ≡ step_length * length steps + length (bytes_of body_bytes scenes)
bodies_next steps scenes = omega (arith, length-append (body_bytes steps) (bytes_of body_bytes scenes), body_length steps)

bodies_max : (scenes : List (List Step)) → All WritableScene scenes → length (bytes_of body_bytes scenes) ≤ step_length * steps_max * length scenes
bodies_max [] a = omega arith
bodies_max (steps ∷ scenes) a = omega (arith, a.0.0, bodies_next steps scenes, bodies_max scenes a.1)

-- bodies that start at `start` of b are read back
bodies_read : (b : List ℕ) (start : ℕ) (scenes : List (List Step)) → drop start b ≡ bytes_of body_bytes scenes
    → map (scene_at b) (locations_from start scenes) ≡ scenes
bodies_read b start [] e = refl
bodies_read b start (steps ∷ scenes) e =
    let n = step_length * length steps in
    let rest = sym (drop-drop n start b) ∙ ap (drop n) e ∙ drop_at (body_bytes steps) (bytes_of body_bytes scenes) n (body_length steps) in
    rw (e, body_read steps (bytes_of body_bytes scenes), bodies_read b (start + n) scenes rest)

chained_from : (start end : ℕ) (scenes : List (List Step)) → All WritableScene scenes → start + length (bytes_of body_bytes scenes) ≡ end
    → chained start (locations_from start scenes) end ≡ true
unfolding chained
chained_from start end [] a e = eq-eqb start end (omega arith)
chained_from start end (steps ∷ scenes) a e =
    both (both (eq-eqb start start refl) (le-leb (length steps) steps_max a.0.0))
    (chained_from (start + step_length * length steps) end scenes a.1 (omega (arith, bodies_next steps scenes)))

locations_bytes : (start : ℕ) (scenes : List (List Step)) → All WritableScene scenes → start + length (bytes_of body_bytes scenes) < 65536
    → All (λ l. Bytes (location_bytes l)) (locations_from start scenes)
locations_bytes start [] a h = tt
locations_bytes start (steps ∷ scenes) a h =
    let n = bodies_next steps scenes in (
      location_bytes_lem (record { offset = start; steps = length steps }) (omega (arith, n)) (omega (arith, a.0.0)),
      locations_bytes (start + step_length * length steps) scenes a.1 (omega (arith, n)),
    )

module _ (scenes : List (List Step)) where
  abbrev start : ℕ
  start = 1 + location_length * length scenes

  abbrev locations : List SceneLocation
  locations = locations_from start scenes

  -- all before the bodies
  abbrev front : List ℕ
  front = length scenes ∷ bytes_of location_bytes locations

  front_length : length front ≡ start
  front_length = omega (arith, bytes_of_length location_bytes location_length (λ l. refl) locations, locations_length start scenes)

  -- the book has the scenes' number, locations and length
  pub count_read : scene_count (book_bytes scenes) ≡ length scenes
  unfolding book_bytes
  count_read = refl

  pub locations_read : scene_locations (book_bytes scenes) ≡ locations_from (1 + location_length * length scenes) scenes
  unfolding book_bytes
  locations_read =
      ap (λ (n : ℕ). records location_length location_of n (bytes_of location_bytes locations ++ bytes_of body_bytes scenes)) (sym (locations_length start scenes))
      ∙ records_read location_bytes location_length location_of (λ l. refl) location_read locations (bytes_of body_bytes scenes)

  pub book_length : length (book_bytes scenes) ≡ 1 + location_length * length scenes + length (bytes_of body_bytes scenes)
  unfolding book_bytes
  book_length = length-append front (bytes_of body_bytes scenes) ∙ ap (λ (n : ℕ). n + length (bytes_of body_bytes scenes)) front_length

  -- its scenes are the ones that were written
  pub scenes_read : scenes_of (book_bytes scenes) ≡ scenes
  unfolding book_bytes scenes_of
  scenes_read =
      ap (map (scene_at (book_bytes scenes))) locations_read
      ∙ bodies_read (book_bytes scenes) start scenes (drop_at front (bytes_of body_bytes scenes) start front_length)

  -- scene k; past the last one both sides are empty
  pub scene_read : (k : ℕ) → scene_of (book_bytes scenes) k ≡ get_or scenes k []
  scene_read k = scene_of_lem (book_bytes scenes) k ∙ ap (λ (ss : List (List Step)). get_or ss k []) scenes_read

  module _ (w : WritableScenes scenes) where
    -- the book is well formed, consists of bytes, and is not longer than the longest book
    pub book_ok_lem : book_ok (book_bytes scenes) ≡ true
    unfolding book_ok
    book_ok_lem =
        let n = length (book_bytes scenes) in
        let l : n ≡ start + length (bytes_of body_bytes scenes) = book_length in
        rw (locations_read, count_read)
        (both (both (both (le-leb 1 n (omega arith)) (le-leb (length scenes) scenes_max w.0)) (le-leb start n (omega arith)))
        (chained_from start n scenes w.1 (sym l)))

    pub book_max : length (book_bytes scenes) ≤ 1 + scenes_max * (location_length + step_length * steps_max)
    book_max = omega (arith, book_length, w.0, bodies_max scenes w.1)

    pub book_bytes_lem : Bytes (book_bytes scenes)
    unfolding book_bytes
    book_bytes_lem =
        bytes_append front (bytes_of body_bytes scenes)
        (bytes_cons (length scenes) (bytes_of location_bytes locations) (omega (arith, w.0))
        (bytes_of_bytes location_bytes locations (locations_bytes start scenes w.1 (omega (arith, book_length, book_max)))))
        (bytes_of_bytes body_bytes scenes (all_weaken WritableScene (λ steps. Bytes (body_bytes steps)) (λ steps x. bytes_of_bytes step_bytes steps x.1) scenes w.1))

-- ---- a book, read, then written

-- bodies that leave no gap are where their scenes would be written
locations_written : (b : List ℕ) (start : ℕ) (ls : List SceneLocation) (end : ℕ) → chained start ls end ≡ true
    → locations_from start (map (scene_at b) ls) ≡ ls
locations_written b start [] end e = refl
locations_written b start (l ∷ ls) end e =
    let f = chained_first start l ls end e in
    rw (steps_length l.steps (drop l.offset b), locations_written b (start + step_length * l.steps) ls end f.2)
    (ap (λ (o : ℕ). record { offset = o; steps = l.steps } ∷ ls) (sym f.0))

-- and their bytes are all bytes from the first body on
bodies_written : (b : List ℕ) (start : ℕ) (ls : List SceneLocation) → chained start ls (length b) ≡ true
    → bytes_of body_bytes (map (scene_at b) ls) ≡ drop start b
unfolding chained
bodies_written b start [] e = sym (drop_of_length-le b {i = start} (omega (arith, eqb-true start (length b) e)))
bodies_written b start (l ∷ ls) e =
    let f = chained_first start l ls (length b) e in
    let n = step_length * l.steps in
    let within : n ≤ length (drop start b) = rw (length-drop start b) (omega (arith, chained_le (start + n) ls (length b) f.2)) in
    rw (f.0, body_written l.steps (drop start b) within, bodies_written b (start + n) ls f.2, ← (drop-drop n start b))
    (take-append-drop n (drop start b))

bodies_writable : (b : List ℕ) (start : ℕ) (ls : List SceneLocation) (end : ℕ) → Bytes b → chained start ls end ≡ true
    → All WritableScene (map (scene_at b) ls)
bodies_writable b start [] end h e = tt
bodies_writable b start (l ∷ ls) end h e =
    let f = chained_first start l ls end e in
    let body = drop l.offset b in (
      (rw (steps_length l.steps body) f.1, steps_bytes l.steps body (bytes_drop l.offset b h)),
      bodies_writable b (start + step_length * l.steps) ls end h f.2,
    )

module _ (b : List ℕ) (e : book_ok b ≡ true) (h : Bytes b) where
  abbrev size : ℕ
  size = location_length * scene_count b

  front_written : bytes_of location_bytes (scene_locations b) ≡ take size (drop 1 b)
  front_written =
      records_written location_bytes location_length location_of (scene_count b) (drop 1 b)
      (λ i l. location_written (drop (location_length * i) (drop 1 b)) (bytes_drop (location_length * i) (drop 1 b) (bytes_drop 1 b h))
      (rw (length-drop (location_length * i) (drop 1 b), length-drop 1 b) (omega (arith, (book_facts b e).2))))

  -- the scenes of the book can be written
  pub scenes_writable : WritableScenes (scenes_of b)
  unfolding scenes_of
  scenes_writable = (
    omega (arith, scenes_count b, (book_facts b e).1),
    bodies_writable b (1 + size) (scene_locations b) (length b) h (book_chained b e),
  )

  -- and give the book again: a well-formed book has nothing between its bodies and nothing after the last
  pub book_written : book_bytes (scenes_of b) ≡ b
  unfolding book_bytes scenes_of
  book_written =
      let c = book_chained b e in
      let ls = scene_locations b in
      ap (λ (n : ℕ). n ∷ (bytes_of location_bytes (locations_from (1 + location_length * n) (scenes_of b)) ++ bytes_of body_bytes (scenes_of b))) (scenes_count b)
      ∙ rw (locations_written b (1 + size) ls (length b) c, front_written, bodies_written b (1 + size) ls c, ← (drop-drop size 1 b), take-append-drop size (drop 1 b))
      (sym (drop-cons b 0 0 (book_facts b e).0))
