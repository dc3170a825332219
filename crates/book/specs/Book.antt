-- Document 01, "Scenes": the book, and the steps of one of its scenes.
use Rattle.std.specs.Prelude.{Bool, ◌&&◌, List, [], ◌∷◌, map, ℕ, ◌+◌, ◌*◌, leb, eqb, length, get_or, drop}
use Rattle.dpa.specs.Number.{word_at}
use Rattle.book.specs.declared.locations.SceneLocation.{SceneLocation}
use Rattle.book.specs.declared.step.Step.{Step}
use Rattle.book.specs.Records.{records}

-- the most scenes of a book, and the most steps of a scene
abbrev pub scenes_max : ℕ
scenes_max = 16

abbrev pub steps_max : ℕ
steps_max = 64

-- the bytes of a scene location (the paper's contents entry), and of a step
abbrev pub location_length : ℕ
location_length = 3

abbrev pub step_length : ℕ
step_length = 4

-- the location and the step at the front of bytes
abbrev pub location_of : List ℕ → SceneLocation
location_of bs = record { offset = word_at bs 0; steps = get_or bs 2 0 }

abbrev pub step_of : List ℕ → Step
step_of bs = record { kind = get_or bs 0 0; target = get_or bs 1 0; value = get_or bs 2 0; time = get_or bs 3 0 }

-- the number of scenes, and their locations
abbrev pub scene_count : List ℕ → ℕ
scene_count b = get_or b 0 0

abbrev pub scene_locations : List ℕ → List SceneLocation
scene_locations b = records location_length location_of (scene_count b) (drop 1 b)

-- the first body starts at `start`, each next one where the previous one ends, the last ends at `end`; none has too many steps
unfoldable pub chained : (start : ℕ) → List SceneLocation → (end : ℕ) → Bool
chained start [] end = eqb start end
chained start (l ∷ ls) end = (eqb l.offset start && leb l.steps steps_max) && chained (start + step_length * l.steps) ls end

-- not too many scenes, all locations are in the book, and the bodies fill the rest of it
unfoldable pub book_ok : List ℕ → Bool
book_ok b =
    leb 1 (length b) && leb (scene_count b) scenes_max && leb (1 + location_length * scene_count b) (length b)
    && chained (1 + location_length * scene_count b) (scene_locations b) (length b)

-- n steps
abbrev pub steps_in : ℕ → List ℕ → List Step
steps_in n bs = records step_length step_of n bs

-- the steps at a location
abbrev pub scene_at : List ℕ → SceneLocation → List Step
scene_at b l = steps_in l.steps (drop l.offset b)

-- the steps of scene k, and of every scene
unfoldable pub scene_of : List ℕ → ℕ → List Step
scene_of b k = let l = get_or (scene_locations b) k (location_of []) in steps_in l.steps (drop l.offset b)

unfoldable pub scenes_of : List ℕ → List (List Step)
scenes_of b = map (scene_at b) (scene_locations b)
