-- Document 01, "Scenes": the bytes of a step, of a body, and of a book of scenes.
use Rattle.std.specs.Prelude.{List, [], ◌∷◌, ◌++◌, ℕ, ◌+◌, ◌*◌, ◌≤◌, length}
use Rattle.dpa.specs.Lists.{Bytes, All}
use Rattle.dpa.specs.Number.{low, high}
use Rattle.book.specs.declared.locations.SceneLocation.{SceneLocation}
use Rattle.book.specs.declared.step.Step.{Step}
use Rattle.book.specs.Book.{scenes_max, steps_max, location_length, step_length}
use Rattle.book.specs.Records.{bytes_of}

-- the bytes of a step, and of a body
abbrev pub step_bytes : Step → List ℕ
step_bytes s = s.kind ∷ s.target ∷ s.value ∷ s.time ∷ []

abbrev pub body_bytes : List Step → List ℕ
body_bytes steps = bytes_of step_bytes steps

-- the bytes of a scene location
abbrev pub location_bytes : SceneLocation → List ℕ
location_bytes l = low l.offset ∷ high l.offset ∷ l.steps ∷ []

-- the locations of scenes: the first body starts at `start`, each next one where the previous one ends
abbrev pub locations_from : (start : ℕ) → List (List Step) → List SceneLocation
locations_from start [] = []
locations_from start (steps ∷ scenes) = record { offset = start; steps = length steps } ∷ locations_from (start + step_length * length steps) scenes

-- the number of scenes, their locations, their bodies
unfoldable pub book_bytes : List (List Step) → List ℕ
book_bytes scenes =
    length scenes ∷ (bytes_of location_bytes (locations_from (1 + location_length * length scenes) scenes) ++ bytes_of body_bytes scenes)

-- a scene and scenes that a book can hold. `scenes_writable` and `book_written` (proofs/RoundTrip): every well-formed book of bytes is
-- the bytes of such scenes
abbrev pub WritableScene : List Step → Type 0
WritableScene steps = (length steps ≤ steps_max) × All (λ s. Bytes (step_bytes s)) steps

abbrev pub WritableScenes : List (List Step) → Type 0
WritableScenes scenes = (length scenes ≤ scenes_max) × All WritableScene scenes
