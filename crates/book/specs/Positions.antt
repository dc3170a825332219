-- Where scene locations and steps are in the bytes.
use Rattle.std.specs.Prelude.{List, ℕ, ◌+◌, ◌*◌, drop}
use Rattle.book.specs.declared.locations.SceneLocation.{SceneLocation}
use Rattle.book.specs.declared.step.Step.{Step}
use Rattle.book.specs.Book.{location_length, step_length, location_of, step_of}

-- the location of scene i in a book, whose first byte is the number of scenes
abbrev pub location_at : List ℕ → ℕ → SceneLocation
location_at b i = location_of (drop (location_length * i + 1) b)

-- step i of a scene's body
abbrev pub step_at : List ℕ → ℕ → Step
step_at body i = step_of (drop (step_length * i) body)
