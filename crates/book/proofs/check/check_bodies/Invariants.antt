-- The loop: what the check says is what it says of the bodies from this scene on.
use mathlib.Core.Path.{◌≡◌}
use Prim.Native.Nat.{◌+◌, ◌*◌, ◌≤◌}
use lib.ListN.{length, drop}
use Rattle.book.specs.Book.{scenes_max, steps_max, location_length, step_length, scene_locations}
use Rattle.book.specs.Check.{check_bodies}
use Rattle.book.proofs.check.check_bodies.Given as goal

abbrev pub invariant-loop-scene : goal.invariant-loop-scene
invariant-loop-scene l =
    (l.start ≤ 1 + location_length * scenes_max + step_length * steps_max * l.scene)
    × (check_bodies 0 (1 + location_length * l.scenes) (scene_locations l.book) (length l.book) ≡ check_bodies l.scene l.start (drop l.scene (scene_locations l.book)) (length l.book))
