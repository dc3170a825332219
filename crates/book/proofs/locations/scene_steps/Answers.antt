-- The location of a scene of a well-formed book says where its steps are.
use mathlib.Core.Path.{sym, ap, ◌∙◌}
use Prim.Native.Nat.{◌+◌, ◌*◌, ◌≤◌}
use native.Mathlib.Omega.{arith}
use lib.ListN.{length, drop, length-drop}
use Rattle.dpa.proofs.Lists.{slice_to_end}
use Rattle.book.specs.declared.locations.SceneLocation.{SceneLocation}
use Rattle.book.specs.Book.{steps_max, step_length, steps_in}
use Rattle.book.proofs.Books.{book_facts, body_within, scene_at_lem}
use Rattle.book.proofs.locations.scene_steps.Goals as goal
use Rattle.book.proofs.locations.scene_steps.Goals.{After-scene_location-offset}

inside : (c : After-scene_location-offset) → let n = c.scene_location-offset.result in (n.offset + step_length * n.steps ≤ length c.args.book.now) × (n.steps ≤ steps_max)
inside c = rw c.scene_location-offset.ensures.0 (body_within c.args.book.now c.args.scene c.requires.0 c.requires.1)

pub scene_location-offset-requires : goal.scene_location-offset-requires
scene_location-offset-requires c = omega (arith, book_facts _ c.requires.0)

pub slice_bounds-result-count : goal.slice_bounds-result-count
slice_bounds-result-count c = omega (arith, inside (goal.at.slice_bounds-result-count c).After-scene_location-offset)

pub slice_bounds-result-start : goal.slice_bounds-result-start
slice_bounds-result-start c = omega (arith, inside (goal.at.slice_bounds-result-start c).After-scene_location-offset)

pub invariant_of-result : goal.invariant_of-result
invariant_of-result c =
    let i = inside (goal.at.invariant_of-result c).After-scene_location-offset in
    let b = c.args.book.now in
    let start = c.scene_location-offset.result.offset in
    record { fits = rw (slice_to_end start b) (omega (arith, i.0, length-drop start b)); few = i.1 }

pub returns : goal.returns
returns c =
    let b = c.args.book.now in
    let x = c.scene_location-offset in
    rw (slice_to_end x.result.offset b)
    (ap (λ (l : SceneLocation). steps_in l.steps (drop l.offset b)) x.ensures.0 ∙ sym (scene_at_lem b c.args.scene c.requires.1))
