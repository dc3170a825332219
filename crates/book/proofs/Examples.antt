-- Books at the edges of the rule: what the check says about them, and what is written.
use mathlib.Core.List.{List, [], ◌∷◌, ◌++◌, map}
use mathlib.Core.Path.{◌≡◌, refl}
use Prim.Native.Nat.{ℕ, zero, suc, ◌*◌}
use lib.ListN.{replicate, drop}
use Rattle.book.specs.declared.step.Step.{Step}
use Rattle.book.specs.declared.check.BookFault.TheVariants.{Empty, Scenes, Locations, Start, Steps, End}
use Rattle.std.specs.Prelude.{Ok, Err}
use Rattle.book.specs.Book.{scene_of}
use Rattle.book.specs.Check.{check_bodies, check_book}
use Rattle.book.specs.Write.{book_bytes}
use Rattle.book.specs.Examples.{book}
use Rattle.book.proofs.Positions.{zero_step}

-- a book of one scene with n steps of zeros
abbrev one_scene : ℕ → List ℕ
one_scene n = 1 ∷ 4 ∷ 0 ∷ n ∷ replicate (4 * n) 0

-- n locations of scenes without steps, which start at byte 49: where 16 locations end
abbrev empty_scenes : ℕ → List ℕ
empty_scenes zero = []
empty_scenes (suc n) = 49 ∷ 0 ∷ 0 ∷ empty_scenes n

-- two scenes with two steps of zeros in all, one of them in the first, which ends at byte 11; the second is said to start at byte
-- `second` and to have this number of steps
abbrev two_scenes : (second steps : ℕ) → List ℕ
two_scenes second steps = 2 ∷ 7 ∷ 0 ∷ 1 ∷ second ∷ 0 ∷ steps ∷ replicate 8 0

-- the steps of document 01's book: lamp 0 to 10, lamp 2 to 100 for two minutes
abbrev steps : List Step
steps = record { kind = 0; target = 0; value = 10; time = 0 } ∷ record { kind = 0; target = 2; value = 100; time = 2 } ∷ []

-- the book, read and written
pub papers_book : check_book book ≡ Ok tt
unfolding check_bodies check_book
papers_book = refl

pub papers_steps : scene_of book 0 ≡ record { kind = 0; target = 0; value = 10; time = 0 } ∷ record { kind = 0; target = 2; value = 100; time = 2 } ∷ []
unfolding scene_of
papers_steps = refl

pub papers_bytes : book_bytes (steps ∷ []) ≡ book
unfolding book_bytes
papers_bytes = refl

-- no byte; no scene, and a byte after the count; 16 scenes and 17; a location that is cut off
pub count_edges :
    map check_book ([] ∷ (0 ∷ []) ∷ (0 ∷ 0 ∷ []) ∷ (16 ∷ empty_scenes 16) ∷ (17 ∷ empty_scenes 17) ∷ (1 ∷ 4 ∷ 0 ∷ []) ∷ [])
    ≡ Err Empty ∷ Ok tt ∷ Err (End 1) ∷ Ok tt ∷ Err (Scenes 17) ∷ Err (Locations 4) ∷ []
unfolding check_bodies check_book
count_edges = refl

-- 64 steps and 65
pub steps_edges : map check_book (one_scene 64 ∷ one_scene 65 ∷ []) ≡ Ok tt ∷ Err (Steps 0 65) ∷ []
unfolding check_bodies check_book
steps_edges = refl

-- the second body starts where the first ends, or later, which is found before its number of steps; too many steps; too few
pub body_edges :
    map check_book (two_scenes 11 1 ∷ two_scenes 12 65 ∷ two_scenes 11 65 ∷ two_scenes 11 0 ∷ [])
    ≡ Ok tt ∷ Err (Start 1 12 11) ∷ Err (Steps 1 65) ∷ Err (End 11) ∷ []
unfolding check_bodies check_book
body_edges = refl

-- n steps of zeros
abbrev zero_steps : ℕ → List Step
zero_steps n = replicate n zero_step

-- no scene; 16 without steps; 64 steps; a step each; an empty scene between others, and an offset over 255: 10 + 4 * 64
pub written_edges :
    map book_bytes ([] ∷ replicate 16 [] ∷ (zero_steps 64 ∷ []) ∷ (zero_steps 1 ∷ zero_steps 1 ∷ []) ∷ (zero_steps 64 ∷ [] ∷ steps ∷ []) ∷ [])
    ≡ (0 ∷ []) ∷ (16 ∷ empty_scenes 16) ∷ one_scene 64 ∷ two_scenes 11 1
    ∷ ((3 ∷ 10 ∷ 0 ∷ 64 ∷ 10 ∷ 1 ∷ 0 ∷ 10 ∷ 1 ∷ 2 ∷ replicate 256 0) ++ drop 4 book) ∷ []
unfolding book_bytes
written_edges = refl
