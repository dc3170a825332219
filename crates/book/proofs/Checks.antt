-- The check of a book: the loop over the bodies, and that the check is sound exactly if the book is well formed.
use mathlib.Core.Bool.{true, false, cond}
use mathlib.Core.List.{List, [], ◌∷◌}
use mathlib.Core.Path.{◌≡◌, sym, ap, ◌∙◌}
use Prim.Native.Nat.{ℕ, suc, ◌+◌, ◌*◌, ◌≤◌, ◌<◌}
use native.Mathlib.Numerals.{add-one}
use native.Mathlib.Omega.{arith}
use lib.Dec.{ltb, eqb}
use lib.ListN.{length, drop}
use borrow.Author.Tests.{le-leb, lt-leb, le-ltb, ltb-true, ltb-false, eq-eqb}
use Rattle.dpa.proofs.Bool.{by_test}
use Rattle.book.specs.declared.locations.SceneLocation.{SceneLocation}
use Rattle.book.specs.declared.check.BookFault.{BookFault}
use Rattle.std.specs.Prelude.{Ok, Err}
use Rattle.book.specs.Book.{scenes_max, steps_max, location_length, step_length, scene_count, scene_locations, chained, book_ok}
use Rattle.book.specs.Positions.{location_at}
use Rattle.book.specs.Check.{check_bodies, check_book, book_refusal}
use Rattle.book.proofs.Books.{location_next}

-- ---- the loop: a body that fits is followed by the next
pub bodies_next : (b : List ℕ) (k start end : ℕ) → k < scene_count b → (location_at b k).offset ≡ start → (location_at b k).steps ≤ steps_max
    → check_bodies k start (drop k (scene_locations b)) end
    ≡ check_bodies (k + 1) (start + step_length * (location_at b k).steps) (drop (k + 1) (scene_locations b)) end
unfolding check_bodies
bodies_next b k start end h p q = rw (add-one k, location_next b k h, eq-eqb _ start p, le-ltb steps_max _ q)

-- ---- refusal 6 is given exactly to a book that is not well formed

bodies_exact : (k start : ℕ) (ls : List SceneLocation) (end : ℕ) → book_refusal (check_bodies k start ls end) ≡ cond (chained start ls end) 0 6
unfolding check_bodies chained
bodies_exact k start [] end = by_test (eqb start end) (λ e. rw e) (λ e. rw e)
bodies_exact k start (l ∷ ls) end =
    by_test (eqb l.offset start)
    (λ p. by_test (ltb steps_max l.steps)
    (λ q. rw (p, q, lt-leb l.steps steps_max (ltb-true _ _ q)))
    (λ q. rw (p, q, le-leb l.steps steps_max (ltb-false _ _ q)) (bodies_exact (suc k) (start + step_length * l.steps) ls end)))
    (λ p. rw p)

pub check_exact : (b : List ℕ) → book_refusal (check_book b) ≡ cond (book_ok b) 0 6
unfolding check_book book_ok
check_exact b =
    let end = 1 + location_length * scene_count b in
    by_test (ltb (length b) 1)
    (λ p. rw (p, lt-leb 1 (length b) (ltb-true _ _ p)))
    (λ p. by_test (ltb scenes_max (scene_count b))
    (λ q. rw (p, q, le-leb 1 (length b) (ltb-false _ _ p), lt-leb (scene_count b) scenes_max (ltb-true _ _ q)))
    (λ q. by_test (ltb (length b) end)
    (λ r. rw (p, q, r, le-leb 1 (length b) (ltb-false _ _ p), le-leb (scene_count b) scenes_max (ltb-false _ _ q), lt-leb end (length b) (ltb-true _ _ r)))
    (λ r. rw (p, q, r, le-leb 1 (length b) (ltb-false _ _ p), le-leb (scene_count b) scenes_max (ltb-false _ _ q), le-leb end (length b) (ltb-false _ _ r))
    (bodies_exact 0 end (scene_locations b) (length b)))))

-- the check in each case
pub sound_book : (b : List ℕ) → check_book b ≡ Ok tt → book_ok b ≡ true
sound_book b e = by_test (book_ok b) (λ t. t) (λ f. absurd (let z : ◌≡◌ {A = ℕ} 0 6 = ap book_refusal (sym e) ∙ check_exact b ∙ rw f in omega arith))

pub bad_book : (b : List ℕ) (fault : BookFault) → check_book b ≡ Err fault → book_ok b ≡ false
bad_book b fault e = by_test (book_ok b) (λ t. absurd (let z : ◌≡◌ {A = ℕ} 6 0 = ap book_refusal (sym e) ∙ check_exact b ∙ rw t in omega arith)) (λ f. f)
