-- Laws of the tests of places: bytes that are all 0, a place with a request, a place without.
use mathlib.Core.Path.{◌≡◌, refl, sym, ap, ◌∙◌}
use mathlib.Core.Bool.{Bool, true, false, ◌&&◌, true≢false}
use mathlib.Core.List.{List, [], ◌∷◌}
use Prim.Native.Nat.{ℕ, min, ◌-◌, ◌≤◌, ◌<◌}
use native.Mathlib.Nat.{zero-add}
use native.Mathlib.Omega.{arith}
use lib.ListN.{length, get_or, drop, length-drop}
use lib.Dec.{eqb}
use borrow.Author.Tests.{eqb-true, eq-eqb, lt-ltb, le-ltb}
use borrow.Rule.Slice.PartMut.{mid_of}
use Rattle.std.specs.Bool.{MatchBool}
use Rattle.std.specs.List.{AllWithin, HoldsAt, fold, enumerate_from}
use Rattle.std.proofs.lemmas.List.{take_all, drop_min}
use Rattle.std.proofs.lemmas.List.FromFn.{length-enumerate_from, get_or-enumerate_from}
use Rattle.dpa.specs.Frame.{longest_frame, frame_fits}
use Rattle.dpa.specs.Settings.{address_ok}
use Rattle.dpa.proofs.Bool.{both, and_right_false, never_true, by_test, all_below_intro, all_below_elim}
use Rattle.queue.specs.declared.record.Waiting.{Waiting}
use Rattle.queue.specs.Queue.{queue_size, empty_place, nadr_of, all_zero, widths_ok, waiting_ok, empty_ok, place_ok, places_ok}

-- a fold over the bytes tests them all
pub zeros_folded : (ok : Bool) (s : List ℕ) → fold (λ a x. a && eqb x 0) ok s ≡ (ok && all_zero s)
unfolding all_zero
zeros_folded true [] = refl
zeros_folded false [] = refl
zeros_folded true (x ∷ xs) = zeros_folded (eqb x 0) xs
zeros_folded false (x ∷ xs) = zeros_folded false xs

-- the widths that the types give
pub widths_given : (w : Waiting) → length w.frame ≡ longest_frame → w.hops < 256 → w.response_hops < 256 → w.delay < 65536 → widths_ok w ≡ true
unfolding widths_ok
widths_given w size hops back delay =
    both (both (both (eq-eqb _ _ size) (lt-ltb w.hops 256 hops)) (lt-ltb w.response_hops 256 back)) (lt-ltb w.delay 65536 delay)

-- the bytes from a place on, as the code reads them
pub rest_read : (xs : List ℕ) (n m : ℕ) → length xs ≡ longest_frame → m ≡ min n longest_frame → mid_of m (longest_frame - m) xs ≡ drop n xs
rest_read xs n m size e =
    let l : length (drop m xs) ≤ longest_frame - m = omega (arith, length-drop m xs) in
    take_all (longest_frame - m) (drop m xs) l ∙ ap (λ (j : ℕ). drop j xs) (e ∙ ap (min n) (sym size)) ∙ drop_min n xs

module _ (count k : ℕ) (w : Waiting) (e : widths_ok w ≡ true) (z : Bool) (ez : z ≡ all_zero (drop w.length w.frame)) where
  -- the test of a place with a request
  pub filled_tested : (a b : Bool) → k < count → a ≡ frame_fits w.length → b ≡ address_ok (nadr_of w.frame) → (a && b && z) ≡ place_ok count k w
  unfolding place_ok waiting_ok
  filled_tested a b h ea eb = rw (e, lt-ltb k count h, ea, eb, ez)

  -- the test of a place without one
  pub empty_tested : (n : ℕ) → count ≤ k → n ≡ w.length → (eqb n 0 && eqb w.delay 0 && eqb w.hops 0 && eqb w.response_hops 0 && z) ≡ place_ok count k w
  unfolding place_ok empty_ok
  empty_tested n h en =
      by_test (eqb w.length 0)
      (λ y. let l : w.length ≡ 0 = eqb-true _ _ y in
      let d : all_zero (drop w.length w.frame) ≡ all_zero w.frame = ap (λ (m : ℕ). all_zero (drop m w.frame)) l in
      rw (e, le-ltb k count h, en, ez, d))
      (λ y. rw (e, le-ltb k count h, en, y))

-- the test of a place with its number
abbrev pub place_at : ℕ → ℕ × Waiting → Bool
place_at count p = place_ok count p.0 p.1

-- place k is tested with its number
numbered : (count : ℕ) (ps : List Waiting) (k : ℕ) → k < length ps
    → place_at count (get_or (enumerate_from 0 ps) k (0, empty_place)) ≡ place_ok count k (get_or ps k empty_place)
numbered count ps k l =
    ap (place_at count) (get_or-enumerate_from 0 ps k (0, empty_place) l) ∙ ap (λ (j : ℕ). place_ok count j (get_or ps k empty_place)) (zero-add k)

-- the tests of all places decide
pub places_exact : (count : ℕ) (ps : List Waiting) (r : Bool) → length ps ≡ queue_size
    → MatchBool r (AllWithin (λ p. place_at count p ≡ true) (enumerate_from 0 ps) 0 (length (enumerate_from 0 ps)))
    ((k : ℕ) × (k < length (enumerate_from 0 ps)) × HoldsAt (λ p. place_at count p ≡ false) (enumerate_from 0 ps) k) → r ≡ places_ok count ps
unfolding places_ok
places_exact count ps true size h =
    sym (both (eq-eqb _ _ size)
    (all_below_intro queue_size _
    (λ k l. sym (numbered count ps k (omega (arith, size))) ∙ h k (0, empty_place) (omega arith) (omega (arith, size, length-enumerate_from 0 ps)))))
places_exact count ps false size h =
    sym (and_right_false (eqb (length ps) queue_size) _
    (never_true _
    (λ t. let l : h.0 < length ps = omega (arith, h.1, length-enumerate_from 0 ps) in
    true≢false (sym (all_below_elim queue_size _ t h.0 (omega (arith, size))) ∙ sym (numbered count ps h.0 l) ∙ h.2 (0, empty_place)))))
