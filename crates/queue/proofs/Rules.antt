-- Laws of the send queue: the rule for a place and for the queue, as tests and as facts.
use Prim.Native.Nat.{ℕ, zero, suc, ◌+◌, ◌-◌, ◌≤◌, ◌<◌}
use mathlib.Core.Path.{◌≡◌, refl, sym, ap, ap₂, ◌∙◌}
use mathlib.Core.Bool.{Bool, true, cond, ◌&&◌}
use mathlib.Core.List.{List, [], ◌∷◌, ◌++◌}
use native.Mathlib.Omega.{arith}
use lib.ListN.{length, get_or, take, drop, replicate, length-drop, take-append-drop, get_or-replicate}
use lib.Seq.{drop_at, length-take-le}
use lib.Dec.{eqb, ltb, leb}
use borrow.Author.Tests.{eqb-true, eq-eqb, leb-true, le-leb, ltb-true, ltb-false, lt-ltb, le-ltb}
use Rattle.dpa.specs.Frame.{longest_frame, frame_fits}
use Rattle.dpa.specs.Settings.{address_ok}
use Rattle.dpa.proofs.Bool.{and_left, and_right, both, by_cond, by_test, all_below_intro, all_below_elim}
use Rattle.dpa.proofs.Headers.{fits_sizes}
use Rattle.timing.specs.Slot.{wait_max}
use Rattle.queue.specs.declared.record.Waiting.{Waiting}
use Rattle.queue.specs.declared.record.SendQueue.{SendQueue}
use Rattle.queue.specs.Queue.{nadr_of, queue_size, time_max, padded, empty_place, all_zero, widths_ok, waiting_ok, empty_ok, place_ok, places_ok, queue_ok, WaitingRule, QueueRule, new_queue}

-- ---- zeros

-- a list that passes the test for zeros is a row of zeros
pub zeros_facts : (xs : List ℕ) (n : ℕ) → all_zero xs ≡ true → length xs ≡ n → xs ≡ replicate n 0
unfolding all_zero
zeros_facts [] zero e l = refl
zeros_facts [] (suc n) e l = absurd (omega arith)
zeros_facts (x ∷ xs) zero e l = absurd (omega arith)
zeros_facts (x ∷ xs) (suc n) e l =
    ap₂ (λ (y : ℕ) (ys : List ℕ). y ∷ ys) (eqb-true x 0 (and_left _ (all_zero xs) e)) (zeros_facts xs n (and_right (eqb x 0) _ e) (omega arith))

-- a row of zeros passes the test
pub zeros_test : (n : ℕ) → all_zero (replicate n 0) ≡ true
unfolding all_zero
zeros_test zero = refl
zeros_test (suc n) = zeros_test n

-- and so does every tail of it
pub zeros_drop : (n : ℕ) (xs : List ℕ) → all_zero xs ≡ true → all_zero (drop n xs) ≡ true
unfolding all_zero
zeros_drop zero xs e = e
zeros_drop (suc n) [] e = e
zeros_drop (suc n) (x ∷ xs) e = zeros_drop n xs (and_right (eqb x 0) _ e)

-- ---- a place

-- the widths as facts
module _ (w : Waiting) (e : widths_ok w ≡ true) where
  first_three : (eqb (length w.frame) longest_frame && ltb w.hops 256 && ltb w.response_hops 256) ≡ true
  unfolding widths_ok
  first_three = and_left _ (ltb w.delay 65536) e

  first_two : (eqb (length w.frame) longest_frame && ltb w.hops 256) ≡ true
  first_two = and_left _ (ltb w.response_hops 256) first_three

  frame_size : length w.frame ≡ longest_frame
  frame_size = eqb-true _ _ (and_left _ (ltb w.hops 256) first_two)

  hops_width : w.hops < 256
  hops_width = ltb-true _ _ (and_right (eqb (length w.frame) longest_frame) _ first_two)

  response_width : w.response_hops < 256
  response_width = ltb-true _ _ (and_right (eqb (length w.frame) longest_frame && ltb w.hops 256) _ first_three)

  delay_width : w.delay < 65536
  unfolding widths_ok
  delay_width = ltb-true _ _ (and_right (eqb (length w.frame) longest_frame && ltb w.hops 256 && ltb w.response_hops 256) _ e)

-- 62 zeros, the frame of an empty place
abbrev zero_frame : List ℕ
zero_frame = replicate longest_frame 0

zero_rest : (n : ℕ) → all_zero (drop n zero_frame) ≡ true
zero_rest n = zeros_drop n zero_frame (zeros_test longest_frame)

-- 62 bytes with zeros after the first n are the first n, padded
padded_front : (n : ℕ) (xs : List ℕ) → length xs ≡ longest_frame → n ≤ longest_frame → all_zero (drop n xs) ≡ true → xs ≡ padded (take n xs)
padded_front n xs l h z =
    let t : length (take n xs) ≡ n = length-take-le n xs (omega arith) in
    let s : length (drop n zero_frame) ≡ length (drop n xs) = length-drop n zero_frame ∙ sym (length-drop n xs ∙ ap (λ (k : ℕ). k - n) l) in
    let q : drop n xs ≡ drop n zero_frame =
    zeros_facts (drop n xs) (length (drop n xs)) z refl ∙ sym (zeros_facts (drop n zero_frame) (length (drop n xs)) (zero_rest n) s) in
    sym (take-append-drop n xs) ∙ ap (λ (ys : List ℕ). take n xs ++ ys) (q ∙ ap (λ (k : ℕ). drop k zero_frame) (sym t))

module _ (w : Waiting) (e : widths_ok w ≡ true) (f : waiting_ok w ≡ true) where
  first_tests : (frame_fits w.length && address_ok (nadr_of w.frame)) ≡ true
  unfolding waiting_ok
  first_tests = and_left _ (all_zero (drop w.length w.frame)) f

  zero_tail : all_zero (drop w.length w.frame) ≡ true
  unfolding waiting_ok
  zero_tail = and_right (frame_fits w.length && address_ok (nadr_of w.frame)) _ f

  length_fits : frame_fits w.length ≡ true
  length_fits = and_left _ (address_ok (nadr_of w.frame)) first_tests

  -- a place that passes the tests for a request follows the rule
  pub place_facts : WaitingRule w
  place_facts =
      let s = frame_size w e in
      let m : w.length ≤ longest_frame = (fits_sizes w.length length_fits).1 in
      let l : w.length ≡ length (take w.length w.frame) = sym (length-take-le w.length w.frame (omega arith)) in
      let p : w.frame ≡ padded (take w.length w.frame) = padded_front w.length w.frame s m zero_tail in
      record {
        place = λ i.
            record {
              delay = w.delay;
              length = l i;
              hops = w.hops;
              response_hops = w.response_hops;
              frame = p i;
            };
        size = s;
        hops_width = hops_width w e;
        response_width = response_width w e;
        delay_width = delay_width w e;
        fits = length_fits;
        address = and_right (frame_fits w.length) _ first_tests;
      }

-- a place that follows the rule passes the tests
pub place_test : (w : Waiting) → WaitingRule w → (widths_ok w ≡ true) × (waiting_ok w ≡ true)
unfolding widths_ok waiting_ok
place_test w r =
    let m : w.length ≤ longest_frame = (fits_sizes w.length r.fits).1 in
    let l : length (take w.length w.frame) ≡ w.length = length-take-le w.length w.frame (omega (arith, r.size)) in
    let n = length (take w.length w.frame) in
    let t : drop w.length w.frame ≡ drop n zero_frame =
    ap (λ (x : Waiting). drop w.length x.frame) r.place ∙ drop_at (take w.length w.frame) (drop n zero_frame) w.length l in (
      both (both (both (eq-eqb _ _ r.size) (lt-ltb _ _ r.hops_width)) (lt-ltb _ _ r.response_width)) (lt-ltb _ _ r.delay_width),
      both (both r.fits r.address) (ap all_zero t ∙ zero_rest n),
    )

module _ (w : Waiting) (e : widths_ok w ≡ true) (f : empty_ok w ≡ true) where
  numbers_zero : (eqb w.length 0 && eqb w.delay 0 && eqb w.hops 0 && eqb w.response_hops 0) ≡ true
  unfolding empty_ok
  numbers_zero = and_left _ (all_zero w.frame) f

  three_zero : (eqb w.length 0 && eqb w.delay 0 && eqb w.hops 0) ≡ true
  three_zero = and_left _ (eqb w.response_hops 0) numbers_zero

  two_zero : (eqb w.length 0 && eqb w.delay 0) ≡ true
  two_zero = and_left _ (eqb w.hops 0) three_zero

  -- a place that passes the tests for an empty one is all zero
  pub empty_facts : w ≡ empty_place
  unfolding empty_ok
  empty_facts =
      let l : w.length ≡ 0 = eqb-true _ _ (and_left _ (eqb w.delay 0) two_zero) in
      let d : w.delay ≡ 0 = eqb-true _ _ (and_right (eqb w.length 0) _ two_zero) in
      let h : w.hops ≡ 0 = eqb-true _ _ (and_right (eqb w.length 0 && eqb w.delay 0) _ three_zero) in
      let r : w.response_hops ≡ 0 = eqb-true _ _ (and_right (eqb w.length 0 && eqb w.delay 0 && eqb w.hops 0) _ numbers_zero) in
      let z : all_zero w.frame ≡ true =
      and_right (eqb w.length 0 && eqb w.delay 0 && eqb w.hops 0 && eqb w.response_hops 0) _ f in
      let b : w.frame ≡ replicate longest_frame 0 = zeros_facts w.frame longest_frame z (frame_size w e) in
      λ i. record { delay = d i; length = l i; hops = h i; response_hops = r i; frame = b i }

-- an empty place passes the tests
pub empty_test : (w : Waiting) → w ≡ empty_place → (widths_ok w ≡ true) × (empty_ok w ≡ true)
unfolding widths_ok empty_ok all_zero
empty_test w e = rw e (refl, refl)

-- ---- the rule for place k of a queue with this count

module _ (count k : ℕ) (w : Waiting) where
  module _ (e : place_ok count k w ≡ true) where
    widths : widths_ok w ≡ true
    unfolding place_ok
    widths = and_left _ (cond (ltb k count) (waiting_ok w) (empty_ok w)) e

    chosen : cond (ltb k count) (waiting_ok w) (empty_ok w) ≡ true
    unfolding place_ok
    chosen = and_right (widths_ok w) _ e

    -- a place below the count has a request
    pub below_facts : k < count → WaitingRule w
    below_facts h = place_facts w widths (sym (ap (λ (b : Bool). cond b (waiting_ok w) (empty_ok w)) (lt-ltb k count h)) ∙ chosen)

    -- a place from the count on is empty
    pub above_facts : count ≤ k → w ≡ empty_place
    above_facts h = empty_facts w widths (sym (ap (λ (b : Bool). cond b (waiting_ok w) (empty_ok w)) (le-ltb k count h)) ∙ chosen)

  -- a place that has a request below the count and is empty from there on passes the test
  pub place_fits : (k < count → WaitingRule w) → (count ≤ k → w ≡ empty_place) → place_ok count k w ≡ true
  unfolding place_ok
  place_fits f g =
      by_test (ltb k count)
      (λ t. let p = place_test w (f (ltb-true _ _ t)) in both p.0 (rw t p.1))
      (λ t. let p = empty_test w (g (ltb-false _ _ t)) in both p.0 (rw t p.1))

-- ---- the queue

module _ (q : SendQueue) (e : queue_ok q ≡ true) where
  first_four : (leb q.network 1 && leb q.count queue_size && places_ok q.count q.places && leb q.last time_max) ≡ true
  unfolding queue_ok
  first_four = and_left _ (leb q.next (q.last + wait_max)) e

  up_to_places : (leb q.network 1 && leb q.count queue_size && places_ok q.count q.places) ≡ true
  up_to_places = and_left _ (leb q.last time_max) first_four

  up_to_count : (leb q.network 1 && leb q.count queue_size) ≡ true
  up_to_count = and_left _ (places_ok q.count q.places) up_to_places

  places_ok_lem : places_ok q.count q.places ≡ true
  places_ok_lem = and_right (leb q.network 1 && leb q.count queue_size) _ up_to_places

  at_place : (k : ℕ) → k < queue_size → place_ok q.count k (get_or q.places k empty_place) ≡ true
  unfolding places_ok
  at_place = all_below_elim queue_size _ (and_right (eqb (length q.places) queue_size) _ places_ok_lem)

  -- a queue that passes the test follows the rule
  pub queue_facts : QueueRule q
  unfolding queue_ok places_ok
  queue_facts =
      let most : q.count ≤ queue_size = leb-true _ _ (and_right (leb q.network 1) _ up_to_count) in
      record {
        network_max = leb-true _ _ (and_left _ (leb q.count queue_size) up_to_count);
        count_max = most;
        size = eqb-true _ _ (and_left _ _ places_ok_lem);
        waiting = λ k h. below_facts q.count k _ (at_place k (omega arith)) h;
        empty = λ k h l. above_facts q.count k _ (at_place k l) h;
        last_max = leb-true _ _ (and_right (leb q.network 1 && leb q.count queue_size && places_ok q.count q.places) _ first_four);
        next_max = leb-true _ _
            (and_right (leb q.network 1 && leb q.count queue_size && places_ok q.count q.places && leb q.last time_max) _ e);
      }

-- a queue that follows the rule passes the test
pub queue_test : (q : SendQueue) → QueueRule q → queue_ok q ≡ true
unfolding queue_ok places_ok
queue_test q r =
    both (both (both (both (le-leb _ _ r.network_max) (le-leb _ _ r.count_max))
    (both (eq-eqb _ _ r.size)
    (all_below_intro queue_size _ (λ k l. place_fits q.count k (get_or q.places k empty_place) (r.waiting k) (λ h. r.empty k h l)))))
    (le-leb _ _ r.last_max)) (le-leb _ _ r.next_max)

-- a new queue follows the rule
pub new_rule : (lp : Bool) (dpa_value : ℕ) → QueueRule (new_queue lp dpa_value)
unfolding new_queue
new_rule lp dpa_value =
    record {
      network_max = by_cond (λ (n : ℕ). n ≤ 1) lp _ _ (λ e. omega arith) (λ e. omega arith);
      count_max = omega arith;
      size = refl;
      waiting = λ k h. absurd (omega arith);
      empty = λ k h l. get_or-replicate queue_size k empty_place empty_place l;
      last_max = omega arith;
      next_max = omega arith;
    }
