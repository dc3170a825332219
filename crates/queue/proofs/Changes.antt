-- Laws of what a send and a release change: the requests that wait, in order, and that the queue rule is kept.
use Prim.Native.Nat.{ℕ, zero, suc, ◌+◌, ◌-◌, ◌*◌, ◌≤◌, ◌<◌}
use mathlib.Core.Path.{◌≡◌, refl, sym, ap, ap₂, subst, ◌∙◌}
use mathlib.Core.Bool.{Bool, true}
use mathlib.Core.List.{List, [], ◌∷◌, ◌++◌, map, map-append}
use native.Mathlib.Omega.{arith}
use native.Mathlib.Numerals.{add-one}
use lib.ListN.{length, get_or, take, drop, set, replicate, length-append, length-drop, length-set, length-map, get_or-append, get_or-eq_default}
use lib.Seq.{take-append_seam, take-append-le, take-suc-set, length-take-le, get_or-take, get_or-set_same, get_or-set_other}
use lib.Dec.{eqb, ltb, leb}
use borrow.Author.Tests.{eqb-true, eqb-false, ltb-true, ltb-false, le-ltb, leb-true}
use Rattle.std.specs.Prelude.{Result, Ok, Err, IsOk}
use Rattle.dpa.specs.Answer.{LengthResult, length_answer, length_result, result_in_buffer}
use Rattle.dpa.specs.Refusal.{refusal_number}
use Rattle.dpa.specs.declared.refusal.Refusal.{Refusal}
use Rattle.dpa.specs.Frame.{header_size, longest_frame, longest_response, pdata_max, pdata_of, frame_fits}
use Rattle.dpa.specs.Settings.{address_ok}
use Rattle.dpa.proofs.Bool.{and_left, and_right, by_test}
use Rattle.dpa.proofs.Headers.{fits_sizes}
use Rattle.timing.specs.declared.slot.Network.{Network}
use Rattle.timing.specs.Confirm.{confirm_of}
use Rattle.timing.specs.declared.slot.SendAnswer.{SendAnswer}
use Rattle.timing.specs.Slot.{wait_max, send_answer, send_answer_of, send_of}
use Rattle.timing.proofs.Confirmations as Confirmations
use Rattle.timing.proofs.Slots.{earliest_max}
use Rattle.queue.specs.declared.record.Waiting.{Waiting}
use Rattle.queue.specs.declared.record.SendQueue.{SendQueue}
use Rattle.queue.specs.Queue.{Outgoing, outgoing, nadr_of, is_broadcast, wait_after, confirmation_of, queue_size, time_max, padded, placed, request_in, empty_place, WaitingRule, QueueRule, network_in, waiting_in, oldest, clock_ok, due, with_time, with_request, without_oldest}

-- ---- the requests that wait

-- a request is read back from its place
pub request_back : (r : Outgoing) → request_in (placed r) ≡ r
request_back r =
    λ i. outgoing (take-append_seam r.frame (drop (length r.frame) (replicate longest_frame 0)) i) r.hops r.hops_of_response r.delay

module _ (q : SendQueue) (f : QueueRule q) where
  -- as many requests wait as the queue counts
  pub waiting_length : length (waiting_in q) ≡ q.count
  waiting_length = length-map (take q.count q.places) request_in ∙ length-take-le q.count q.places (omega (arith, f.size, f.count_max))

  -- a send puts its request after the others
  pub sent_queue : (r : Outgoing) (t : ℕ) → q.count < queue_size → waiting_in (with_request q r t) ≡ waiting_in q ++ (r ∷ [])
  sent_queue r t h =
      let l : q.count < length q.places = omega (arith, f.size) in
      ap (λ (n : ℕ). map request_in (take n (set q.places q.count (placed r)))) (add-one q.count)
      ∙ ap (map request_in) (take-suc-set q.places q.count (placed r) l)
      ∙ map-append request_in (take q.count q.places) (placed r ∷ [])
      ∙ ap (λ (x : Outgoing). waiting_in q ++ (x ∷ [])) (request_back r)

  -- a release takes the oldest request from the front
  pub released_queue : (t : ℕ) → 0 < q.count → waiting_in q ≡ oldest q ∷ waiting_in (without_oldest q t)
  released_queue t h = moved q.count q.places h (omega (arith, f.size, f.count_max))
    where
      moved : (n : ℕ) (ws : List Waiting) → 0 < n → n ≤ length ws
          → map request_in (take n ws) ≡ request_in (get_or ws 0 empty_place) ∷ map request_in (take (n - 1) (drop 1 ws ++ (empty_place ∷ [])))
      moved zero ws h l = absurd (omega arith)
      moved (suc n) [] h l = absurd (omega arith)
      moved (suc n) (w ∷ ws) h l =
          let e : suc n - 1 ≡ n = omega arith in
          ap (λ (vs : List Waiting). request_in w ∷ map request_in vs)
          (sym (ap (λ (k : ℕ). take k (ws ++ (empty_place ∷ []))) e ∙ take-append-le n ws (empty_place ∷ []) (omega arith)))

-- a call that only records the time leaves them as they are
pub kept_queue : (q : SendQueue) (t : ℕ) → waiting_in (with_time q t) ≡ waiting_in q
kept_queue q t = refl

-- ---- the queue rule is kept

-- a time that can be given is not before the last one, and at most 2 ^ 40
pub time_facts : (q : SendQueue) (t : ℕ) → clock_ok q.last t ≡ true → (q.last ≤ t) × (t ≤ time_max)
unfolding clock_ok
time_facts q t e = (leb-true _ _ (and_left _ (leb t time_max) e), leb-true _ _ (and_right (leb q.last t) _ e))

-- a release that releases finds a request, and is not too early
pub due_facts : (q : SendQueue) (t : ℕ) → due q.count q.next t ≡ true → (0 < q.count) × (q.next ≤ t)
unfolding due
due_facts q t e = (ltb-true _ _ (and_left _ (leb q.next t) e), leb-true _ _ (and_right (ltb 0 q.count) _ e))

-- the place of a request to a bonded node or to all nodes follows the rule
pub place_rule : (r : Outgoing) → frame_fits (length r.frame) ≡ true
    → address_ok (nadr_of r.frame) ≡ true
    → r.hops < 256 → r.hops_of_response < 256 → r.delay < 65536 → WaitingRule (placed r)
place_rule r e a h b d =
    let s = fits_sizes (length r.frame) e in
    let zeros : List ℕ = drop (length r.frame) (replicate longest_frame 0) in
    let n : nadr_of (padded r.frame) ≡ nadr_of r.frame =
    ap₂ (λ (x y : ℕ). x + 256 * y) (get_or-append r.frame zeros 0 0 (omega arith)) (get_or-append r.frame zeros 0 1 (omega arith)) in
    record {
      place = ap placed (sym (request_back r));
      size = rw (length-append, length-drop) (omega arith);
      hops_width = h;
      response_width = b;
      delay_width = d;
      fits = e;
      address = ap address_ok n ∙ a;
    }

-- no refusal has the number of a call that is not refused
pub numbered : (e : Refusal) → refusal_number e ≡ 0 → ⊥
numbered e z = grind arith

-- `earliest_send` takes lengths that fit a frame
pub earliest_ok : (h n d b m : ℕ) (net : Network) (all : Bool) (s : Result ℕ Refusal) → n ≤ pdata_max → m ≤ pdata_max
    → send_answer_of s ≡ send_of h n d b m net all → IsOk s
unfolding send_of
earliest_ok h n d b m net all (Ok x) p q e = refl
earliest_ok h n d b m net all (Err x) p q e =
    let taken : (send_of h n d b m net all).refusal ≡ 0 = rw (le-ltb pdata_max n p, le-ltb pdata_max m q) in
    absurd (numbered x (ap (λ (a : SendAnswer). a.refusal) e ∙ taken))

-- a request that waits
module _ (w : Waiting) (r : WaitingRule w) where
  sizes : (header_size ≤ w.length) × (w.length ≤ longest_frame)
  sizes = fits_sizes w.length r.fits

  -- its frame has the address that its place has
  pub same_address : nadr_of (request_in w).frame ≡ nadr_of w.frame
  same_address =
      ap₂ (λ (x y : ℕ). x + 256 * y) (get_or-take w.length w.frame 0 0 (omega (arith, sizes))) (get_or-take w.length w.frame 1 0 (omega (arith, sizes)))

  -- and the length that its place has
  pub same_length : length (request_in w).frame ≡ w.length
  same_length = length-take-le w.length w.frame (omega (arith, sizes, r.size))

  -- the wait after it is not too long
  pub wait_max_lem : (net : Network) → wait_after net (request_in w) ≤ wait_max
  unfolding wait_after
  wait_max_lem net =
      let o = request_in w in
      earliest_max w.hops (length (pdata_of o.frame)) w.delay w.response_hops pdata_max net (is_broadcast o.frame)
      r.hops_width r.delay_width r.response_width

  -- it is what `earliest_send` answers
  pub wait_answered : (net : Network) (n : ℕ) (b : Bool) → n ≡ w.length - header_size → b ≡ is_broadcast w.frame
      → send_of w.hops n w.delay w.response_hops pdata_max net b ≡ send_answer 0 (wait_after net (request_in w))
  unfolding send_of wait_after
  wait_answered net n b en eb =
      let l : length (pdata_of (request_in w).frame) ≡ n = length-drop header_size (request_in w).frame ∙ omega (arith, same_length) in
      let s : n ≤ pdata_max = omega (arith, sizes) in
      rw (le-ltb pdata_max n s, eb, l, same_address)

  -- `confirm` writes its confirmation
  pub waiting_confirmed : (net : Network) (dpa_value n : ℕ) (o : List ℕ) → n ≡ w.length → longest_response ≤ length o
      → confirm_of (take n w.frame) dpa_value w.hops w.response_hops net o ≡ result_in_buffer 0 (confirmation_of net dpa_value (request_in w)) o
  unfolding confirmation_of
  waiting_confirmed net dpa_value n o e room =
      ap (λ (k : ℕ). confirm_of (take k w.frame) dpa_value w.hops w.response_hops net o) e
      ∙ Confirmations.confirmation_given (request_in w).frame dpa_value w.hops w.response_hops net o (ap frame_fits same_length ∙ r.fits) room

  -- no hops make it refuse the frame
  pub confirmation_ok : (net : Network) (dpa_value n h b : ℕ) (o new : List ℕ) (s : Result ℕ Refusal) → n ≡ w.length → longest_response ≤ length o
      → length_result (length_answer s) new ≡ confirm_of (take n w.frame) dpa_value h b net o → IsOk s
  confirmation_ok net dpa_value n h b o new (Ok x) e room k = refl
  confirmation_ok net dpa_value n h b o new (Err x) e room k =
      let given =
      ap (λ (j : ℕ). confirm_of (take j w.frame) dpa_value h b net o) e
      ∙ Confirmations.confirmation_given (request_in w).frame dpa_value h b net o (ap frame_fits same_length ∙ r.fits) room in
      absurd (numbered x (ap (λ (a : LengthResult). a.refusal) (k ∙ given)))

module _ (q : SendQueue) (f : QueueRule q) where
  -- every place from the count on is empty
  empty_from : (k : ℕ) → q.count ≤ k → get_or q.places k empty_place ≡ empty_place
  empty_from k h =
      by_test (ltb k queue_size)
      (λ e. f.empty k h (ltb-true _ _ e))
      (λ e. get_or-eq_default q.places empty_place (omega (arith, f.size, ltb-false k queue_size e)))

  module _ (t : ℕ) (ok : clock_ok q.last t ≡ true) where
    -- the rule is kept when only the time is recorded
    pub at_rule : QueueRule (with_time q t)
    at_rule =
        let z = time_facts q t ok in
        record {
          network_max = f.network_max;
          count_max = f.count_max;
          size = f.size;
          waiting = f.waiting;
          empty = f.empty;
          last_max = z.1;
          next_max = omega (arith, f.next_max);
        }

    -- by a send
    pub with_rule : (r : Outgoing) → q.count < queue_size → WaitingRule (placed r) → QueueRule (with_request q r t)
    with_rule r h p =
        let z = time_facts q t ok in
        record {
          network_max = f.network_max;
          count_max = omega arith;
          size = length-set q.places q.count (placed r) ∙ f.size;
          waiting = λ k l.
              by_test (eqb k q.count)
              (λ e.
              let s : get_or (set q.places q.count (placed r)) k empty_place ≡ placed r =
              rw (eqb-true k q.count e) (get_or-set_same q.places q.count (placed r) empty_place (omega (arith, f.size))) in
              subst WaitingRule (sym s) p)
              (λ e.
              let n = eqb-false k q.count e in
              subst WaitingRule (sym (get_or-set_other q.places q.count k (placed r) empty_place n)) (f.waiting k (omega (arith, n))));
          empty = λ k l m. get_or-set_other q.places q.count k (placed r) empty_place (λ e. absurd (omega arith)) ∙ f.empty k (omega arith) m;
          last_max = z.1;
          next_max = omega (arith, f.next_max);
        }

    -- and by a release
    pub after_rule : 0 < q.count → QueueRule (without_oldest q t)
    after_rule h =
        let z = time_facts q t ok in
        record {
          network_max = f.network_max;
          count_max = omega (arith, f.count_max);
          size = rw (length-append (drop 1 q.places) (empty_place ∷ []), length-drop 1 q.places, f.size) (omega arith);
          waiting = λ k l. subst WaitingRule (sym (moved_at q.places k)) (f.waiting (suc k) (omega arith));
          empty = λ k l m. moved_at q.places k ∙ empty_from (suc k) (omega arith);
          last_max = z.1;
          next_max = omega (arith, wait_max_lem (get_or q.places 0 empty_place) (f.waiting 0 h) (network_in q));
        }
      where
        ends : (ws : List Waiting) (k : ℕ) → get_or (ws ++ (empty_place ∷ [])) k empty_place ≡ get_or ws k empty_place
        ends [] zero = refl
        ends [] (suc k) = refl
        ends (w ∷ ws) zero = refl
        ends (w ∷ ws) (suc k) = ends ws k

        moved_at : (ws : List Waiting) (k : ℕ) → get_or (drop 1 ws ++ (empty_place ∷ [])) k empty_place ≡ get_or ws (suc k) empty_place
        moved_at [] zero = refl
        moved_at [] (suc k) = refl
        moved_at (w ∷ ws) k = ends ws k
