-- Laws of histories: first in, first out; releases keep their distance; no request waits for more than seven others.
use Prim.Native.Nat.{ℕ, zero, suc, ◌+◌, ◌-◌, ◌≤◌, ◌<◌, min}
use mathlib.Core.Path.{◌≡◌, refl, sym, ap, ap₂, subst, ◌∙◌}
use mathlib.Core.Bool.{Bool, true, cond, ◌&&◌}
use mathlib.Core.List.{List, [], ◌∷◌, ◌++◌, map, append-nil, append_assoc}
use native.Mathlib.Omega.{arith}
use lib.ListN.{length, get_or, take, drop, length-append, length-drop, get_or-append}
use lib.Seq.{get_or_at}
use lib.Dec.{eqb, ltb, leb}
use borrow.Author.Tests.{eqb-true, eqb-false, ne_eqb, ltb-true, ltb-false, lt-ltb, le-ltb}
use Rattle.dpa.proofs.Bool.{by_test}
use Rattle.queue.specs.declared.record.SendQueue.{SendQueue}
use Rattle.gateway.specs.declared.record.Gateway.{Gateway}
use Rattle.queue.specs.declared.record.Waiting.{Waiting}
use Rattle.queue.specs.Queue.{new_queue, Outgoing, wait_after, queue_size, QueueRule, network_in, waiting_in, oldest, due, queue_from, with_time, with_request, without_oldest}
use Rattle.gateway.specs.Gateway.{gateway_from, gateway_ok, new_gateway, send_request, release_of}
use Rattle.gateway.specs.History.{Call, release, after, after_all, accepted_all, released, released_all, Handout, no_handout, handout, HandoutOf, arrivals, no_request, FirstInFirstOut, Spaced, earliest_release, ReleasesExactly, late_enough, late_calls, NoStarvation}
use Rattle.gateway.proofs.Calls.{queue_rule, send_accepted, release_cases, by_effect}
use Rattle.queue.proofs.Changes.{waiting_length, sent_queue, released_queue, due_facts}

-- ---- one call and a whole history

-- a late release of a queue where requests wait hands one out
pub late_releases : (g : Gateway) (c : Call) → late_enough g c ≡ true → 0 < g.queue.count → length (released g c) ≡ 1
late_releases g c =
    by_effect (λ q ins outs late. late ≡ true → 0 < g.queue.count → length outs ≡ 1) g
    (λ e h. let z : ◌≡◌ {A = ℕ} 0 1 = cc in absurd (omega arith))
    (λ t late r ok none e h. absurd (omega (arith, none e)))
    (λ h r ok u o e w. refl)
    c
    (λ r t e s f h. let z : ◌≡◌ {A = ℕ} 0 1 = cc in absurd (omega arith))

-- Q holds for every history if it holds for the empty one and each effect of a call, put before a history, keeps it. Q is over the queue
-- at the start, the requests accepted, the handouts, the number of late releases, and the queue at the end
module _ (Q : SendQueue → List Outgoing → List Handout → ℕ → SendQueue → Type 0)
    (none : (q : SendQueue) → Q q [] [] 0 q)
    (timed : (q : SendQueue) (t : ℕ) (rs : List Outgoing) (hs : List Handout) (n m : ℕ) (end : SendQueue)
    → (0 < q.count → m ≡ n) → Q (with_time q t) rs hs n end → Q q rs hs m end)
    (sent : (q : SendQueue) (r : Outgoing) (t : ℕ) (rs : List Outgoing) (hs : List Handout) (n : ℕ) (end : SendQueue)
    → QueueRule q → q.count < queue_size → Q (with_request q r t) rs hs n end → Q q (r ∷ rs) hs n end)
    (handed : (q : SendQueue) (h : Handout) (rs : List Outgoing) (hs : List Handout) (n : ℕ) (end : SendQueue)
    → QueueRule q → due q.count q.next h.time ≡ true → HandoutOf q (oldest q) h → Q (without_oldest q h.time) rs hs n end → Q q rs (h ∷ hs) (suc n) end) where
  pub by_history : (g : Gateway) (cs : List Call) → Q g.queue (accepted_all g cs) (released_all g cs) (late_calls g cs) (after_all g cs).queue
  unfolding accepted_all released_all late_calls after_all
  by_history g [] = none g.queue
  by_history g (c ∷ cs) =
      let zero_add : (n : ℕ) → n ≡ 0 + n = λ n. omega arith in
      let one_add : (n : ℕ) → suc n ≡ 1 + n = λ n. omega arith in
      by_effect
      (λ q ins outs late. (rs : List Outgoing) (hs : List Handout) (n : ℕ) (end : SendQueue) → Q q rs hs n end
      → Q g.queue (ins ++ rs) (outs ++ hs) (cond late 1 0 + n) end)
      g
      (λ rs hs n end x. subst (λ (m : ℕ). Q g.queue rs hs m end) (zero_add n) x)
      (λ t late r ok w rs hs n end x.
      timed g.queue t rs hs n (cond late 1 0 + n) end
      (λ h. by_test late (λ e. absurd (omega (arith, w e))) (λ e. rw e (sym (zero_add n)))) x)
      (λ h r ok u o rs hs n end x. subst (λ (m : ℕ). Q g.queue rs (h ∷ hs) m end) (one_add n) (handed g.queue h rs hs n end r u o x))
      c
      (λ r t e s rs hs n end x.
      subst (λ (m : ℕ). Q g.queue (r ∷ rs) hs m end) (zero_add n) (sent g.queue r t rs hs n end (queue_rule g s.sound) s.free x))
      (accepted_all (after g c) cs) (released_all (after g c) cs) (late_calls (after g c) cs) (after_all (after g c) cs).queue
      (by_history (after g c) cs)

-- a history in two parts: the second starts where the first ends
pub history_append : (g : Gateway) (cs ds : List Call)
    → (after_all g (cs ++ ds) ≡ after_all (after_all g cs) ds)
    × (accepted_all g (cs ++ ds) ≡ accepted_all g cs ++ accepted_all (after_all g cs) ds)
    × (released_all g (cs ++ ds) ≡ released_all g cs ++ released_all (after_all g cs) ds)
    × (late_calls g (cs ++ ds) ≡ late_calls g cs + late_calls (after_all g cs) ds)
unfolding accepted_all released_all late_calls after_all
history_append g [] ds = (refl, refl, refl, omega arith)
history_append g (c ∷ cs) ds =
    let x = history_append (after g c) cs ds in
    (x.0, rw (x.1, append_assoc), rw (x.2, append_assoc), omega (arith, x.3))

-- ---- first in, first out

-- the claim over plain lists: the handouts hs of the arrivals arr, and the queue at the end
abbrev InOrder : SendQueue → List Outgoing → List Handout → SendQueue → Type 0
InOrder q arr hs end =
    (length hs ≤ length arr)
    × ((k : ℕ) → k < length hs → HandoutOf q (get_or arr k no_request) (get_or hs k no_handout))
    × (waiting_in end ≡ drop (length hs) arr)

-- it does not depend on the times, the count and the places of the queue at the start
order_from : (q : SendQueue) {last next count : ℕ} {places : List Waiting} (arr : List Outgoing) (hs : List Handout) (end : SendQueue)
    → InOrder (queue_from q last next count places) arr hs end → InOrder q arr hs end
order_from q arr hs end x = (
  x.0,
  λ k l.
      let y = x.1 k l in
      record { same_frame = y.same_frame; same_confirmation = y.same_confirmation; same_next = y.same_next },
  x.2,
)

-- one more handout, of the request in front
order_more : (q : SendQueue) (r : Outgoing) (h : Handout) (arr : List Outgoing) (hs : List Handout) (end : SendQueue)
    → HandoutOf q r h → InOrder q arr hs end → InOrder q (r ∷ arr) (h ∷ hs) end
order_more q r h arr hs end o x = (omega (arith, x.0), at, x.2)
  where
    at : (k : ℕ) → k < suc (length hs) → HandoutOf q (get_or (r ∷ arr) k no_request) (get_or (h ∷ hs) k no_handout)
    at zero l = o
    at (suc k) l = x.1 k (omega arith)

-- the arrivals of a history whose first call is a send, and of one whose first call hands out
module _ (q : SendQueue) (f : QueueRule q) (rs : List Outgoing) where
  arrivals_sent : (r : Outgoing) (t : ℕ) → q.count < queue_size → waiting_in (with_request q r t) ++ rs ≡ waiting_in q ++ (r ∷ rs)
  arrivals_sent r t h = rw (sent_queue q f r t h, append_assoc)

  arrivals_handed : (t : ℕ) → 0 < q.count → oldest q ∷ (waiting_in (without_oldest q t) ++ rs) ≡ waiting_in q ++ rs
  arrivals_handed t h = ap (λ (arr : List Outgoing). arr ++ rs) (sym (released_queue q f t h))

-- every history is in order
in_order : (g : Gateway) (cs : List Call) → InOrder g.queue (arrivals g cs) (released_all g cs) (after_all g cs).queue
in_order =
    by_history (λ q rs hs n end. InOrder q (waiting_in q ++ rs) hs end)
    (λ q. (omega arith, λ k l. absurd (omega arith), sym (append-nil (waiting_in q))))
    (λ q t rs hs n m end e x. order_from q (waiting_in q ++ rs) hs end x)
    (λ q r t rs hs n end f c x.
    subst (λ (arr : List Outgoing). InOrder q arr hs end) (arrivals_sent q f rs r t c) (order_from q (waiting_in (with_request q r t) ++ rs) hs end x))
    (λ q h rs hs n end f u o x.
    let arr = waiting_in (without_oldest q h.time) ++ rs in
    subst (λ (arr : List Outgoing). InOrder q arr (h ∷ hs) end) (arrivals_handed q f rs h.time (due_facts q h.time u).0)
    (order_more q (oldest q) h arr hs end o (order_from q arr hs end x)))

-- requests are handed out in the order in which they were accepted, each byte for byte with its own hops and delay; for any record,
-- since a broken one refuses every call
pub first_in_first_out : (g : Gateway) (cs : List Call) → FirstInFirstOut g cs
first_in_first_out g cs = let x = in_order g cs in record { no_more = x.0; in_order = x.1; rest_waits = x.2 }

-- the frames handed out, in order, are the first arrivals
pub frames_in_order : (g : Gateway) (cs : List Call)
    → map (λ (h : Handout). h.frame) (released_all g cs) ≡ take (length (released_all g cs)) (map (λ (r : Outgoing). r.frame) (arrivals g cs))
frames_in_order g cs = let x = in_order g cs in front (released_all g cs) (arrivals g cs) x.0 (λ k l. (x.1 k l).same_frame)
  where
    front : (hs : List Handout) (arr : List Outgoing) → length hs ≤ length arr
        → ((k : ℕ) → k < length hs → (get_or hs k no_handout).frame ≡ (get_or arr k no_request).frame)
        → map (λ (h : Handout). h.frame) hs ≡ take (length hs) (map (λ (r : Outgoing). r.frame) arr)
    front [] arr l f = refl
    front (h ∷ hs) [] l f = absurd (omega arith)
    front (h ∷ hs) (r ∷ arr) l f =
        ap₂ (λ (x : List ℕ) (xs : List (List ℕ)). x ∷ xs) (f 0 (omega arith)) (front hs arr (omega arith) (λ k m. f (suc k) (omega arith)))

-- from a new gateway on, they are the first frames of those accepted
pub fresh_prefix : (lp : Bool) (dpa_value : ℕ) (cs : List Call) → let g = new_gateway lp dpa_value in
    map (λ (h : Handout). h.frame) (released_all g cs) ≡ take (length (released_all g cs)) (map (λ (r : Outgoing). r.frame) (accepted_all g cs))
unfolding new_queue
fresh_prefix lp dpa_value cs = frames_in_order (new_gateway lp dpa_value) cs

-- ---- spacing

-- the claim over plain lists
abbrev Apart : SendQueue → List Outgoing → List Handout → Type 0
Apart q arr hs =
    (0 < length hs → q.next ≤ (get_or hs 0 no_handout).time)
    × ((k : ℕ) → suc k < length hs
    → (get_or hs k no_handout).time + wait_after (network_in q) (get_or arr k no_request) ≤ (get_or hs (suc k) no_handout).time)

-- a release that is not too early, then handouts that are apart
apart_more : (q : SendQueue) (h : Handout) (arr : List Outgoing) (hs : List Handout) → q.next ≤ h.time
    → Apart (without_oldest q h.time) arr hs → Apart q (oldest q ∷ arr) (h ∷ hs)
apart_more q h arr hs l x = (λ z. l, at)
  where
    at : (k : ℕ) → suc k < suc (length hs)
        → (get_or (h ∷ hs) k no_handout).time + wait_after (network_in q) (get_or (oldest q ∷ arr) k no_request) ≤ (get_or (h ∷ hs) (suc k) no_handout).time
    at zero m = x.0 (omega arith)
    at (suc k) m = x.1 k (omega arith)

-- from a release to the next one at least the earliest next send of the first passes
pub spaced : (g : Gateway) (cs : List Call) → Spaced g cs
spaced g cs =
    let x =
    by_history (λ q rs hs n end. Apart q (waiting_in q ++ rs) hs)
    (λ q. (λ l. absurd (omega arith), λ k l. absurd (omega arith)))
    (λ q t rs hs n m end e x. x)
    (λ q r t rs hs n end f c x. subst (λ (arr : List Outgoing). Apart q arr hs) (arrivals_sent q f rs r t c) x)
    (λ q h rs hs n end f u o x.
    let z = due_facts q h.time u in
    subst (λ (arr : List Outgoing). Apart q arr (h ∷ hs)) (arrivals_handed q f rs h.time z.0)
    (apart_more q h (waiting_in (without_oldest q h.time) ++ rs) hs z.1 x))
    g cs in
    record { first_late = x.0; apart = x.1 }

-- and so between any two releases of a history
pub releases_apart : (g : Gateway) (cs : List Call) (i j : ℕ) → i < j → j < length (released_all g cs)
    → (get_or (released_all g cs) i no_handout).time + wait_after (network_in g.queue) (get_or (arrivals g cs) i no_request)
    ≤ (get_or (released_all g cs) j no_handout).time
releases_apart g cs i zero l m = absurd (omega arith)
releases_apart g cs i (suc j) l m =
    let next = (spaced g cs).apart j m in
    by_test (eqb i j)
    (λ e. rw (eqb-true i j e) next)
    (λ e. omega (arith, next, releases_apart g cs i j (omega (arith, eqb-false i j e)) (omega arith)))

-- ---- releases exactly when

-- the next time over plain lists, for the queue at the end
abbrev NextOf : SendQueue → List Outgoing → List Handout → SendQueue → Type 0
NextOf q arr hs end =
    (length hs ≡ 0 → end.next ≡ q.next)
    × ((k : ℕ) → length hs ≡ suc k → end.next ≡ (get_or hs k no_handout).time + wait_after (network_in q) (get_or arr k no_request))

-- one more handout in front
next_more : (q : SendQueue) (h : Handout) (arr : List Outgoing) (hs : List Handout) (end : SendQueue)
    → NextOf (without_oldest q h.time) arr hs end → NextOf q (oldest q ∷ arr) (h ∷ hs) end
next_more q h arr hs end x = (λ z. absurd (omega arith), at)
  where
    at : (k : ℕ) → suc (length hs) ≡ suc k
        → end.next ≡ (get_or (h ∷ hs) k no_handout).time + wait_after (network_in q) (get_or (oldest q ∷ arr) k no_request)
    at zero l = x.0 (omega arith)
    at (suc k) l = x.1 k (omega arith)

-- the queue's next time is reckoned from the last release
pub next_time : (g : Gateway) (cs : List Call) → (after_all g cs).queue.next ≡ earliest_release g cs
unfolding earliest_release
next_time g cs =
    let x =
    by_history (λ q rs hs n end. NextOf q (waiting_in q ++ rs) hs end)
    (λ q. (λ z. refl, λ k l. absurd (omega arith)))
    (λ q t rs hs n m end e x. x)
    (λ q r t rs hs n end f c x. subst (λ (arr : List Outgoing). NextOf q arr hs end) (arrivals_sent q f rs r t c) x)
    (λ q h rs hs n end f u o x.
    subst (λ (arr : List Outgoing). NextOf q arr (h ∷ hs) end) (arrivals_handed q f rs h.time (due_facts q h.time u).0)
    (next_more q h (waiting_in (without_oldest q h.time) ++ rs) hs end x))
    g cs in
    let n = length (released_all g cs) in
    by_test (eqb n 0) (λ e. rw e (x.0 (eqb-true n 0 e)))
    (λ e. rw e (x.1 (n - 1) (omega (arith, eqb-false n 0 e))))

-- the first request ever is released at any time
pub first_any_time : (lp : Bool) (dpa_value : ℕ) (cs : List Call) → let g = new_gateway lp dpa_value in
    length (released_all g cs) ≡ 0 → earliest_release g cs ≡ 0
unfolding new_queue earliest_release
first_any_time lp dpa_value cs e = rw e

module _ (g : Gateway) (cs : List Call) (t : ℕ) (o : List ℕ) where
  abbrev end : Gateway
  end = after_all g cs

  abbrev handed : ℕ
  handed = length (released_all g cs)

  -- a request waits if fewer were handed out than arrived
  one_waits : gateway_ok end ≡ true → ltb 0 end.queue.count ≡ ltb handed (length (arrivals g cs))
  one_waits ok =
      let x = in_order g cs in
      let n : end.queue.count ≡ length (arrivals g cs) - handed =
      sym (waiting_length end.queue (queue_rule end ok)) ∙ ap length x.2 ∙ length-drop handed (arrivals g cs) in
      by_test (ltb 0 end.queue.count)
      (λ e. e ∙ sym (lt-ltb handed (length (arrivals g cs)) (omega (arith, n, ltb-true 0 end.queue.count e))))
      (λ e. e ∙ sym (le-ltb handed (length (arrivals g cs)) (omega (arith, n, x.0, ltb-false 0 end.queue.count e))))

  -- a request is due if one waits and the time is not before the earliest
  due_exactly : gateway_ok end ≡ true
      → due end.queue.count end.queue.next t ≡ (ltb handed (length (arrivals g cs)) && leb (earliest_release g cs) t)
  unfolding due
  due_exactly ok = ap₂ (λ (w : Bool) (n : ℕ). w && leb n t) (one_waits ok) (next_time g cs)

  -- a release call releases the oldest request exactly when it is not refused, a request waits, and its time is at or after the earliest
  -- send time of the one before
  pub releases_exactly : ReleasesExactly g cs t o
  unfolding accepted_all released_all
  releases_exactly =
      record {
        exactly =
            release_cases end t o (λ x. x.answer.released ≡ (eqb x.answer.refusal 0 && ltb handed (length (arrivals g cs)) && leb (earliest_release g cs) t))
            (λ k n. rw (ne_eqb k 0 n) refl)
            (λ ok c u. sym u ∙ due_exactly ok)
            (λ ok c u. sym u ∙ due_exactly ok);
        oldest_first = λ e.
            let c = release t o in
            let a = history_append g cs (c ∷ []) in
            let y = handout t (release_of end t o) in
            let h : released_all g (cs ++ (c ∷ [])) ≡ released_all g cs ++ (y ∷ []) = a.2 ∙ rw e refl in
            let r : arrivals g (cs ++ (c ∷ [])) ≡ arrivals g cs =
            ap (λ (xs : List Outgoing). waiting_in g.queue ++ xs) (a.1 ∙ append-nil (accepted_all g cs)) in
            let l : handed < length (released_all g (cs ++ (c ∷ []))) = rw (h, length-append) (omega arith) in
            subst (λ (x : Handout). HandoutOf g.queue (get_or (arrivals g cs) handed no_request) x)
            (ap (λ (xs : List Handout). get_or xs handed no_handout) h ∙ get_or_at (released_all g cs) y [] no_handout handed refl)
            (subst (λ (xs : List Outgoing). HandoutOf g.queue (get_or xs handed no_request) (get_or (released_all g (cs ++ (c ∷ []))) handed no_handout)) r
            ((in_order g (cs ++ (c ∷ []))).1 handed l));
      }

-- ---- no starvation

-- at least as many requests are released as there are release calls that are late enough, up to the number that waited at the start
pub late_calls_release : (g : Gateway) (cs : List Call) → min g.queue.count (late_calls g cs) ≤ length (released_all g cs)
late_calls_release =
    by_history (λ q rs hs n end. min q.count n ≤ length hs)
    (λ q. omega arith)
    (λ q t rs hs n m end e x. by_test (ltb 0 q.count) (λ w. omega (arith, x, e (ltb-true _ _ w))) (λ w. omega (arith, ltb-false 0 q.count w)))
    (λ q r t rs hs n end f c x. omega (arith, x))
    (λ q h rs hs n end f u o x. omega (arith, x, (due_facts q h.time u).0))

-- a request that waits for k others is handed out by the (k + 1)-th late release at the latest
pub no_starvation : (g : Gateway) (cs : List Call) → gateway_ok g ≡ true → NoStarvation g cs
no_starvation g cs e =
    let f = queue_rule g e in
    record {
      at_most_seven = λ k h. omega (arith, f.count_max);
      handed_out = λ k h l.
          let m : k < length (released_all g cs) = omega (arith, late_calls_release g cs) in
          let s : get_or (arrivals g cs) k no_request ≡ get_or (waiting_in g.queue) k no_request =
          get_or-append (waiting_in g.queue) (accepted_all g cs) no_request k (omega (arith, waiting_length g.queue f)) in
          (m, subst (λ (r : Outgoing). HandoutOf g.queue r (get_or (released_all g cs) k no_handout)) s ((in_order g cs).1 k m));
    }

-- a request that was accepted while k others waited, at most seven, is handout k of every later history with more than k late releases
pub accepted_released : (g : Gateway) (r : Outgoing) (t : ℕ) (cs : List Call) → (send_request g r t).refusal ≡ 0
    → let next = (send_request g r t).gateway in let k = g.queue.count in k < late_calls next cs
    → (k ≤ 7) × (k < length (released_all next cs)) × HandoutOf next.queue r (get_or (released_all next cs) k no_handout)
accepted_released g r t cs e =
    let q = g.queue in
    let k = q.count in
    let a = send_accepted g r t e in
    let f = queue_rule g a.0.sound in
    let n = gateway_from g.bonds (with_request q r t) in
    subst Handed (sym a.1)
    (λ l.
    let m : k < length (released_all n cs) = omega (arith, late_calls_release n cs) in
    let arr : get_or (arrivals n cs) k no_request ≡ r =
    ap (λ (arr : List Outgoing). get_or arr k no_request) (arrivals_sent q f (accepted_all n cs) r t a.0.free)
    ∙ get_or_at (waiting_in q) r (accepted_all n cs) no_request k (waiting_length q f) in
    (omega (arith, a.0.free), m, subst (λ (x : Outgoing). HandoutOf n.queue x (get_or (released_all n cs) k no_handout)) arr ((in_order n cs).1 k m)))
  where
    Handed : Gateway → Type 0
    Handed n =
        let k = g.queue.count in k < late_calls n cs
        → (k ≤ 7) × (k < length (released_all n cs)) × HandoutOf n.queue r (get_or (released_all n cs) k no_handout)
