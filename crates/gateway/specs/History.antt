-- Document 02, change 6: histories. Calls in a row, each on the record that the last one left, and what is claimed of every such list.
use Rattle.std.specs.Prelude.{ℕ, suc, ◌+◌, ◌-◌, ◌≤◌, ◌<◌, ◌≡◌, List, [], ◌∷◌, ◌++◌, Bool, true, false, cond, ◌&&◌, length, get_or, take, drop, eqb, ltb, leb}
use Rattle.queue.specs.declared.record.SendQueue.{SendQueue}
use Rattle.gateway.specs.declared.record.Gateway.{Gateway}
use Rattle.queue.specs.Queue.{Outgoing, outgoing, confirmation_of, network_in, wait_after, waiting_in}
use Rattle.gateway.specs.Gateway.{ReleaseResult, bond_of, unbond_of, clear_of, send_request, release_of}

-- ---- calls

-- a call on a gateway, with its arguments; `release` has the buffer that it is lent
pub data Call : Type 0 where
  bond : ℕ → Call
  unbond : ℕ → Call
  clear : Call
  count : Call
  bitmap : Call
  send : Outgoing → ℕ → Call
  release : ℕ → List ℕ → Call

-- the widths that the types of the arguments give
abbrev pub InRange : Call → Type 0
InRange (bond a) = Unit
InRange (unbond a) = Unit
InRange clear = Unit
InRange count = Unit
InRange bitmap = Unit
InRange (send r t) = (r.hops < 256) × (r.hops_of_response < 256) × (r.delay < 65536)
InRange (release t o) = Unit

-- the gateway after a call
abbrev pub after : Gateway → Call → Gateway
after g (bond a) = (bond_of g a).gateway
after g (unbond a) = (unbond_of g a).gateway
after g clear = (clear_of g).gateway
after g count = g
after g bitmap = g
after g (send r t) = (send_request g r t).gateway
after g (release t o) = (release_of g t o).answer.gateway

-- and after all calls of a history
unfoldable pub after_all : Gateway → List Call → Gateway
after_all g [] = g
after_all g (c ∷ cs) = after_all (after g c) cs

-- ---- what went in, and what came out

-- the request that a call put into the queue: a send that was not refused
abbrev pub accepted : Gateway → Call → List Outgoing
accepted g (bond a) = []
accepted g (unbond a) = []
accepted g clear = []
accepted g count = []
accepted g bitmap = []
accepted g (send r t) = cond (eqb (send_request g r t).refusal 0) (r ∷ []) []
accepted g (release t o) = []

-- all of a history
unfoldable pub accepted_all : Gateway → List Call → List Outgoing
accepted_all g [] = []
accepted_all g (c ∷ cs) = accepted g c ++ accepted_all (after g c) cs

-- what a release hands out: its time, the frame in the answer, the confirmation in the buffer, the queue's next time
pub record Handout : Type 0 where
  pub time : ℕ
  pub frame : List ℕ
  pub confirmation : List ℕ
  pub next : ℕ

-- stands for an index past the end
abbrev pub no_handout : Handout
no_handout = record { time = 0; frame = []; confirmation = []; next = 0 }

-- as the caller reads it
abbrev pub handout : ℕ → ReleaseResult → Handout
handout t x =
    record {
      time = t;
      frame = take x.answer.frame_length x.answer.frame;
      confirmation = take x.answer.length x.out;
      next = x.answer.gateway.queue.next;
    }

-- what a call releases: one, if it is a release that answers `released`
abbrev pub released : Gateway → Call → List Handout
released g (bond a) = []
released g (unbond a) = []
released g clear = []
released g count = []
released g bitmap = []
released g (send r t) = []
released g (release t o) = cond (release_of g t o).answer.released (handout t (release_of g t o) ∷ []) []

-- all of a history
unfoldable pub released_all : Gateway → List Call → List Handout
released_all g [] = []
released_all g (c ∷ cs) = released g c ++ released_all (after g c) cs

-- ---- first in, first out

-- a handout is that of request r: its frame byte for byte, the confirmation with its hops, the next time with its hops and its delay
pub record HandoutOf (q : SendQueue) (r : Outgoing) (h : Handout) : Type 0 where
  pub same_frame : h.frame ≡ r.frame
  pub same_confirmation : h.confirmation ≡ confirmation_of (network_in q) q.dpa_value r
  pub same_next : h.next ≡ h.time + wait_after (network_in q) r

-- the requests that wait at the start of a history, then those that it accepts
abbrev pub arrivals : Gateway → List Call → List Outgoing
arrivals g cs = waiting_in g.queue ++ accepted_all g cs

-- stands for an index past the end
abbrev pub no_request : Outgoing
no_request = outgoing [] 0 0 0

-- the k-th handout is that of the k-th request; the requests after these still wait
pub record FirstInFirstOut (g : Gateway) (cs : List Call) : Type 0 where
  pub no_more : length (released_all g cs) ≤ length (arrivals g cs)
  pub in_order : (k : ℕ) → k < length (released_all g cs) → HandoutOf g.queue (get_or (arrivals g cs) k no_request) (get_or (released_all g cs) k no_handout)
  pub rest_waits : waiting_in (after_all g cs).queue ≡ drop (length (released_all g cs)) (arrivals g cs)

-- ---- spacing

-- two releases in a row are at least the wait after the first apart; and the first one is not before the queue's next time
pub record Spaced (g : Gateway) (cs : List Call) : Type 0 where
  pub first_late : 0 < length (released_all g cs) → g.queue.next ≤ (get_or (released_all g cs) 0 no_handout).time
  pub apart : (k : ℕ) → suc k < length (released_all g cs)
      → (get_or (released_all g cs) k no_handout).time + wait_after (network_in g.queue) (get_or (arrivals g cs) k no_request) ≤ (get_or (released_all g cs) (suc k) no_handout).time

-- ---- releases exactly when

-- the earliest time of the next release after a history: the earliest send time of the request released last, reckoned from its release,
-- with the slot of the longest response. Before the first release it is the next time of the gateway at the start: 0 for a new one, so that
-- the first request ever is released at any time
unfoldable pub earliest_release : Gateway → List Call → ℕ
earliest_release g cs =
    let n = length (released_all g cs) in
    cond (eqb n 0) g.queue.next
    ((get_or (released_all g cs) (n - 1) no_handout).time + wait_after (network_in g.queue) (get_or (arrivals g cs) (n - 1) no_request))

-- a release call after a history, at time t with buffer o. It releases exactly when it is not refused, a request waits (fewer were handed
-- out than arrived), and t is at or after that time. What it releases is the oldest: the request after those that were handed out
pub record ReleasesExactly (g : Gateway) (cs : List Call) (t : ℕ) (o : List ℕ) : Type 0 where
  pub exactly : let x = (release_of (after_all g cs) t o).answer in
      x.released ≡ (eqb x.refusal 0 && ltb (length (released_all g cs)) (length (arrivals g cs)) && leb (earliest_release g cs) t)
  pub oldest_first : let x = release_of (after_all g cs) t o in
      x.answer.released ≡ true → HandoutOf g.queue (get_or (arrivals g cs) (length (released_all g cs)) no_request) (handout t x)

-- ---- no starvation

-- a release call that is not refused and gives a time that is late enough
abbrev pub late_enough : Gateway → Call → Bool
late_enough g (bond a) = false
late_enough g (unbond a) = false
late_enough g clear = false
late_enough g count = false
late_enough g bitmap = false
late_enough g (send r t) = false
late_enough g (release t o) = eqb (release_of g t o).answer.refusal 0 && leb g.queue.next t

-- the number of such calls in a history
unfoldable pub late_calls : Gateway → List Call → ℕ
late_calls g [] = 0
late_calls g (c ∷ cs) = cond (late_enough g c) 1 0 + late_calls (after g c) cs

-- the request at place k waits for k others, at most seven, and is handed out by the (k + 1)-th of these calls at the latest
pub record NoStarvation (g : Gateway) (cs : List Call) : Type 0 where
  pub at_most_seven : (k : ℕ) → k < g.queue.count → k ≤ 7
  pub handed_out : (k : ℕ) → k < g.queue.count → k < late_calls g cs
      → (k < length (released_all g cs)) × HandoutOf g.queue (get_or (waiting_in g.queue) k no_request) (get_or (released_all g cs) k no_handout)
