-- Document 02, change 6: the send queue. What waits in it, its rule, and what a send and a release change.
use Rattle.std.specs.Prelude.{ℕ, ◌+◌, ◌-◌, ◌≤◌, ◌<◌, ◌≡◌, List, [], ◌∷◌, ◌++◌, map, Bool, true, cond, ◌&&◌, length, get_or, take, drop, set, replicate, eqb, ltb, leb}
use Rattle.dpa.specs.Frame.{longest_frame, pdata_max, broadcast_nadr, header_of, pdata_of, frame_fits}
use Rattle.dpa.specs.Lists.{all_below, overwrite_front}
use Rattle.dpa.specs.Settings.{address_ok}
use Rattle.timing.specs.declared.slot.Network.{Network}
use Rattle.timing.specs.Confirm.{confirmation}
use Rattle.timing.specs.Slot.{network_of, wait_max, earliest_of}
use Rattle.queue.specs.declared.record.Waiting.{Waiting}
use Rattle.queue.specs.declared.record.SendQueue.{SendQueue}

-- ---- requests

-- a request as it is given to `send`
pub record Outgoing : Type 0 where
  pub frame : List ℕ
  pub hops : ℕ
  pub hops_of_response : ℕ
  pub delay : ℕ

abbrev pub outgoing : (frame : List ℕ) (hops hops_of_response delay : ℕ) → Outgoing
outgoing frame hops hops_of_response delay =
    record { frame = frame; hops = hops; hops_of_response = hops_of_response; delay = delay }

abbrev pub nadr_of : List ℕ → ℕ
nadr_of frame = (header_of frame).nadr

abbrev pub is_broadcast : List ℕ → Bool
is_broadcast frame = eqb (nadr_of frame) broadcast_nadr

-- time from a release to the next one: the earliest next send, with the slot of the longest response
unfoldable pub wait_after : Network → Outgoing → ℕ
wait_after net r =
    earliest_of r.hops (length (pdata_of r.frame)) r.delay r.hops_of_response pdata_max net (is_broadcast r.frame)

-- the confirmation of a request
unfoldable pub confirmation_of : Network → ℕ → Outgoing → List ℕ
confirmation_of net dpa_value r = confirmation r.frame dpa_value r.hops r.hops_of_response net

-- ---- places

-- how many requests a queue can hold
abbrev pub queue_size : ℕ
queue_size = 8

-- the frame in an array of 62 bytes, with zeros after it
abbrev pub padded : List ℕ → List ℕ
padded frame = overwrite_front frame (replicate longest_frame 0)

-- a request in its place
abbrev pub placed : Outgoing → Waiting
placed r =
    record {
      delay = r.delay;
      length = length r.frame;
      hops = r.hops;
      response_hops = r.hops_of_response;
      frame = padded r.frame;
    }

-- the request in a place
abbrev pub request_in : Waiting → Outgoing
request_in w = outgoing (take w.length w.frame) w.hops w.response_hops w.delay

abbrev pub empty_place : Waiting
empty_place = placed (outgoing [] 0 0 0)

-- every element is 0
unfoldable pub all_zero : List ℕ → Bool
all_zero [] = true
all_zero (x ∷ xs) = eqb x 0 && all_zero xs

-- the size and the widths that the types of the code give every place
unfoldable pub widths_ok : Waiting → Bool
widths_ok w =
    eqb (length w.frame) longest_frame
    && ltb w.hops 256
    && ltb w.response_hops 256
    && ltb w.delay 65536

-- a request: 6 to 62 bytes, NADR 1 to 239 or 255, zeros after its length
unfoldable pub waiting_ok : Waiting → Bool
waiting_ok w =
    frame_fits w.length
    && address_ok (nadr_of w.frame)
    && all_zero (drop w.length w.frame)

-- a place without a request: all zero
unfoldable pub empty_ok : Waiting → Bool
empty_ok w =
    eqb w.length 0
    && eqb w.delay 0
    && eqb w.hops 0
    && eqb w.response_hops 0
    && all_zero w.frame

-- the rule for place k of a queue with this count
unfoldable pub place_ok : ℕ → ℕ → Waiting → Bool
place_ok count k w = widths_ok w && cond (ltb k count) (waiting_ok w) (empty_ok w)

-- ---- the queue

-- the latest time that can be given: 2 ^ 40 ms
abbrev pub time_max : ℕ
time_max = 1099511627776

unfoldable pub places_ok : ℕ → List Waiting → Bool
places_ok count places = eqb (length places) queue_size && all_below queue_size (λ k. place_ok count k (get_or places k empty_place))

-- network 0 (STD) or 1 (STD+LP); at most eight requests; the rule for each place; times
unfoldable pub queue_ok : SendQueue → Bool
queue_ok q =
    leb q.network 1
    && leb q.count queue_size
    && places_ok q.count q.places
    && leb q.last time_max
    && leb q.next (q.last + wait_max)

-- a place with a request, as facts (proofs/Rules: `place_facts`, `place_test`)
pub record WaitingRule (w : Waiting) : Type 0 where
  pub place : w ≡ placed (request_in w)
  pub size : length w.frame ≡ longest_frame
  pub hops_width : w.hops < 256
  pub response_width : w.response_hops < 256
  pub delay_width : w.delay < 65536
  pub fits : frame_fits w.length ≡ true
  pub address : address_ok (nadr_of w.frame) ≡ true

-- the queue's rule as facts (proofs/Rules: `queue_facts`, `queue_test`)
pub record QueueRule (q : SendQueue) : Type 0 where
  pub network_max : q.network ≤ 1
  pub count_max : q.count ≤ queue_size
  pub size : length q.places ≡ queue_size
  pub waiting : (k : ℕ) → k < q.count → WaitingRule (get_or q.places k empty_place)
  pub empty : (k : ℕ) → q.count ≤ k → k < queue_size → get_or q.places k empty_place ≡ empty_place
  pub last_max : q.last ≤ time_max
  pub next_max : q.next ≤ q.last + wait_max

-- an empty queue, with times 0
unfoldable pub new_queue : Bool → ℕ → SendQueue
new_queue lp dpa_value =
    record {
      last = 0;
      next = 0;
      network = cond lp 1 0;
      dpa_value = dpa_value;
      count = 0;
      places = replicate queue_size empty_place;
    }

abbrev pub network_in : SendQueue → Network
network_in q = network_of (eqb q.network 1)

-- the requests that wait, the oldest first
abbrev pub waiting_in : SendQueue → List Outgoing
waiting_in q = map request_in (take q.count q.places)

abbrev pub oldest : SendQueue → Outgoing
oldest q = request_in (get_or q.places 0 empty_place)

-- a time that is not before the last one and not too late
unfoldable pub clock_ok : ℕ → ℕ → Bool
clock_ok last t = leb last t && leb t time_max

-- a release at t releases: a request waits, and t is not before the next time
unfoldable pub due : (count next t : ℕ) → Bool
due count next t = ltb 0 count && leb next t

-- a queue with other times, another count and other places
abbrev pub queue_from : (q : SendQueue) (last next count : ℕ) (places : List Waiting) → SendQueue
queue_from q last next count places =
    record {
      last = last;
      next = next;
      network = q.network;
      dpa_value = q.dpa_value;
      count = count;
      places = places;
    }

-- only the time is recorded, as the last one given
abbrev pub with_time : SendQueue → ℕ → SendQueue
with_time q t = queue_from q t q.next q.count q.places

-- r is put after the others
abbrev pub with_request : SendQueue → Outgoing → ℕ → SendQueue
with_request q r t = queue_from q t q.next (q.count + 1) (set q.places q.count (placed r))

-- the oldest is released, the others move down
abbrev pub without_oldest : SendQueue → ℕ → SendQueue
without_oldest q t =
    queue_from q t (t + wait_after (network_in q) (oldest q)) (q.count - 1) (drop 1 q.places ++ (empty_place ∷ []))
