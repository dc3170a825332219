-- The walk over the effect of a request: the requests that it executes, what its rest does to the lamps and to the memories, and what the
-- steps of the code leave.
use Rattle.std.specs.Prelude.{ℕ, ◌+◌, ◌-◌, ◌≤◌, ◌<◌, ◌≡◌, List, [], ◌∷◌, true, cond, ◌&&◌, eqb, length, take, drop, Option, None, Some}
use Rattle.dpa.specs.declared.frame.Frame.{Frame}
use Rattle.dpa.specs.declared.settings.Settings.{Settings}
use Rattle.dpa.specs.Lists.{slice}
use Rattle.dpa.specs.NodeSet.{node_set_size}
use Rattle.dpa.specs.Pnum.{lights_pnum}
use Rattle.lights.specs.declared.apply.Command.TheVariants.{Lower}
use Rattle.lights.specs.declared.lamp.Lamp.{Lamp}
use Rattle.lights.specs.Lights.{command_pcmd, changes_lamps}
use Rattle.lights.specs.Remaining.{remaining_lamps, Remaining, walk_end, walk_start}
use Rattle.batch.specs.Batch.{Request, request_of, reading}
use Rattle.outcome.specs.declared.reply.Effect.{Effect}
use Rattle.outcome.specs.declared.reply.Effect.TheVariants.{Nothing, Lamps, Alone, Batch, Selective}
use Rattle.outcome.specs.Request.{hwpid_matches}
use Rattle.outcome.specs.Seen.{Memories, peripheral_memories, peripheral_lamps, list_memories, list_lamps}
use Rattle.effects.specs.declared.walk.Rest.{Rest}
use Rattle.effects.specs.declared.walk.Rest.TheVariants.{Ended, Whole, Entries}
use Rattle.effects.specs.declared.walk.Task.{Task}
use Rattle.effects.specs.declared.walk.Walk.{Walk}

-- ---- requests to execute; bytes is PData of the frame

-- PData of a task
abbrev pub task_data : List ℕ → Task → List ℕ
task_data bytes t = slice bytes t.start (t.end - t.start)

-- the lamps and the memories after a task
unfoldable pub task_lamps : Settings → List ℕ → Task → List Lamp → List Lamp
task_lamps s bytes t ls = cond t.accepted (peripheral_lamps s t.pnum t.pcmd (task_data bytes t) ls) ls

unfoldable pub task_memories : List ℕ → Task → Memories → Memories
task_memories bytes t ms = cond t.accepted (peripheral_memories t.pnum t.pcmd (task_data bytes t) ms) ms

-- a task that can be executed: it lies in the bytes, and what the answer has tested is valid
pub record TaskOk (bytes : List ℕ) (t : Task) : Type 0 where
  pub start_max : t.start ≤ t.end
  pub end_max : t.end ≤ length bytes
  pub valid : t.tested ≡ true → t.pnum ≡ lights_pnum → t.pcmd ≤ command_pcmd Lower → changes_lamps t.pcmd (task_data bytes t) ≡ true

-- the request of the frame, with PData up to `end`
abbrev pub whole_task : Frame → ℕ → Task
whole_task header end = record { pnum = header.pnum; pcmd = header.pcmd; accepted = true; tested = true; start = 0; end = end; rest = Ended }

-- ---- walks

-- at the end of a request: nothing remains of it
abbrev pub walk_at : Rest → ℕ → Walk
walk_at rest next = record { rest = rest; next = next; lamps = walk_end next }

-- the walk of a task for the lights, and of any task (proofs/Tasks: `task_walk_lem`)
unfoldable pub lights_walk : List ℕ → Task → Walk
lights_walk bytes t =
    cond (changes_lamps t.pcmd (task_data bytes t))
    (record { rest = t.rest; next = t.end; lamps = walk_start t.pcmd (take t.end bytes) t.start })
    (walk_at t.rest t.end)

unfoldable pub task_walk : List ℕ → Task → Walk
task_walk bytes t = cond (t.accepted && eqb t.pnum lights_pnum) (lights_walk bytes t) (walk_at t.rest t.end)

-- the request of the frame, still to be executed: it is at the start, and set, raise and lower have valid power entries
pub record WholeOk (i : Request) (w : Walk) : Type 0 where
  pub at_start : w.next ≡ 0
  pub valid : i.pnum ≡ lights_pnum → i.pcmd ≤ command_pcmd Lower → changes_lamps i.pcmd i.pdata ≡ true

-- a walk over the request i of a frame that can go on
pub record WalkOk (i : Request) (w : Walk) : Type 0 where
  pub next_max : w.next ≤ length i.pdata
  pub remains : Remaining (take w.next i.pdata) w.lamps
  pub whole : w.rest ≡ Whole → WholeOk i w

-- the lamps after the rest of the current request
abbrev pub current_lamps : Settings → List ℕ → Walk → List Lamp → List Lamp
current_lamps s bytes w ls = remaining_lamps s.lamp_count (take w.next bytes) w.lamps ls

-- the lamps and the memories after what follows it
abbrev pub rest_lamps : Rest → Settings → Request → ℕ → List Lamp → List Lamp
rest_lamps Ended s i next ls = ls
rest_lamps Whole s i next ls = peripheral_lamps s i.pnum i.pcmd i.pdata ls
rest_lamps Entries s i next ls = list_lamps s (drop next i.pdata) ls

abbrev pub rest_memories : Rest → Settings → Request → ℕ → Memories → Memories
rest_memories Ended s i next ms = ms
rest_memories Whole s i next ms = peripheral_memories i.pnum i.pcmd i.pdata ms
rest_memories Entries s i next ms = list_memories s (drop next i.pdata) ms

-- the lamps and the memories after the rest of a walk
unfoldable pub walk_lamps : Settings → Request → Walk → List Lamp → List Lamp
walk_lamps s i w ls = rest_lamps w.rest s i w.next (current_lamps s i.pdata w ls)

abbrev pub walk_memories : Settings → Request → Walk → Memories → Memories
walk_memories s i w ms = rest_memories w.rest s i w.next ms

-- the walk at the start of an effect (proofs/Effects: `effect_lamps`, `effect_memories`)
abbrev pub start_walk : Effect → Walk
start_walk Nothing = walk_at Ended 0
start_walk Lamps = walk_at Whole 0
start_walk Alone = walk_at Whole 0
start_walk Batch = walk_at Entries 0
start_walk Selective = walk_at Entries node_set_size

-- ---- the next request

-- the task t is the entry at place next of a list, whose rest follows it
pub record EntryTask (s : Settings) (bytes : List ℕ) (next : ℕ) (t : Task) : Type 0 where
  pub ok : TaskOk bytes t
  pub later : next < t.start
  pub rest : t.rest ≡ Entries
  pub hwpid : ℕ
  pub accepts : t.accepted ≡ hwpid_matches s hwpid
  pub entries : (reading (drop next bytes)).entries ≡ request_of t.pnum t.pcmd hwpid (task_data bytes t) ∷ (reading (drop t.end bytes)).entries

-- that entry, if there is one
abbrev pub EntryAt : Settings → List ℕ → ℕ → Option Task → Type 0
EntryAt s bytes next None = (reading (drop next bytes)).entries ≡ []
EntryAt s bytes next (Some t) = EntryTask s bytes next t

-- how many whole requests are left: the measure of the loop falls with it, even if PData is empty
abbrev pub whole_left : Rest → ℕ
whole_left Ended = 0
whole_left Whole = 1
whole_left Entries = 0

-- the task t follows the walk w: then what follows t is left, and fewer bytes
pub record Follows (s : Settings) (i : Request) (w : Walk) (t : Task) : Type 0 where
  pub ok : TaskOk i.pdata t
  pub not_whole : t.rest ≡ Whole → ⊥
  pub fewer : (at : ℕ) → t.start ≤ at → at ≤ length i.pdata → whole_left t.rest + (length i.pdata - at) < whole_left w.rest + (length i.pdata - w.next)
  pub lamps : (ls : List Lamp) → rest_lamps t.rest s i t.end (task_lamps s i.pdata t ls) ≡ rest_lamps w.rest s i w.next ls
  pub memories : (ms : Memories) → rest_memories t.rest s i t.end (task_memories i.pdata t ms) ≡ rest_memories w.rest s i w.next ms

-- nothing follows the walk w: what is left of it changes nothing
pub record NothingFollows (s : Settings) (i : Request) (w : Walk) : Type 0 where
  pub lamps : (ls : List Lamp) → rest_lamps w.rest s i w.next ls ≡ ls
  pub memories : (ms : Memories) → rest_memories w.rest s i w.next ms ≡ ms

-- the task that follows, if there is one
abbrev pub TaskAfter : Settings → Request → Walk → Option Task → Type 0
TaskAfter s i w None = NothingFollows s i w
TaskAfter s i w (Some t) = Follows s i w t
