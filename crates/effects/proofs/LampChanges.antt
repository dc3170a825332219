-- The invariant of the loop in `change_lamps`, and how each way through its body keeps it.
use mathlib.Core.Path.{◌≡◌, refl, sym, ap, ◌∙◌}
use mathlib.Core.List.{List}
use Prim.Native.Nat.{ℕ, ◌≤◌, ◌<◌}
use native.Mathlib.Omega.{arith}
use lib.ListN.{length, take, get_or, set, length-set}
use lib.Seq.{length-take-le}
use Rattle.dpa.specs.declared.settings.Settings.{Settings}
use Rattle.dpa.specs.Lists.{Bytes}
use Rattle.dpa.specs.Settings.{max_lamps}
use Rattle.lights.specs.declared.lamp.Lamp.{Lamp}
use Rattle.lights.specs.declared.walk.NextLamp.{NextLamp}
use Rattle.lights.specs.Lamp.{off}
use Rattle.lights.specs.Lights.{lamp_after}
use Rattle.lights.specs.Remaining.{lamp_changed, LampStep}
use Rattle.lights.proofs.RemainingLamps.{end_lamps, changed_implemented, changed_unimplemented}
use Rattle.batch.specs.Batch.{Request}
use Rattle.outcome.specs.Seen.{Memories, Sized}
use Rattle.effects.specs.declared.walk.Task.{Task}
use Rattle.effects.specs.declared.walk.Walk.{Walk}
use Rattle.effects.specs.Walk.{task_memories, task_walk, WalkOk, rest_lamps, walk_lamps, walk_memories, Follows, NothingFollows}
use Rattle.effects.proofs.Walks.{left, step_walk_ok, step_less, step_sized, step_lamps, step_memories}

-- What is before `walk` is done: the rest of the walk gives the same lamps and memories as the whole walk from `start`.
pub record PartlyDone (s : Settings) (i : Request) (start : Walk) (old : List Lamp) (ms : Memories) (walk : Walk) (after : List Lamp) (ns : Memories) : Type 0 where
  pub full : length after ≡ max_lamps
  pub ok : WalkOk i walk
  pub sized : Sized ns
  pub rest_lamps_lem : walk_lamps s i walk after ≡ walk_lamps s i start old
  pub rest_memories_lem : walk_memories s i walk ns ≡ walk_memories s i start ms

-- at the start
pub done_start : (s : Settings) (i : Request) (start : Walk) (old : List Lamp) (ms : Memories) → length old ≡ max_lamps → WalkOk i start → Sized ms
    → PartlyDone s i start old ms start old ms
done_start s i start old ms l h k = record { full = l; ok = h; sized = k; rest_lamps_lem = refl; rest_memories_lem = refl }

module _ {s : Settings} {i : Request} {start : Walk} {old : List Lamp} {ms : Memories} {walk : Walk} {after : List Lamp} {ns : Memories}
    (w : PartlyDone s i start old ms walk after ns) where
  module _ (z : walk.lamps.remaining ≡ 0) where
    -- without a remaining lamp and without a request the walk has ended
    pub done_end : NothingFollows s i walk → (after ≡ walk_lamps s i start old) × (ns ≡ walk_memories s i start ms)
    unfolding walk_lamps
    done_end none = (
      sym (none.lamps after) ∙ sym (ap (rest_lamps walk.rest s i walk.next) (end_lamps s.lamp_count (take walk.next i.pdata) walk.lamps z after)) ∙ w.rest_lamps_lem,
      sym (none.memories ns) ∙ w.rest_memories_lem,
    )

    -- a request is executed
    module _ (small : Bytes i.pdata) (t : Task) (next : Follows s i walk t) (r : Walk) (os : Memories) (p : r ≡ task_walk i.pdata t) (q : os ≡ task_memories i.pdata t ns) where
      pub done_task : PartlyDone s i start old ms r after os
      done_task =
          record {
            full = w.full;
            ok = step_walk_ok s i small walk w.ok z t next ns w.sized r os p q;
            sized = step_sized s i small walk w.ok z t next ns w.sized r os p q;
            rest_lamps_lem = step_lamps s i small walk w.ok z t next ns w.sized r os p q after ∙ w.rest_lamps_lem;
            rest_memories_lem = step_memories s i small walk w.ok z t next ns w.sized r os p q ∙ w.rest_memories_lem;
          }

      pub task_less : left i r < left i walk
      task_less = step_less s i small walk w.ok z t next ns w.sized r os p q

  -- a lamp is changed
  module _ (x : NextLamp) (step : LampStep (take walk.next i.pdata) walk.lamps x) where
    -- the walk after it
    abbrev rest : Walk
    rest = record { rest = walk.rest; next = walk.next; lamps = x.rest }

    pub lamp_less : left i rest < left i walk
    lamp_less =
        let n : length (take walk.next i.pdata) ≡ walk.next = length-take-le walk.next i.pdata w.ok.next_max in
        omega (arith, step.further, step.remains.at_max, w.ok.next_max)

    module _ (n : ℕ) (count : n ≡ s.lamp_count) where
      done_lamp : (ls : List Lamp) → length ls ≡ max_lamps → ls ≡ lamp_changed x.rest.command n x.lamp x.power x.seconds after
          → PartlyDone s i start old ms rest ls ns
      unfolding walk_lamps
      done_lamp ls l e =
          record {
            full = l;
            ok = record {
              next_max = w.ok.next_max;
              remains = step.remains;
              whole = λ e. record { at_start = (w.ok.whole e).at_start; valid = (w.ok.whole e).valid };
            };
            sized = w.sized;
            rest_lamps_lem =
                ap (walk_lamps s i rest) (e ∙ ap (λ (k : ℕ). lamp_changed x.rest.command k x.lamp x.power x.seconds after) count)
                ∙ ap (rest_lamps walk.rest s i walk.next) (step.lamps s.lamp_count after w.full)
                ∙ w.rest_lamps_lem;
            rest_memories_lem = w.rest_memories_lem;
          }

      -- an implemented lamp
      pub done_implemented : (y : Lamp) → x.lamp < n → y ≡ lamp_after x.rest.command (get_or after x.lamp off) x.power x.seconds
          → PartlyDone s i start old ms rest (set after x.lamp y) ns
      done_implemented y h e =
          done_lamp (set after x.lamp y) (length-set after x.lamp y ∙ w.full)
          (changed_implemented x.rest.command n x.lamp x.power x.seconds after y h e)

      -- an unimplemented lamp
      pub done_unimplemented : n ≤ x.lamp → PartlyDone s i start old ms rest after ns
      done_unimplemented h = done_lamp after w.full (changed_unimplemented x.rest.command n x.lamp x.power x.seconds after h)
