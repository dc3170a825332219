-- The walk of a request, alone or in a list: it can go on, it ends where the request does, and it gives the lamps after the request.
use mathlib.Core.Path.{◌≡◌, refl, sym, ap, ◌∙◌}
use mathlib.Core.List.{List}
use mathlib.Core.Bool.{Bool, true, false, cond, ◌&&◌, and-false}
use Prim.Native.Nat.{ℕ, ◌+◌, ◌-◌, ◌≤◌}
use native.Mathlib.Omega.{arith}
use lib.Dec.{leb, eqb}
use lib.ListN.{length, take, drop}
use lib.Seq.{length-take-le}
use Rattle.std.proofs.lemmas.List.{drop-take}
use borrow.Author.Tests.{leb-true, eq-eqb, ne_eqb}
use Rattle.dpa.specs.declared.settings.Settings.{Settings}
use Rattle.dpa.specs.Lists.{Bytes}
use Rattle.dpa.specs.Pnum.{lights_pnum}
use Rattle.dpa.proofs.Bool.{by_cond, by_test}
use Rattle.dpa.proofs.Bytes.{bytes_take}
use Rattle.lights.specs.declared.lamp.Lamp.{Lamp}
use Rattle.lights.specs.declared.apply.Command.TheVariants.{Lower}
use Rattle.lights.specs.Lights.{command_pcmd, lights_request, changes_lamps}
use Rattle.lights.specs.Remaining.{Remaining, walk_end, walk_start}
use Rattle.lights.proofs.RemainingLamps.{start_remains, start_lamps, end_remains, end_lamps}
use Rattle.lights.proofs.Requests.{unchanged}
use Rattle.outcome.specs.Seen.{Memories, peripheral_memories, peripheral_lamps}
use Rattle.effects.specs.declared.walk.Task.{Task}
use Rattle.effects.specs.declared.walk.Walk.{Walk}
use Rattle.effects.specs.Walk.{task_data, task_lamps, task_memories, TaskOk, walk_at, lights_walk, task_walk, current_lamps}

-- the bytes of a task up to its end hold its PData
pub task_data_lem : (bytes : List ℕ) (t : Task) → t.start ≤ t.end → drop t.start (take t.end bytes) ≡ task_data bytes t
task_data_lem bytes t h =
    let e : t.end ≡ t.start + (t.end - t.start) = omega arith in
    ap (λ (n : ℕ). drop t.start (take n bytes)) e ∙ drop-take t.start (t.end - t.start) bytes

module _ (bytes : List ℕ) (t : Task) where
  -- after a test of the power entries, PCMD says whether a request changes lamps
  pub tested_changes : TaskOk bytes t → t.tested ≡ true → t.pnum ≡ lights_pnum → leb t.pcmd (command_pcmd Lower) ≡ changes_lamps t.pcmd (task_data bytes t)
  unfolding changes_lamps
  tested_changes good a l =
      by_test (leb t.pcmd (command_pcmd Lower)) (λ e. e ∙ sym (good.valid a l (leb-true _ _ e))) (λ e. rw e)

  -- the walk of a task for the lights
  pub walk_lights : t.accepted ≡ true → t.pnum ≡ lights_pnum → lights_walk bytes t ≡ task_walk bytes t
  unfolding task_walk
  walk_lights a e = rw (a, eq-eqb t.pnum lights_pnum e)

  -- the walk of one that is not accepted, and of one for another peripheral
  pub walk_rejected : t.accepted ≡ false → walk_at t.rest t.end ≡ task_walk bytes t
  unfolding task_walk
  walk_rejected a = rw a

  pub walk_elsewhere : (t.pnum ≡ lights_pnum → ⊥) → walk_at t.rest t.end ≡ task_walk bytes t
  unfolding task_walk
  walk_elsewhere n = rw (ne_eqb t.pnum lights_pnum n, and-false t.accepted)

  -- the memories after a task that is accepted, and after one that is not
  pub memories_accepted : (ms : Memories) → t.accepted ≡ true → task_memories bytes t ms ≡ peripheral_memories t.pnum t.pcmd (task_data bytes t) ms
  unfolding task_memories
  memories_accepted ms a = rw a

  pub memories_rejected : (ms : Memories) → t.accepted ≡ false → task_memories bytes t ms ≡ ms
  unfolding task_memories
  memories_rejected ms a = rw a

-- nothing remains at the end of a request
pub at_end_remains : (bytes : List ℕ) (next : ℕ) → next ≤ length bytes → Remaining (take next bytes) (walk_end next)
at_end_remains bytes next h = end_remains (take next bytes) next (sym (length-take-le next bytes h))

-- r is a walk of the task t; f is what its rest does to the lamps
pub record TaskWalk (s : Settings) (bytes : List ℕ) (t : Task) (f : List Lamp → List Lamp) (r : Walk) : Type 0 where
  pub remains : Remaining (take r.next bytes) r.lamps
  pub follows : r.rest ≡ t.rest
  pub ends : r.next ≡ t.end
  pub further : t.start ≤ r.lamps.at
  pub lamps : (ls : List Lamp) → current_lamps s bytes r ls ≡ f ls

module _ (s : Settings) (bytes : List ℕ) (t : Task) (good : TaskOk bytes t) where
  abbrev front : List ℕ
  front = take t.end bytes

  abbrev pdata : List ℕ
  pdata = task_data bytes t

  same_walk : {f g : List Lamp → List Lamp} {r : Walk} → ((ls : List Lamp) → f ls ≡ g ls) → TaskWalk s bytes t f r → TaskWalk s bytes t g r
  same_walk e w = record { remains = w.remains; follows = w.follows; ends = w.ends; further = w.further; lamps = λ ls. w.lamps ls ∙ e ls }

  -- nothing remains of a request that leaves the lamps
  nothing_remains : (f : List Lamp → List Lamp) → ((ls : List Lamp) → f ls ≡ ls) → TaskWalk s bytes t f (walk_at t.rest t.end)
  nothing_remains f e =
      record {
        remains = at_end_remains bytes t.end good.end_max;
        follows = refl;
        ends = refl;
        further = good.start_max;
        lamps = λ ls. end_lamps s.lamp_count front (walk_end t.end) refl ls ∙ sym (e ls);
      }

  module _ (small : Bytes bytes) where
    -- a request that changes lamps
    changing : changes_lamps t.pcmd pdata ≡ true
        → TaskWalk s bytes t (λ ls. (lights_request s t.pcmd pdata ls).after) (record { rest = t.rest; next = t.end; lamps = walk_start t.pcmd front t.start })
    changing e =
        let h : changes_lamps t.pcmd (drop t.start front) ≡ true = ap (changes_lamps t.pcmd) (task_data_lem bytes t good.start_max) ∙ e in
        record {
          remains = start_remains t.pcmd front t.start h (bytes_take t.end bytes small);
          follows = refl;
          ends = refl;
          further = omega arith;
          lamps = λ ls. start_lamps t.pcmd front t.start h (bytes_take t.end bytes small) s ls
              ∙ ap (λ (d : List ℕ). (lights_request s t.pcmd d ls).after) (task_data_lem bytes t good.start_max);
        }

    lights_walk_lem : TaskWalk s bytes t (λ ls. (lights_request s t.pcmd pdata ls).after) (lights_walk bytes t)
    unfolding lights_walk
    lights_walk_lem =
        by_cond (λ (r : Walk). TaskWalk s bytes t (λ ls. (lights_request s t.pcmd pdata ls).after) r) (changes_lamps t.pcmd pdata) _ _ changing
        (λ e. nothing_remains (λ ls. (lights_request s t.pcmd pdata ls).after) (λ ls. unchanged s t.pcmd pdata ls e))

    -- any task
    pub task_walk_lem : TaskWalk s bytes t (task_lamps s bytes t) (task_walk bytes t)
    unfolding task_walk task_lamps peripheral_lamps
    task_walk_lem = go t.accepted (eqb t.pnum lights_pnum) refl refl
      where
        go : (a b : Bool) → t.accepted ≡ a → eqb t.pnum lights_pnum ≡ b
            → TaskWalk s bytes t (task_lamps s bytes t) (cond (a && b) (lights_walk bytes t) (walk_at t.rest t.end))
        go true true p q = same_walk (λ ls. rw (p, q)) lights_walk_lem
        go true false p q = nothing_remains (task_lamps s bytes t) (λ ls. rw (p, q))
        go false b p q = nothing_remains (task_lamps s bytes t) (λ ls. rw p)
