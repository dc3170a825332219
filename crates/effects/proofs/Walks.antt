-- Laws of the walk over an effect: the request that follows, and the step over it.
use mathlib.Core.Path.{◌≡◌, refl, sym, ap, subst, ◌∙◌}
use mathlib.Core.List.{List, [], ◌∷◌}
use mathlib.Core.Bool.{Bool, true, false, cond}
use Prim.Native.Nat.{ℕ, ◌+◌, ◌-◌, ◌≤◌, ◌<◌}
use native.Mathlib.Omega.{arith}
use lib.ListN.{length, take, drop}
use lib.Seq.{length-take-le, drop-drop}
use Rattle.std.proofs.Common.{Option, None, Some}
use Rattle.dpa.specs.declared.frame.Frame.{Frame}
use Rattle.dpa.specs.declared.settings.Settings.{Settings}
use Rattle.dpa.specs.Lists.{Bytes, slice}
use Rattle.dpa.proofs.Bool.{by_cond}
use Rattle.dpa.proofs.Lists.{slice_to_end}
use Rattle.lights.specs.declared.lamp.Lamp.{Lamp}
use Rattle.lights.specs.Lights.{changes_lamps}
use Rattle.lights.proofs.RemainingLamps.{end_lamps}
use Rattle.batch.specs.Batch.{Entry, Fault, entry_head_size, at_end, next_entry, Request, request_of, Reading, run_entries, reading}
use Rattle.batch.proofs.Entries.{entry_sized_at}
use Rattle.batch.proofs.Lists.{reading_end, reading_entry, reading_fault}
use Rattle.outcome.specs.Request.{hwpid_matches, header_request}
use Rattle.outcome.specs.Seen.{Memories, Sized, peripheral_memories, peripheral_lamps, entry_memories, entry_lamps}
use Rattle.outcome.proofs.Parts.{peripheral_keeps_sizes}
use Rattle.effects.specs.declared.walk.Rest.{Rest}
use Rattle.effects.specs.declared.walk.Rest.TheVariants.{Ended, Whole, Entries}
use Rattle.effects.specs.declared.walk.Task.{Task}
use Rattle.effects.specs.declared.walk.Walk.{Walk}
use Rattle.effects.specs.Walk.{task_data, task_lamps, task_memories, whole_task, task_walk, WalkOk, rest_lamps, rest_memories, walk_lamps, walk_memories, EntryTask, EntryAt, whole_left, Follows, NothingFollows, TaskAfter}
use Rattle.effects.proofs.Tasks.{TaskWalk, task_walk_lem}

-- ---- the entry at a place, for each return of `entry_task`

module _ (bytes : List ℕ) (next : ℕ) where
  -- the rest of the list, as the code reads it
  abbrev rest : List ℕ
  rest = slice bytes next (length bytes - next)

  -- the closing zero ends a list
  pub none_at_end : at_end rest ≡ true → (reading (drop next bytes)).entries ≡ []
  none_at_end o = ap (λ (r : Reading). r.entries) (reading_end (drop next bytes) (ap at_end (sym (slice_to_end next bytes)) ∙ o))

  -- at a fault nothing more is read
  pub none_at_fault : at_end rest ≡ false → {k a : ℕ} → Fault k a ≡ next_entry rest → (reading (drop next bytes)).entries ≡ []
  none_at_fault o e =
      let same : rest ≡ drop next bytes = slice_to_end next bytes in
      ap (λ (r : Reading). r.entries) (reading_fault (drop next bytes) (ap at_end (sym same) ∙ o) (ap next_entry (sym same) ∙ sym e))

  module _ (inside : next ≤ length bytes) {l p c h : ℕ} (e : Entry l p c h ≡ next_entry rest) where
    -- an entry lies in the bytes
    pub entry_inside : next + l ≤ length bytes
    entry_inside = (entry_sized_at bytes next inside (sym e)).1

    -- it is the next task
    pub entry_found : (s : Settings) (a : Bool) → a ≡ hwpid_matches s h
        → EntryTask s bytes next (record { pnum = p; pcmd = c; accepted = a; tested = false; start = next + entry_head_size; end = next + l; rest = Entries })
    entry_found s a m =
        let k = entry_sized_at bytes next inside (sym e) in
        let d : (next + l) - (next + entry_head_size) ≡ l - entry_head_size = omega arith in
        record {
          ok = record { start_max = omega arith; end_max = k.1; valid = λ z _ _. cc };
          later = omega arith;
          rest = refl;
          hwpid = h;
          accepts = m;
          entries =
              ap (λ (r : Reading). r.entries) (reading_entry (drop next bytes) (ap next_entry (sym (slice_to_end next bytes)) ∙ sym e))
              ∙ rw (d, drop-drop, drop-drop);
        }

-- ---- the task that follows, for each rest

-- without entries nothing runs
none_run : {S : Type 0} (f : Request → S → S) {is : List Request} (st : S) → is ≡ [] → run_entries f is st ≡ st
unfolding run_entries
none_run f st e = ap (λ (is : List Request). run_entries f is st) e

-- the first of some entries runs, then the others
first_run : {S : Type 0} (f : Request → S → S) {is js : List Request} (i : Request) (st : S) → is ≡ i ∷ js → run_entries f js (f i st) ≡ run_entries f is st
unfolding run_entries
first_run f i st e = sym (ap (λ (is : List Request). run_entries f is st) e)

module _ (s : Settings) (i : Request) (w : Walk) where
  abbrev pdata : List ℕ
  pdata = i.pdata

  -- nothing follows
  pub after_ended : w.rest ≡ Ended → NothingFollows s i w
  after_ended e =
      record {
        lamps = λ ls. ap (λ (r : Rest). rest_lamps r s i w.next ls) e;
        memories = λ ms. ap (λ (r : Rest). rest_memories r s i w.next ms) e;
      }

  -- an entry, or none
  pub after_entries : w.rest ≡ Entries → (x : Option Task) → EntryAt s pdata w.next x → TaskAfter s i w x
  unfolding task_lamps task_memories entry_lamps entry_memories
  after_entries e None none =
      record {
        lamps = λ ls. ap (λ (r : Rest). rest_lamps r s i w.next ls) e ∙ none_run (entry_lamps s) ls none;
        memories = λ ms. ap (λ (r : Rest). rest_memories r s i w.next ms) e ∙ none_run (entry_memories s) ms none;
      }
  after_entries e (Some t) n =
      let request = request_of t.pnum t.pcmd n.hwpid (task_data pdata t) in
      record {
        ok = n.ok;
        not_whole = λ z. let same = sym n.rest ∙ z in cc;
        fewer = λ at h k. fewer t.rest w.rest _ _ n.rest e (omega (arith, n.later));
        lamps = λ ls.
            ap (λ (r : Rest). rest_lamps r s i t.end (task_lamps s pdata t ls)) n.rest
            ∙ ap (λ (b : Bool). rest_lamps Entries s i t.end (cond b (peripheral_lamps s t.pnum t.pcmd (task_data pdata t) ls) ls)) n.accepts
            ∙ first_run (entry_lamps s) request ls n.entries
            ∙ sym (ap (λ (r : Rest). rest_lamps r s i w.next ls) e);
        memories = λ ms.
            ap (λ (r : Rest). rest_memories r s i t.end (task_memories pdata t ms)) n.rest
            ∙ ap (λ (b : Bool). rest_memories Entries s i t.end (cond b (peripheral_memories t.pnum t.pcmd (task_data pdata t) ms) ms)) n.accepts
            ∙ first_run (entry_memories s) request ms n.entries
            ∙ sym (ap (λ (r : Rest). rest_memories r s i w.next ms) e);
      }
    where
      fewer : (q r : Rest) (c d : ℕ) → q ≡ Entries → r ≡ Entries → c < d → whole_left q + c < whole_left r + d
      fewer q r c d p e h = rw (ap whole_left p, ap whole_left e) (omega arith)

-- the request of the frame
pub after_whole : (s : Settings) (h : Frame) (d : List ℕ) (w : Walk) (t : Task) → t ≡ whole_task h (length d) → WalkOk (header_request h d) w → w.rest ≡ Whole
    → Follows s (header_request h d) w t
unfolding task_lamps task_memories
after_whole s h d w t q good e =
    let i = header_request h d in
    let known = good.whole e in
    let same : task_data d (whole_task h (length d)) ≡ d = slice_to_end 0 d in
    let whole : Follows s i w (whole_task h (length d)) = record {
      ok = record { start_max = omega arith; end_max = omega arith; valid = λ _ l c. ap (changes_lamps h.pcmd) same ∙ known.valid l c };
      not_whole = λ z. cc;
      fewer = λ at _ k. rw (ap whole_left e) (omega (arith, known.at_start));
      lamps = λ ls. ap (λ (y : List ℕ). peripheral_lamps s h.pnum h.pcmd y ls) same ∙ sym (ap (λ (r : Rest). rest_lamps r s i w.next ls) e);
      memories = λ ms. ap (λ (y : List ℕ). peripheral_memories h.pnum h.pcmd y ms) same ∙ sym (ap (λ (r : Rest). rest_memories r s i w.next ms) e);
    } in
    subst (Follows s i w) (sym q) whole

-- ---- the step over a task

-- how much of a walk is left
abbrev pub left : Request → Walk → ℕ
left i w = whole_left w.rest + (length i.pdata - w.lamps.at)

-- the next power entry of a walk is before the next entry
walk_inside : (bytes : List ℕ) (w : Walk) → w.next ≤ length bytes → w.lamps.at ≤ length (take w.next bytes) → w.lamps.at ≤ w.next
walk_inside bytes w h k =
    let n : length (take w.next bytes) ≡ w.next = length-take-le w.next bytes h in
    omega arith

-- a task keeps the sizes of the memories
task_keeps_sizes : (bytes : List ℕ) (t : Task) (ms : Memories) → Sized ms → Sized (task_memories bytes t ms)
unfolding task_memories
task_keeps_sizes bytes t ms k = by_cond Sized t.accepted _ _ (λ _. peripheral_keeps_sizes t.pnum t.pcmd (task_data bytes t) ms k) (λ _. k)

module _ (s : Settings) (i : Request) (small : Bytes i.pdata) (w : Walk) (good : WalkOk i w) (z : w.lamps.remaining ≡ 0) (t : Task) (next : Follows s i w t)
    (ms : Memories) (sized : Sized ms) (r : Walk) (ns : Memories) (by-walk : r ≡ task_walk i.pdata t) (by-memories : ns ≡ task_memories i.pdata t ms) where
  walk : TaskWalk s i.pdata t (task_lamps s i.pdata t) r
  walk = subst (TaskWalk s i.pdata t (task_lamps s i.pdata t)) (sym by-walk) (task_walk_lem s i.pdata t next.ok small)

  -- the walk can go on
  pub step_walk_ok : WalkOk i r
  step_walk_ok =
      record {
        next_max = omega (arith, walk.ends, next.ok.end_max);
        remains = walk.remains;
        whole = λ e. absurd (next.not_whole (sym walk.follows ∙ e));
      }

  -- less is left
  pub step_less : left i r < left i w
  step_less =
      let inside = walk_inside i.pdata r step_walk_ok.next_max walk.remains.at_max in
      let before = walk_inside i.pdata w good.next_max good.remains.at_max in
      rw (ap whole_left walk.follows) (omega (arith, next.fewer r.lamps.at walk.further (omega (arith, inside, step_walk_ok.next_max)), before))

  -- the memories have their sizes
  pub step_sized : Sized ns
  step_sized = subst Sized (sym by-memories) (task_keeps_sizes i.pdata t ms sized)

  -- the lamps and the memories at the end are the same
  pub step_lamps : (ls : List Lamp) → walk_lamps s i r ls ≡ walk_lamps s i w ls
  unfolding walk_lamps
  step_lamps ls =
      (λ j. rest_lamps (walk.follows j) s i (walk.ends j) (walk.lamps ls j))
      ∙ next.lamps ls
      ∙ sym (ap (rest_lamps w.rest s i w.next) (end_lamps s.lamp_count (take w.next i.pdata) w.lamps z ls))

  pub step_memories : walk_memories s i r ns ≡ walk_memories s i w ms
  step_memories = (λ j. rest_memories (walk.follows j) s i (walk.ends j) (by-memories j)) ∙ next.memories ms
