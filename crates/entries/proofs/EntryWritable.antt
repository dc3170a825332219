-- The steps of an entry can be written: those of a lamp entry are in range.
use mathlib.Core.List.{List, [], ◌∷◌}
use mathlib.Core.Path.{◌≡◌}
use Prim.Native.Nat.{ℕ, zero, suc, ◌≤◌, ◌<◌}
use native.Mathlib.Omega.{arith}
use lib.ListN.{length, get_or, take}
use borrow.Author.Tests.{eqb-true, ltb-true}
use Rattle.dpa.specs.Settings.{max_lamps}
use Rattle.dpa.specs.Lists.{All}
use Rattle.dpa.proofs.Bool.{and_left}
use Rattle.lights.specs.Lamp.{max_level}
use Rattle.book.specs.declared.step.Step.{Step}
use Rattle.book.specs.Book.{step_length, step_of, steps_in}
use Rattle.book.proofs.Records.{records_take}
use Rattle.book.proofs.Positions.{steps_length, zero_step, steps_at}
use Rattle.step.specs.Step.{ram_kind, AllStepsGood}
use Rattle.step.proofs.Faults.{lamp_good}
use Rattle.step.proofs.GoodSteps.{good_steps}
use Rattle.entries.specs.Join.{follows, entries_of}
use Rattle.entries.specs.EntrySize.{one_step_max, FirstEntry}
use Rattle.entries.specs.Writing.{EntryWritable}
use Rattle.entries.proofs.EntryGroups.{Linked, EntryGroup, entry_groups}

-- lamp steps that follow a lamp step are in range
linked_lamps : (p : Step) (ss : List Step) → Linked p ss → p.kind < ram_kind
    → (j : ℕ) → j < length ss → ((get_or ss j zero_step).value ≤ max_level) × ((get_or ss j zero_step).target < max_lamps)
unfolding follows
linked_lamps p [] l k j h = absurd (omega arith)
linked_lamps p (s ∷ ss) l k zero h =
    let same : s.kind ≡ p.kind = eqb-true _ _ (and_left _ _ l.1) in
    let g = lamp_good s l.0 (omega arith) in
    (g.value_max, g.target_max)
linked_lamps p (s ∷ ss) l k (suc j) h =
    let same : s.kind ≡ p.kind = eqb-true _ _ (and_left _ _ l.1) in
    linked_lamps s ss l.2 (omega arith) j (omega arith)

-- so are all steps of a lamp entry
group_lamps : (limit : ℕ) (ss : List Step) → EntryGroup limit ss → (get_or ss 0 zero_step).kind < ram_kind
    → (j : ℕ) → j < length ss → ((get_or ss j zero_step).value ≤ max_level) × ((get_or ss j zero_step).target < max_lamps)
group_lamps limit [] r k j h = absurd r
group_lamps limit (s ∷ ss) r k zero h = let g = lamp_good s r.0 k in (g.value_max, g.target_max)
group_lamps limit (s ∷ ss) r k (suc j) h = linked_lamps s ss r.1 k j (omega arith)

-- the first entry of good steps can be written
pub entry_writable : (limit : ℕ) → one_step_max ≤ limit → (n k size : ℕ) (a : List ℕ) → AllStepsGood a n → FirstEntry limit (steps_in n a) k size → EntryWritable a k
entry_writable limit room n k size a g f =
    let ss = steps_in n a in
    let all : All (EntryGroup limit) (entries_of limit ss) = entry_groups limit room ss (good_steps n a g) in
    let first : EntryGroup limit (take k ss) = (rw f.first at all).0 in
    let r : EntryGroup limit (steps_in k a) = rw (records_take step_length step_of n k a (omega (arith, f.within, steps_length n a))) at first in
    λ t j l. rw (steps_at k a j l) at
    (group_lamps limit (steps_in k a) r (rw (steps_at k a 0 (omega (arith, f.some))) (ltb-true _ _ t)) j (omega (arith, steps_length k a)))
