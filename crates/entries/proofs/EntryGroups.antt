-- Joining good steps gives entries whose steps are good and follow one another.
use mathlib.Core.Bool.{true}
use mathlib.Core.List.{List, [], ◌∷◌, ◌++◌}
use mathlib.Core.Path.{◌≡◌}
use Prim.Native.Nat.{ℕ, ◌≤◌}
use native.Mathlib.Omega.{arith}
use lib.Dec.{eqb}
use lib.ListN.{length}
use borrow.Author.Tests.{leb-true}
use Rattle.dpa.specs.Lists.{All}
use Rattle.dpa.proofs.Bool.{by_test, and_left, and_right}
use Rattle.book.specs.declared.step.Step.{Step}
use Rattle.step.specs.Step.{is_lamp}
use Rattle.step.proofs.Faults.{Good}
use Rattle.entries.specs.Entry.{power_bytes, entry_data}
use Rattle.entries.specs.Join.{last_of, follows, joins, entries_of}
use Rattle.entries.specs.EntrySize.{one_step_max}
use Rattle.entries.specs.Group.{concat}
use Rattle.entries.proofs.Groups.{all_group, concat_group}

-- each step is good and follows the one before; the first follows p
abbrev pub Linked : Step → List Step → Type 0
Linked p [] = Unit
Linked p (s ∷ ss) = Good s × (follows p s ≡ true) × Linked s ss

-- the group of steps of an entry with at most `limit` bytes of PData
abbrev pub EntryGroup : ℕ → List Step → Type 0
EntryGroup limit [] = ⊥
EntryGroup limit (s ∷ ss) = Good s × Linked s ss × (length (entry_data s ss) ≤ limit)

linked_snoc : (p : Step) (ss : List Step) (x : Step) → Linked p ss → Good x → follows (last_of p ss) x ≡ true → Linked p (ss ++ (x ∷ []))
linked_snoc p [] x l g f = (g, f, tt)
linked_snoc p (s ∷ ss) x l g f = (l.0, l.1, linked_snoc s ss x l.2 g f)

-- an entry of one step fits into any limit
one_length : (s : Step) → length (entry_data s []) ≤ one_step_max
unfolding entry_data power_bytes
one_length s =
    by_test (is_lamp s.kind)
    (λ e. rw e (by_test (eqb s.time 0) (λ t. rw t (omega arith)) (λ t. rw t (omega arith))))
    (λ e. rw e (omega arith))

module _ (limit : ℕ) (one : one_step_max ≤ limit) where
  group_one : (s : Step) → Good s → EntryGroup limit (s ∷ [])
  group_one s g = (g, tt, omega (arith, one_length s))

  group_more : (cur : List Step) (x : Step) → EntryGroup limit cur → Good x → joins limit cur x ≡ true → EntryGroup limit (cur ++ (x ∷ []))
  group_more [] x r g j = absurd r
  group_more (p ∷ ps) x r g j =
      (r.0, linked_snoc p ps x r.1 g (and_left _ _ j), leb-true _ _ (and_right (follows (last_of p ps) x) _ j))

  -- every entry of good steps is such a group
  pub entry_groups : (ss : List Step) → All Good ss → All (EntryGroup limit) (entries_of limit ss)
  entry_groups = all_group (joins limit) (EntryGroup limit) Good group_one group_more

-- joining keeps all steps and their order
pub joining_keeps : (limit : ℕ) (ss : List Step) → concat (entries_of limit ss) ≡ ss
joining_keeps limit = concat_group (joins limit)
