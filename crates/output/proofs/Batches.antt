-- The batches of a scene: each is a list of entries within the size limit.
use mathlib.Core.Bool.{true}
use mathlib.Core.List.{List, [], ◌∷◌, ◌++◌}
use mathlib.Core.Path.{◌≡◌}
use Prim.Native.Nat.{ℕ, ◌≤◌}
use native.Mathlib.Omega.{arith}
use lib.ListN.{length, length-append}
use borrow.Author.Tests.{leb-true}
use Rattle.dpa.specs.Lists.{All}
use Rattle.dpa.specs.NodeSet.{node_set_size}
use Rattle.dpa.proofs.All.{all_snoc}
use Rattle.batch.specs.Batch.{entries_bytes, entry_bytes}
use Rattle.book.specs.declared.step.Step.{Step}
use Rattle.step.proofs.Faults.{Good}
use Rattle.entries.specs.Join.{entries_of}
use Rattle.entries.specs.EntrySize.{EntryLimit}
use Rattle.entries.specs.Group.{concat}
use Rattle.entries.proofs.Groups.{all_group, concat_group}
use Rattle.entries.proofs.EntryGroups.{EntryGroup, entry_groups}
use Rattle.output.specs.Requests.{Limits, fits_batch, list_of, batches_of, entry_limit, list_limit, selected_entry_limit, selected_list_limit}

-- groups that joining makes, in a list of at most `list_max` bytes
pub record BatchRule (entry_max list_max h : ℕ) (rs : List (List Step)) : Type 0 where
  pub entries : All (EntryGroup entry_max) rs
  pub size : length (list_of h rs) ≤ list_max

module _ {entry_max list_max : ℕ} {front : List ℕ} (l : Limits entry_max list_max front) (h : ℕ) where
  batch_one : (r : List Step) → EntryGroup entry_max r → BatchRule entry_max list_max h (r ∷ [])
  unfolding entries_bytes entry_bytes
  batch_one [] r = absurd r
  batch_one (s ∷ ss) r = record { entries = (r, tt); size = simp length-append (omega (arith, r.2, l.list)) }

  batch_more : (rs : List (List Step)) (r : List Step) → BatchRule entry_max list_max h rs → EntryGroup entry_max r → fits_batch list_max h rs r ≡ true
      → BatchRule entry_max list_max h (rs ++ (r ∷ []))
  batch_more rs r b q f = record { entries = all_snoc (EntryGroup entry_max) rs r b.entries q; size = leb-true _ _ f }

  -- each batch of good steps keeps this rule
  pub batches_rule : (ss : List Step) → All Good ss → All (BatchRule entry_max list_max h) (batches_of entry_max list_max h ss)
  batches_rule ss a =
      all_group (fits_batch list_max h) (BatchRule entry_max list_max h) (EntryGroup entry_max) batch_one batch_more (entries_of entry_max ss)
      (entry_groups entry_max l.entry ss a)

-- the limit of an entry alone
pub entry_limit_lem : {entry_max list_max : ℕ} {front : List ℕ} → Limits entry_max list_max front → EntryLimit entry_max
entry_limit_lem l = record { step = l.entry; frame = omega (arith, l.list, l.frame) }

-- the limits of a batch are possible limits
pub batch_limits : Limits entry_limit list_limit []
batch_limits = record { entry = omega arith; list = omega arith; frame = omega arith }

-- and so are those of a selective batch, with a node set in front
pub selected_limits : (nodes : List ℕ) → length nodes ≡ node_set_size → Limits selected_entry_limit selected_list_limit nodes
selected_limits nodes e = record { entry = omega arith; list = omega arith; frame = omega arith }

-- filling loses and reorders no entry
pub filling_keeps : (entry_max list_max h : ℕ) (ss : List Step) → concat (batches_of entry_max list_max h ss) ≡ entries_of entry_max ss
filling_keeps entry_max list_max h ss = concat_group (fits_batch list_max h) (entries_of entry_max ss)
