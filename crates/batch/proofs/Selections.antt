-- The PData of a selective batch: what it is to a node.
use mathlib.Core.Path.{◌≡◌, refl, sym, ap, subst, ◌∙◌}
use mathlib.Core.Logic.{◌↔◌}
use mathlib.Core.List.{List, ◌++◌}
use mathlib.Core.Bool.{true, false}
use Prim.Native.Nat.{ℕ, ◌+◌, ◌-◌, ◌≤◌, ◌<◌}
use native.Mathlib.Omega.{arith}
use lib.ListN.{length, take, drop, length-append, length-drop}
use lib.Seq.{take_at, drop_at}
use lib.Dec.{ltb}
use borrow.Author.Tests.{lt-ltb, le-ltb, ltb-false}
use Rattle.dpa.specs.NodeSet.{node_set_size, selects}
use Rattle.dpa.specs.Lists.{Bytes, slice}
use Rattle.dpa.proofs.Bool.{by_cond}
use Rattle.dpa.proofs.Lists.{slice_to_end}
use Rattle.dpa.proofs.Bytes.{bytes_drop}
use Rattle.batch.specs.Batch.{ListCheck, Sound, Broken, reading, reason_of, place_of, shift_fault, ListFault}
use Rattle.batch.specs.Selective.{Selection, TooShort, NotSelected, Selected, selective_pdata_min, check_from, selection_of}
use Rattle.batch.proofs.Faults.{broken_not_sound}
use Rattle.batch.proofs.Places.{reported_fault, place_max}

-- `check_from 0` is the check of a batch
pub check_from_front : (d : List ℕ) → check_from 0 d ≡ (reading d).check
check_from_front d = unmoved (reading d).check
  where
    unmoved : (x : ListCheck) → shift_fault 0 x ≡ x
    unmoved Sound = refl
    unmoved (Broken r a) = ap (Broken r) (let z : 0 + a ≡ a = omega arith in z)

-- the place of `check_from n` is at most the length of PData
pub place_max_from : (d : List ℕ) (n : ℕ) → n ≤ length d → place_of (check_from n d) ≤ length d
place_max_from d n h = moved (reading (drop n d)).check (place_max (drop n d))
  where
    moved : (x : ListCheck) → place_of x ≤ length (drop n d) → place_of (shift_fault n x) ≤ length d
    moved Sound k = omega arith
    moved (Broken r a) k = omega (arith, length-drop n d)

-- a reason of `check_from n` is that of a fault of the list, at its place in PData
pub reported_from : (d : List ℕ) (n : ℕ) → Bytes d → ¬ (reason_of (check_from n d) ≡ 0)
    → (n ≤ place_of (check_from n d)) × ListFault (drop n d) (reason_of (check_from n d)) (place_of (check_from n d) - n)
reported_from d n by = moved (reading (drop n d)).check (reported_fault (drop n d) (bytes_drop n d by))
  where
    moved : (x : ListCheck) → (¬ (reason_of x ≡ 0) → ListFault (drop n d) (reason_of x) (place_of x)) → ¬ (reason_of (shift_fault n x) ≡ 0)
        → (n ≤ place_of (shift_fault n x)) × ListFault (drop n d) (reason_of (shift_fault n x)) (place_of (shift_fault n x) - n)
    moved Sound f z = absurd (z refl)
    moved (Broken r a) f z = (omega arith, subst (ListFault (drop n d) r) (let e : a ≡ n + a - n = omega arith in e) (f z))

-- `check_from n` is sound exactly if the list by itself is
pub sound_from : (d : List ℕ) (n : ℕ) → (check_from n d ≡ Sound) ↔ ((reading (drop n d)).check ≡ Sound)
sound_from d n = (moved (reading (drop n d)).check, ap (shift_fault n))
  where
    moved : (x : ListCheck) → shift_fault n x ≡ Sound → x ≡ Sound
    moved Sound e = refl
    moved (Broken r a) e = absurd (broken_not_sound e)

module _ (d : List ℕ) (a : ℕ) where
  -- fewer than 31 bytes, whether the node is selected or not
  pub select_short : length d < selective_pdata_min → selection_of d a ≡ TooShort
  unfolding selection_of
  select_short h = rw (lt-ltb (length d) selective_pdata_min h)

  module _ (h : selective_pdata_min ≤ length d) where
    -- the set does not name the node
    pub select_other : selects (take node_set_size d) a ≡ false → selection_of d a ≡ NotSelected
    unfolding selection_of
    select_other e = rw (le-ltb (length d) selective_pdata_min h, e)

    -- the set names the node
    pub select_list : selects (take node_set_size d) a ≡ true → selection_of d a ≡ Selected (check_from node_set_size d)
    unfolding selection_of
    select_list e = rw (le-ltb (length d) selective_pdata_min h, e)

    -- the same, from the check of the bytes after the set
    pub select_named : selects (take node_set_size d) a ≡ true → {x : ListCheck} → x ≡ (reading (slice d node_set_size (length d - node_set_size))).check
        → selection_of d a ≡ Selected (shift_fault node_set_size x)
    select_named e q =
        select_list e
        ∙ ap (λ (y : ListCheck). Selected (shift_fault node_set_size y)) (sym (q ∙ ap (λ (s : List ℕ). (reading s).check) (slice_to_end node_set_size d)))

  -- a property of selections holds for PData if it holds in each of these cases
  pub select_cases : (P : Selection → Type 0) → P TooShort → P NotSelected
      → (selective_pdata_min ≤ length d → selects (take node_set_size d) a ≡ true → P (Selected (check_from node_set_size d))) → P (selection_of d a)
  unfolding selection_of
  select_cases P short other list =
      by_cond P (ltb (length d) selective_pdata_min) _ _ (λ _. short)
      (λ t. by_cond P (selects (take node_set_size d) a) _ _ (λ e. list (ltb-false _ _ t) e) (λ _. other))

  -- PData for this node has a node set and a list
  pub selected_long : {x : ListCheck} → selection_of d a ≡ Selected x → selective_pdata_min ≤ length d
  selected_long {x} = select_cases (λ (y : Selection). y ≡ Selected x → selective_pdata_min ≤ length d) (no refl) (no refl) (λ h _ _. h)
    where
      -- whether PData is for this node
      is_selected : Selection → ℕ
      is_selected TooShort = 0
      is_selected NotSelected = 0
      is_selected (Selected y) = 1

      no : {y : Selection} → is_selected y ≡ 0 → y ≡ Selected x → selective_pdata_min ≤ length d
      no z e = let u = ap is_selected e in absurd (omega arith)

-- a node set in front of a list
module _ (set list : List ℕ) (size : length set ≡ node_set_size) where
  -- the node reads the set that was written
  pub set_in_front : take node_set_size (set ++ list) ≡ set
  set_in_front = take_at set list node_set_size size

  long_enough : 1 ≤ length list → selective_pdata_min ≤ length (set ++ list)
  long_enough some = omega (arith, length-append set list)

  -- a node that is not named: the list is not looked at
  pub not_named : 1 ≤ length list → (a : ℕ) → selects set a ≡ false → selection_of (set ++ list) a ≡ NotSelected
  not_named some a e = select_other (set ++ list) a (long_enough some) (ap (λ (s : List ℕ). selects s a) set_in_front ∙ e)

  -- a node that is named: the check of the list, the place of its fault moved by the set
  pub named_list : 1 ≤ length list → (a : ℕ) → selects set a ≡ true → selection_of (set ++ list) a ≡ Selected (shift_fault node_set_size (reading list).check)
  named_list some a e =
      select_list (set ++ list) a (long_enough some) (ap (λ (s : List ℕ). selects s a) set_in_front ∙ e)
      ∙ ap (λ (l : List ℕ). Selected (shift_fault node_set_size (reading l).check)) (drop_at set list node_set_size size)
