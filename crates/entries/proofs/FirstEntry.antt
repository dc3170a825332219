-- Laws of the first entry of a scene: its size, and the loop that finds it.
use Rattle.std.specs.Prelude.{Some, None}
use mathlib.Core.List.{List, [], ◌∷◌}
use mathlib.Core.Path.{◌≡◌, refl, ap, sym, ◌∙◌}
use mathlib.Core.Bool.{◌&&◌}
use Prim.Native.Nat.{ℕ, zero, suc, ◌+◌, ◌-◌, ◌≤◌, ◌<◌}
use native.Mathlib.Nat.{add_comm}
use native.Mathlib.Numerals.{add-one}
use native.Mathlib.Omega.{arith}
use lib.ListN.{length, drop, get_or, take}
use lib.Dec.{eqb, leb}
use lib.Seq.{take-suc}
use borrow.Author.Tests.{leb-true}
use Rattle.dpa.proofs.Bool.{by_test, and_right}
use Rattle.book.specs.declared.step.Step.{Step}
use Rattle.book.specs.Book.{step_length, step_of, steps_in}
use Rattle.book.specs.Positions.{step_at}
use Rattle.book.proofs.Records.{records_end}
use Rattle.book.proofs.Positions.{zero_step, steps_length, steps_at}
use Rattle.step.specs.Step.{is_lamp}
use Rattle.entries.specs.Group.{grow}
use Rattle.entries.specs.Entry.{group_data, entry_data, power_bytes}
use Rattle.entries.specs.Join.{joins, entries_of, follows, last_of}
use Rattle.entries.specs.EntrySize.{step_size, power_size, first_size, one_step_max, joined_size, FirstEntry}
use Rattle.entries.proofs.EntrySize.{data_length}
use Rattle.entries.proofs.Groups.{group_start, take_fits, take_not_fits}

-- ---- joining along a list of steps

-- the last of the first k + 1 steps
last_at : (p : Step) (ss : List Step) (k : ℕ) → k ≤ length ss → last_of p (take k ss) ≡ get_or (p ∷ ss) k zero_step
last_at p ss zero h = refl
last_at p [] (suc k) h = absurd (omega arith)
last_at p (s ∷ ss) (suc k) h = last_at s ss k (omega arith)

-- the PData size of the first k steps with one more
size_more : (ss : List Step) (k : ℕ) → 1 ≤ k → k < length ss
    → length (group_data (take (suc k) ss)) ≡ step_size (get_or ss 0 zero_step).kind (get_or ss k zero_step) + length (group_data (take k ss))
size_more ss zero one h = absurd (omega arith)
size_more [] (suc k) one h = absurd (omega arith)
size_more (p ∷ ss) (suc k) one h =
    rw (take-suc ss k zero_step (omega arith)) (omega (arith, data_length p (take k ss) (get_or ss k zero_step)))

-- whether step k joins the first k steps
joins_at : (limit : ℕ) (ss : List Step) (k : ℕ) → 1 ≤ k → k < length ss
    → joins limit (take k ss) (get_or ss k zero_step)
    ≡ (follows (get_or ss (k - 1) zero_step) (get_or ss k zero_step) && leb (step_size (get_or ss 0 zero_step).kind (get_or ss k zero_step) + length (group_data (take k ss))) limit)
joins_at limit ss zero one h = absurd (omega arith)
joins_at limit [] (suc k) one h = absurd (omega arith)
joins_at limit (p ∷ ss) (suc k) one h =
    let q : suc k - 1 ≡ k = omega arith in
    rw (q, last_at p ss k (omega arith), data_length p (take k ss) (get_or ss k zero_step), add_comm (length (entry_data p (take k ss))) (step_size p.kind (get_or ss k zero_step)))

-- the PData size of one step
size_one : (ss : List Step) → 0 < length ss → length (group_data (take 1 ss)) ≡ first_size (get_or ss 0 zero_step)
unfolding entry_data power_bytes step_size power_size first_size
size_one [] h = absurd (omega arith)
size_one (p ∷ ss) h =
    by_test (is_lamp p.kind)
    (λ e. rw e (by_test (eqb p.time 0) (λ t. rw t) (λ t. rw t)))
    (λ e. rw e)

module _ (limit : ℕ) where
  -- ---- the loop of first_entry: the first k steps are in one entry, of `size` bytes so far
  abbrev pub FirstSteps : ℕ → List ℕ → ℕ → ℕ → Type 0
  FirstSteps n a k size =
      (1 ≤ k) × (k ≤ n) × (size ≤ limit) × (size ≡ length (group_data (take k (steps_in n a))))
      × (entries_of limit (steps_in n a) ≡ grow (joins limit) (take k (steps_in n a)) (drop k (steps_in n a)))

  -- the first step starts the entry
  pub first_steps_start : one_step_max ≤ limit → (n : ℕ) (a : List ℕ) (size : ℕ) → 0 < n → size ≡ first_size (step_at a 0) → size ≤ one_step_max → FirstSteps n a 1 size
  first_steps_start room n a size h e size_max =
      let ss = steps_in n a in
      let long : 0 < length ss = omega (arith, steps_length n a) in
      (omega arith, omega arith, omega arith, e ∙ ap first_size (sym (steps_at n a 0 h)) ∙ sym (size_one ss long), group_start (joins limit) ss long)

  -- an entry that ends here is the first
  entry_here : (n : ℕ) (a : List ℕ) (k size : ℕ) → FirstSteps n a k size
      → entries_of limit (steps_in n a) ≡ take k (steps_in n a) ∷ entries_of limit (drop k (steps_in n a)) → FirstEntry limit (steps_in n a) k size
  entry_here n a k size i e = record { some = i.0; within = omega (arith, steps_length n a, i.1); size_max = i.2; size_is = i.3; first = e }

  -- the steps end with the entry
  pub first_steps_end : (n : ℕ) (a : List ℕ) (k size : ℕ) → FirstSteps n a k size → n ≤ k → FirstEntry limit (steps_in n a) n size
  first_steps_end n a k size i h =
      let e : k ≡ n = omega (arith, i.1) in
      rw e at (entry_here n a k size i (i.4 ∙ rw (records_end step_length step_of n a k h)))

  module _ (n : ℕ) (a : List ℕ) (k size : ℕ) (p x : Step) (kind : ℕ) (i : FirstSteps n a k size) (below : k < n) (last : p ≡ step_at a (k - 1))
      (next : x ≡ step_at a k) (head : kind ≡ (step_at a 0).kind) where
    joins_here : joins limit (take k (steps_in n a)) (get_or (steps_in n a) k zero_step) ≡ (follows p x && leb (step_size kind x + size) limit)
    joins_here =
        joins_at limit (steps_in n a) k i.0 (omega (arith, steps_length n a))
        ∙ rw (steps_at n a (k - 1) (omega arith), steps_at n a k below, steps_at n a 0 (omega arith), head, i.3, last, next)

    -- a step that does not join ends the entry
    pub first_steps_stop : joined_size limit p x kind size ≡ None → FirstEntry limit (steps_in n a) k size
    unfolding joined_size
    first_steps_stop none =
        by_test (follows p x && leb (step_size kind x + size) limit)
        (λ b. let q : Some (step_size kind x + size) ≡ None = rw b at none in cc)
        (λ b. entry_here n a k size i (i.4 ∙ take_not_fits (joins limit) zero_step (steps_in n a) k (omega (arith, steps_length n a)) (joins_here ∙ b)))

    -- a step that joins makes the entry longer
    pub first_steps_next : {r : ℕ} → joined_size limit p x kind size ≡ Some r → FirstSteps n a (k + 1) r
    unfolding joined_size
    first_steps_next {r} some =
        let ss = steps_in n a in
        let long : k < length ss = omega (arith, steps_length n a) in
        by_test (follows p x && leb (step_size kind x + size) limit)
        (λ b. let s : Some (step_size kind x + size) ≡ Some r = rw b at some in
        let q : r ≡ step_size kind x + size = cc in
        let w : step_size kind x + size ≤ limit = leb-true _ _ (and_right (follows p x) _ b) in
        let e : length (group_data (take (suc k) ss)) ≡ step_size kind x + size
        = size_more ss k i.0 long ∙ rw (steps_at n a k below, steps_at n a 0 (omega arith), head, i.3, next) in
        rw (add-one k)
        (omega arith, omega arith, omega arith, q ∙ sym e, i.4 ∙ take_fits (joins limit) zero_step ss k long (joins_here ∙ b)))
        (λ b. let q : None ≡ Some r = rw b at some in cc)
