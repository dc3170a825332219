-- Laws of good and bad steps in a scene's bytes.
use mathlib.Core.List.{List, [], ◌∷◌}
use mathlib.Core.Path.{◌≡◌, sym, ap, ◌∙◌}
use Prim.Native.Nat.{ℕ, zero, suc, ◌+◌, ◌≤◌, ◌<◌}
use native.Mathlib.Numerals.{add-one}
use native.Mathlib.Omega.{arith}
use lib.ListN.{drop}
use Rattle.dpa.specs.Lists.{All}
use Rattle.dpa.specs.declared.refusal.Refusal.{Refusal}
use Rattle.dpa.specs.Refusal.{refusal_number}
use Rattle.book.specs.Book.{step_length, step_of, steps_in}
use Rattle.book.specs.Positions.{step_at}
use Rattle.book.proofs.Records.{drop_record, records_next, records_end}
use Rattle.step.specs.Step.{AllGood, good_step, first_bad_from, AllStepsGood}
use Rattle.step.proofs.Faults.{Good, no_bad}

-- no refusal has the number of a call that is not refused
pub refused : (r : Refusal) → refusal_number r ≡ 0 → ⊥
refused r e = grind arith

-- ---- the loop of check_steps

-- step i comes next
pub next_step : (n : ℕ) (body : List ℕ) (i : ℕ) → i < n → drop i (steps_in n body) ≡ step_at body i ∷ drop (i + 1) (steps_in n body)
next_step n body i h = rw (add-one i) (records_next step_length step_of n body i h)

-- after n steps none is left
pub last_step : (n : ℕ) (body : List ℕ) (i : ℕ) → n ≤ i → drop i (steps_in n body) ≡ []
last_step = records_end step_length step_of

-- ---- good steps of the bytes and of the list

next_good : (body : List ℕ) (i : ℕ) → good_step (step_at (drop step_length body) i) ≡ good_step (step_at body (suc i))
next_good body i = ap (λ (bs : List ℕ). good_step (step_of bs)) (drop_record step_length step_of body i)

-- good steps in the bytes make a list of good steps
pub good_steps : (n : ℕ) (body : List ℕ) → AllStepsGood body n → All Good (steps_in n body)
good_steps zero body g = tt
good_steps (suc n) body g = (g 0 (omega arith), good_steps n (drop step_length body) (λ i h. next_good body i ∙ g (suc i) (omega arith)))

all_index : (n : ℕ) (body : List ℕ) → All Good (steps_in n body) → AllStepsGood body n
all_index zero body g i h = absurd (omega arith)
all_index (suc n) body g zero h = g.0
all_index (suc n) body g (suc i) h = sym (next_good body i) ∙ all_index n (drop step_length body) g.1 i (omega arith)

-- if no step is bad, each step in the bytes is good
pub good_index : (n : ℕ) (body : List ℕ) → first_bad_from 0 (steps_in n body) ≡ AllGood → AllStepsGood body n
good_index n body e = all_index n body ((no_bad (steps_in n body)).0 e)
