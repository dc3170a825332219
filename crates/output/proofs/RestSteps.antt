-- The first of some steps, and those that are left after them.
use mathlib.Core.List.{List, []}
use mathlib.Core.Path.{◌≡◌, sym, ap, ◌∙◌}
use Prim.Native.Nat.{ℕ, ◌+◌, ◌*◌, ◌-◌, ◌≤◌}
use native.Mathlib.Omega.{arith}
use lib.ListN.{take, drop}
use lib.Seq.{drop-drop}
use Rattle.book.specs.declared.step.Steps.{Steps}
use Rattle.book.specs.Book.{step_length, step_of, steps_in}
use Rattle.book.specs.Steps.{steps_of}
use Rattle.book.proofs.Records.{records_drop, records_take}
use Rattle.step.specs.Step.{good_step, AllStepsGood}

-- those that are left are good
pub rest_good : (n k : ℕ) (a : List ℕ) → k ≤ n → AllStepsGood a n → AllStepsGood (drop (step_length * k) a) (n - k)
rest_good n k a h g i l =
    let e : step_length * k + step_length * i ≡ step_length * (k + i) = omega arith in
    ap (λ (bs : List ℕ). good_step (step_of bs)) (drop-drop (step_length * i) (step_length * k) a ∙ ap (λ (j : ℕ). drop j a) e) ∙ g (k + i) (omega arith)

-- and are the others of the list
pub rest_steps : (steps rest : Steps) (k : ℕ) → k ≤ steps.count → (rest.body.now ≡ drop (step_length * k) steps.body.now) × (rest.count ≡ steps.count - k)
    → steps_of rest ≡ drop k (steps_of steps)
rest_steps steps rest k h e = rw (e.0, e.1) (records_drop step_length step_of steps.count k steps.body.now h)

-- the first k steps
pub first_steps : (steps part : Steps) (k : ℕ) → k ≤ steps.count → (part.body.now ≡ drop (step_length * 0) steps.body.now) × (part.count ≡ k)
    → steps_of part ≡ take k (steps_of steps)
first_steps steps part k h e = rw (e.0, e.1) (sym (records_take step_length step_of steps.count k steps.body.now h))

-- after the last step none is left
pub no_steps : (steps : Steps) → steps.count ≤ 0 → steps_of steps ≡ []
no_steps steps h = let e : steps.count ≡ 0 = omega arith in ap (λ (n : ℕ). steps_in n steps.body.now) e
