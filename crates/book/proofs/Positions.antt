-- The laws of records for steps.
use mathlib.Core.List.{List, []}
use mathlib.Core.Path.{◌≡◌}
use Prim.Native.Nat.{ℕ, ◌<◌}
use lib.ListN.{length, get_or}
use Rattle.book.specs.declared.step.Step.{Step}
use Rattle.book.specs.Book.{step_length, step_of, steps_in}
use Rattle.book.specs.Positions.{step_at}
use Rattle.book.proofs.Records.{records_length, records_at}

-- the default where a list has no step
abbrev pub zero_step : Step
zero_step = step_of []

-- the list of n steps has n elements
pub steps_length : (n : ℕ) (bs : List ℕ) → length (steps_in n bs) ≡ n
steps_length = records_length step_length step_of

-- step i of the list is step i of the bytes
pub steps_at : (n : ℕ) (bs : List ℕ) (i : ℕ) → i < n → get_or (steps_in n bs) i zero_step ≡ step_at bs i
steps_at n bs i h = records_at step_length step_of n bs i zero_step h
