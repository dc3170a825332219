-- The PData size of an entry.
use mathlib.Core.List.{List, [], ◌∷◌, ◌++◌}
use mathlib.Core.Path.{◌≡◌, refl}
use Prim.Native.Nat.{◌+◌}
use native.Mathlib.Omega.{arith}
use lib.Dec.{eqb}
use lib.ListN.{length, length-append}
use Rattle.dpa.proofs.Bool.{by_test}
use Rattle.book.specs.declared.step.Step.{Step}
use Rattle.step.specs.Step.{is_lamp}
use Rattle.entries.specs.Entry.{power_bytes, powers_bytes, values, entry_data, group_data}
use Rattle.entries.specs.EntrySize.{power_size, step_size}

-- the power bytes of a step have its size
pub power_length : (s : Step) → length (power_bytes s) ≡ power_size s
unfolding power_bytes power_size
power_length s = by_test (eqb s.time 0) (λ e. rw e) (λ e. rw e)

powers_size : (ss : List Step) (x : Step) → length (powers_bytes (ss ++ (x ∷ []))) ≡ length (powers_bytes ss) + power_size x
powers_size [] x = omega (arith, power_length x, length-append (power_bytes x) [])
powers_size (s ∷ ss) x =
    omega (arith, length-append (power_bytes s) (powers_bytes (ss ++ (x ∷ []))), length-append (power_bytes s) (powers_bytes ss), powers_size ss x)

values_size : (ss : List Step) (x : Step) → length (values (ss ++ (x ∷ []))) ≡ length (values ss) + 1
values_size [] x = refl
values_size (s ∷ ss) x = omega (arith, values_size ss x)

-- an added step makes the PData longer by its size
pub data_length : (p : Step) (ps : List Step) (x : Step) → length (group_data ((p ∷ ps) ++ (x ∷ []))) ≡ length (group_data (p ∷ ps)) + step_size p.kind x
unfolding entry_data step_size
data_length p ps x =
    by_test (is_lamp p.kind)
    (λ e. rw e (omega (arith, powers_size (p ∷ ps) x)))
    (λ e. rw e (omega (arith, values_size (p ∷ ps) x)))
