-- The test of a power byte: one comparison does for both tests of the definition.
use borrow.Author.Tests.{le-leb, lt-leb, leb-true, leb-false, eqb-true, eqb-false}
use native.Mathlib.Omega.{arith}
use mathlib.Core.Path.{◌≡◌, sym, ◌∙◌}
use Prim.Native.Nat.{ℕ, ◌+◌, ◌%◌, ◌<◌}
use lib.Dec.{leb, eqb}
use Rattle.dpa.proofs.Bool.{by_test}
use Rattle.lights.specs.Lamp.{max_level}
use Rattle.lights.specs.Lights.{bit7, keep_power, power_ok}

-- adding one, modulo 128, takes keep to 0 and the levels to 1 to 101
pub one_comparison : (p : ℕ) → p < bit7 → leb ((p + 1) % bit7) (max_level + 1) ≡ power_ok p
unfolding power_ok
one_comparison p h =
    by_test (leb p max_level)
    (λ t. rw t (le-leb ((p + 1) % bit7) (max_level + 1) (omega (arith, leb-true p max_level t))))
    (λ f. rw f (by_test (eqb p keep_power)
    (λ t. le-leb ((p + 1) % bit7) (max_level + 1) (omega (arith, eqb-true p keep_power t)) ∙ sym t)
    (λ n. lt-leb ((p + 1) % bit7) (max_level + 1) (omega (arith, leb-false p max_level f, eqb-false p keep_power n)) ∙ sym n)))
