-- `Rounding::actual_level` meets its contract: multiplying by the inverse divides by the step, and every number fits its type.
use native.Mathlib.Omega.{arith}
use Rattle.lights.proofs.Lamps.{inverse_product}
use Rattle.lights.proofs.rounding.Rounding.actual_level.Goals as goal

pub overflow_mul-quotient : goal.overflow_mul-quotient
overflow_mul-quotient c =
    let s = c.args.self in
    rw (c.from.ensures, c.from-step.ensures, s.inverse_exact) (omega (arith, inverse_product s.settings s.settings_valid c.args.level c.requires))
