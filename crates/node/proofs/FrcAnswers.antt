-- Laws of the FRC answer: its range.
use Prim.Native.Nat.{ℕ, ◌≤◌}
use mathlib.Core.Bool.{cond}
use mathlib.Core.List.{List}
use native.Mathlib.Omega.{arith}
use lib.Dec.{eqb}
use Rattle.dpa.proofs.Bool.{by_cond}
use Rattle.node.specs.declared.record.Node.{Node}
use Rattle.node.specs.Frc.{on_command, bit_set, lamp_asked, asks_lamp, is_on, frc_value}

-- the value has two bits and is never 0
pub value_range : (n : Node) (command : ℕ) (user : List ℕ) (stuck alarm : ℕ)
    → let v = frc_value n command user stuck alarm in (1 ≤ v) × (v ≤ 3)
unfolding frc_value
value_range n command user stuck alarm =
    let P : ℕ → Type 0 = λ v. (1 ≤ v) × (v ≤ 3) in
    by_cond P (asks_lamp n.settings.lamp_count command user) _ _
    (λ _. by_cond P (cond (eqb command on_command) (is_on n (lamp_asked user) stuck) (bit_set alarm (lamp_asked user))) _ _
    (λ _. (omega arith, omega arith)) (λ _. (omega arith, omega arith)))
    (λ _. (omega arith, omega arith))
