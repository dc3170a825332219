-- `power::power_entries_ok`: after as many valid power entries as turns, the result depends on the rest.
use mathlib.Core.Path.{◌≡◌}
use Prim.Native.Nat.{◌≤◌, ◌-◌}
use lib.ListN.{length, drop}
use Rattle.lights.specs.Bits.{bitmap_size}
use Rattle.lights.specs.Lights.{power_entries, are_valid}
use Rattle.lights.proofs.power.power_entries_ok.Given as goal

abbrev pub invariant-loop : goal.invariant-loop
invariant-loop l = (l.at ≤ length l.src) × (are_valid (power_entries l.n (drop bitmap_size l.src)) ≡ are_valid (power_entries (l.n - l.counter) (drop l.at l.src)))
