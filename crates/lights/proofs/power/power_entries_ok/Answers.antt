-- `power::power_entries_ok`: after as many valid power entries as turns, the result depends on the rest.
use native.Mathlib.Omega.{arith}
use mathlib.Core.Path.{◌≡◌, sym, ◌∙◌}
use Prim.Native.Nat.{◌≤◌, ◌-◌}
use lib.ListN.{length, drop}
use Rattle.std.specs.Prelude.{Some}
use Rattle.lights.specs.Lights.{first_power_entry}
use Rattle.lights.proofs.PowerEntries.{first_room, valid_more, valid_end}
use Rattle.lights.proofs.power.power_entries_ok.Goals as goal

pub loop-preserved : goal.loop-preserved
loop-preserved c =
    let l = c.loop in
    let src = c.args.src.now in
    let found : first_power_entry (drop l.at src) ≡ Some c.in-Some.entry = sym c.in-Some.ensures in
    let room : c.in-Some.entry.size ≤ length src - l.at = first_room src l.at _ found in
    (omega (arith, room), l.invariant.1 ∙ valid_more src l.at l.counter c.args.n _ (omega arith) found)

pub returns : goal.returns
returns c =
    let l = c.loop in
    sym (l.invariant.1 ∙ valid_end c.args.src.now l.at l.counter c.args.n (omega arith) (omega arith))
