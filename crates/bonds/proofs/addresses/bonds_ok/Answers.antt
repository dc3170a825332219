-- `addresses::bonds_ok`: the bit of address 0, then the last two bytes.
use mathlib.Core.Path.{◌≡◌, sym, ◌∙◌}
use native.Mathlib.Omega.{arith}
use lib.ListN.{length}
use borrow.Author.Rules.{rules}
use Rattle.bonds.specs.Bonds.{bonds_size}
use Rattle.bonds.proofs.Bonds.{zero_fails, byte_fails, last_tested}
use Rattle.bonds.proofs.addresses.bonds_ok.Goals as goal

pub returns-then-selects : goal.returns-then-selects
returns-then-selects c = sym (zero_fails _ (sym c.selects.ensures ∙ c.if-selects.true))

pub returns-then-bonds-ne0 : goal.returns-then-bonds-ne0
returns-then-bonds-ne0 c = sym (byte_fails _ 30 (omega arith) c.if-bonds-ne0.true)

pub returns : goal.returns
returns c =
    let size : length c.args.bonds ≡ bonds_size = search rules in
    last_tested _ (search rules) size (sym c.selects.ensures ∙ c.if-selects.false) c.if-bonds-ne0.false
