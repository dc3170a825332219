-- `record::node_ok` meets its contract.
use native.Mathlib.Omega.{arith}
use mathlib.Core.Path.{◌≡◌, sym, ◌∙◌}
use mathlib.Core.Bool.{true}
use Rattle.dpa.specs.Settings.{settings_ok}
use Rattle.dpa.proofs.Ranges.{settings_facts}
use Rattle.node.proofs.record.node_ok.Goals as goal

pub lamps_ok-requires : goal.lamps_ok-requires
lamps_ok-requires c =
    let ranged : settings_ok c.args.node.settings ≡ true = sym c.settings_ok.ensures ∙ c.if-settings_ok.true in
    omega (arith, c.from.ensures, (settings_facts _ ranged).count_max)
