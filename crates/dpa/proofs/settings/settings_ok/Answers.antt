-- `settings::settings_ok` meets its contract: each return computes the definition from the tests before it.
use mathlib.Core.Path.{sym, ◌∙◌}
use borrow.Author.Tests.{le-leb, lt-leb}
use Rattle.dpa.specs.Settings.{settings_ok}
use Rattle.dpa.proofs.settings.settings_ok.Goals as goal

pub returns-then-not-node_address : goal.returns-then-not-node_address
unfolding settings_ok
returns-then-not-node_address c = simp (sym c.node_address.ensures ∙ c.if-not-node_address.true)

pub returns-then-settings-lt1 : goal.returns-then-settings-lt1
unfolding settings_ok
returns-then-settings-lt1 c = simp (sym c.node_address.ensures ∙ c.if-not-node_address.false, lt-leb _ _ c.if-settings-lt1.true)

pub returns-then-settings-gt-MAX_LAMPS : goal.returns-then-settings-gt-MAX_LAMPS
unfolding settings_ok
returns-then-settings-gt-MAX_LAMPS c =
    simp (sym c.node_address.ensures ∙ c.if-not-node_address.false, le-leb _ _ c.if-settings-lt1.false, lt-leb _ _ c.if-settings-gt-MAX_LAMPS.true)

pub returns : goal.returns
unfolding settings_ok
returns c =
    simp (sym c.node_address.ensures ∙ c.if-not-node_address.false, le-leb _ _ c.if-settings-lt1.false, le-leb _ _ c.if-settings-gt-MAX_LAMPS.false)
    c.step_ok.ensures
