-- `settings::step_ok` meets its contract.
use borrow.Author.Tests.{ne_eqb}
use Rattle.dpa.specs.Settings.{step_ok}
use Rattle.dpa.proofs.Ranges.{step_divides}
use Rattle.dpa.proofs.settings.step_ok.Goals as goal

pub returns-then-step-eq0 : goal.returns-then-step-eq0
unfolding step_ok
returns-then-step-eq0 c = simp c.if-step-eq0.true

pub returns : goal.returns
returns c = simp (step_divides c.args.step c.ranges.step.fits, ne_eqb _ _ c.if-step-eq0.false)
