-- The steps that are left are good.
use Rattle.output.proofs.RestSteps.{rest_good}
use Rattle.output.proofs.form.GoodSteps.after.Goals as goal

pub invariant_of-result : goal.invariant_of-result
invariant_of-result c =
    let steps = c.args.self.steps in
    record { good = rw (c.after.ensures.0, c.after.ensures.1) (rest_good steps.count c.args.first steps.body.now c.requires c.args.self.good) }
