-- `compile::compile_steps`: no step is bad, and the buffer has room for the output.
use mathlib.Core.Path.{◌≡◌, sym}
use native.Mathlib.Omega.{arith}
use lib.ListN.{length}
use borrow.Author.Tests.{le-ltb}
use Rattle.book.specs.Steps.{steps_of}
use Rattle.step.specs.Step.{AllGood, first_bad_from}
use Rattle.step.proofs.GoodSteps.{good_index}
use Rattle.output.specs.Output.{output, min_output}
use Rattle.output.specs.Fill.{requests_with}
use Rattle.output.proofs.Progress.{steps_fit}
use Rattle.scene.proofs.Calls.{bad_named, step_named, result_written}
use Rattle.scene.proofs.compile.compile_steps.Goals as goal

pub returns-clause-answer : goal.returns-clause-answer
returns-clause-answer c =
    let steps = c.args.steps in
    let form = c.args.form in
    let none : first_bad_from 0 (steps_of steps) ≡ AllGood = sym c.in_ok-check_steps.ensures in
    let good = good_index steps.count steps.body.now none in
    let room = c.if-out-lt-MIN_OUTPUT.false in
    let p = c.write_output.ensures in
    rw (none, le-ltb (length c.args.out.now) min_output room)
    (result_written (output (requests_with form.limits form.header form.front.now (steps_of steps))) c.args.out.now
    _ _ p.length p.written (omega (arith, steps_fit form.limits form.header form.front.now form.fits steps.count steps.body.now good steps.few, room)))

pub returns-in_err-check_steps-clause-error : goal.returns-in_err-check_steps-clause-error
returns-in_err-check_steps-clause-error c =
    step_named c.from_residual.result c.in_err-check_steps.field-0.0 c.from_residual.ensures.1 (bad_named 0 _ _ _ c.in_err-check_steps.ensures)
