-- `request::write_output`: the length bytes from byte 1 on, then the requests; then the number of requests in front.
use Rattle.std.proofs.Common.{rules}
use mathlib.Core.Path.{refl, ◌∙◌}
use Prim.Native.Nat.{suc, ◌+◌, ◌≤◌}
use native.Mathlib.Omega.{arith}
use lib.ListN.{length}
use Rattle.dpa.specs.declared.frame.Frame.{Frame}
use Rattle.book.specs.Steps.{steps_of}
use Rattle.book.proofs.Positions.{steps_length}
use Rattle.entries.specs.Group.{concat}
use Rattle.entries.proofs.Writers.{writes_length}
use Rattle.output.specs.declared.form.GoodSteps.{GoodSteps}
use Rattle.output.specs.declared.form.RequestForm.{RequestForm}
use Rattle.output.specs.Output.{min_output}
use Rattle.output.specs.Fill.{requests_with}
use Rattle.output.specs.Form.{requests_for}
use Rattle.output.proofs.Outputs.{output_length, lengths_length, request_count}
use Rattle.output.proofs.Progress.{steps_fit, output_written}
use Rattle.output.proofs.request.write_output.Goals as goal

-- the output fits, for any header
room : (steps : GoodSteps) (form : RequestForm) (f : Frame)
    → let rs = requests_with form.limits f form.front.now (steps_of steps.steps) in suc (length rs + length (concat rs)) ≤ min_output
room steps form f =
    let s = steps.steps in
    omega (
      arith,
      steps_fit form.limits f form.front.now form.fits s.count s.body.now steps.good s.few,
      output_length (requests_with form.limits f form.front.now (steps_of s)),
    )

pub write_lengths-spans-requires : goal.write_lengths-spans-requires
write_lengths-spans-requires c = λ f. omega (arith, c.requires, room c.args.steps c.args.form f)

pub overflow_sub-requests : goal.overflow_sub-requests
overflow_sub-requests c = omega (arith, (c.write_lengths-spans.ensures.lengths c.args.form.header).end)

pub write_requests-requires : goal.write_requests-requires
write_requests-requires c =
    let form = c.args.form in
    let w = c.write_lengths-spans.ensures.lengths form.header in (
      c.as_slice.ensures ∙ c.write_lengths-spans.ensures.spans,
      omega (
        arith,
        c.requires,
        room c.args.steps form form.header,
        w.end,
        lengths_length (requests_for form (steps_of c.args.steps.steps)),
        writes_length w,
      ),
    )

pub overflow_cast-out : goal.overflow_cast-out
overflow_cast-out c =
    let form = c.args.form in
    let s = c.args.steps.steps in
    omega (
      arith,
      (c.write_lengths-spans.ensures.lengths form.header).end,
      lengths_length (requests_for form (steps_of c.args.steps.steps)),
      request_count form.limits form.header form.front.now (steps_of s),
      steps_length s.count s.body.now,
      s.few,
    )

pub returns-clause-written : goal.returns-clause-written
returns-clause-written c =
    output_written _ refl (c.write_lengths-spans.ensures.lengths c.args.form.header) c.write_requests.ensures _ (search rules)
