-- The requests of steps in a form.
use Rattle.std.specs.Prelude.{List, ℕ}
use Rattle.book.specs.declared.step.Step.{Step}
use Rattle.output.specs.declared.form.RequestForm.{RequestForm}
use Rattle.output.specs.Fill.{requests_with}

abbrev pub requests_for : RequestForm → List Step → List (List ℕ)
requests_for form ss = requests_with form.limits form.header form.front.now ss
