-- The steps that a `Steps` has.
use Rattle.std.specs.Prelude.{List}
use Rattle.book.specs.declared.step.Step.{Step}
use Rattle.book.specs.declared.step.Steps.{Steps}
use Rattle.book.specs.Book.{steps_in}

abbrev pub steps_of : Steps → List Step
steps_of steps = steps_in steps.count steps.body.now
