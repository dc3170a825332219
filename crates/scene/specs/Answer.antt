-- What a compile call returns, as C gets it.
use Rattle.std.specs.Prelude.{ℕ, ◌≤◌, ◌<◌, Result, Ok, Err}
use Rattle.dpa.specs.Refusal.{refusal_number}
use Rattle.dpa.specs.declared.refusal.Refusal.{Refusal}
use Rattle.scene.specs.declared.compile.CompileError.{CompileError}
use Rattle.scene.specs.declared.compile.CompileError.TheVariants.{Refused, Step}
use Rattle.scene.specs.declared.compile.CompileAnswer.{CompileAnswer}

-- the refusal of a call that failed
abbrev pub refusal_in : CompileError → Refusal
refusal_in (Refused refusal) = refusal
refusal_in (Step bad) = bad.refusal

-- an error names a step exactly for the refusals from 81 on
abbrev pub NamesStep : CompileError → Type 0
NamesStep (Refused refusal) = refusal_number refusal < 81
NamesStep (Step bad) = 81 ≤ refusal_number bad.refusal

-- what C gets of a call that returned this
abbrev pub compile_answer : Result ℕ CompileError → CompileAnswer
compile_answer (Ok length) = record { refusal = 0; step = 0; length = length }
compile_answer (Err (Refused refusal)) = record { refusal = refusal_number refusal; step = 0; length = 0 }
compile_answer (Err (Step bad)) = record { refusal = refusal_number bad.refusal; step = bad.step; length = 0 }
