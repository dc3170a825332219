-- The refusals of all calls: documents 01 and 02 number them.
use Rattle.std.specs.Prelude.{ℕ, Result, Ok, Err}
use Rattle.dpa.specs.declared.refusal.Refusal.{Refusal}
use Rattle.dpa.specs.declared.refusal.Refusal.TheVariants.{Node, Frame, Response, Memory, Pdata, Book, Scene, StepKind, StepTarget, StepValue, StepTime, Output, View, Framed, Address, Full, Time, Block, Range}

-- the number of each refusal
abbrev pub refusal_number : Refusal → ℕ
refusal_number Node = 1
refusal_number Frame = 2
refusal_number Response = 3
refusal_number Memory = 4
refusal_number Pdata = 5
refusal_number Book = 6
refusal_number Scene = 7
refusal_number StepKind = 81
refusal_number StepTarget = 82
refusal_number StepValue = 83
refusal_number StepTime = 84
refusal_number Output = 9
refusal_number View = 10
refusal_number Framed = 11
refusal_number Address = 12
refusal_number Full = 13
refusal_number Time = 14
refusal_number Block = 15
refusal_number Range = 16

-- the refusal of a call: 0 if it is not refused
abbrev pub refusal_of : {T : Type 0} → Result T Refusal → ℕ
refusal_of (Ok x) = 0
refusal_of (Err e) = refusal_number e
