-- What a call leaves that writes to the front of a lent buffer.
use Rattle.std.specs.Prelude.{ℕ, List, ◌≡◌, length, Result, Ok, Err}
use Rattle.dpa.specs.declared.answer.LengthAnswer.{LengthAnswer}
use Rattle.dpa.specs.declared.refusal.Refusal.{Refusal}
use Rattle.dpa.specs.Lists.{overwrite_front}
use Rattle.dpa.specs.Refusal.{refusal_number}

-- the answer for C: a refused call has length 0
abbrev pub length_answer : Result ℕ Refusal → LengthAnswer
length_answer (Ok n) = record { refusal = 0; length = n }
length_answer (Err e) = record { refusal = refusal_number e; length = 0 }

-- its answer and the buffer
pub record LengthResult : Type 0 where
  pub refusal : ℕ
  pub length : ℕ
  pub out : List ℕ

abbrev pub length_result : LengthAnswer → List ℕ → LengthResult
length_result r o = record { refusal = r.refusal; length = r.length; out = o }

-- a refused call answers length 0 and leaves the buffer o unchanged
abbrev pub RefusedKeeps : List ℕ → LengthResult → Type 0
RefusedKeeps o c = (c.refusal ≡ 0 → ⊥) → (c.length ≡ 0) × (c.out ≡ o)

-- bytes written to the front of the buffer, and their number
abbrev pub result_in_buffer : ℕ → List ℕ → List ℕ → LengthResult
result_in_buffer e xs o = record { refusal = e; length = length xs; out = overwrite_front xs o }
