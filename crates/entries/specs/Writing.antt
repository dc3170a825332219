-- What the functions that write an entry require, and the bytes before its PData.
use Rattle.std.specs.Prelude.{true, List, ◌≡◌, ℕ, ◌^◌, ◌≤◌, ◌<◌}
use Rattle.dpa.specs.Settings.{max_lamps}
use Rattle.lights.specs.Lamp.{max_level}
use Rattle.batch.specs.Batch.{head_bytes}
use Rattle.book.specs.Positions.{step_at}
use Rattle.step.specs.Step.{is_lamp}
use Rattle.entries.specs.Entry.{pnum_of, pcmd_of}

-- the value and the target of each of the n steps are in range for a lamp step
abbrev pub LampStepsInRange : List ℕ → ℕ → Type 0
LampStepsInRange body n = (i : ℕ) → i < n → ((step_at body i).value ≤ max_level) × ((step_at body i).target < max_lamps)

-- no lamp's bit in a bitmap is larger
abbrev pub lamp_bit_bound : ℕ
lamp_bit_bound = 2 ^ max_lamps

-- the n steps can be written as one entry: if the first is a lamp step, all are in range
abbrev pub EntryWritable : List ℕ → ℕ → Type 0
EntryWritable body n = is_lamp (step_at body 0).kind ≡ true → LampStepsInRange body n

-- the bytes before an entry's PData
abbrev pub entry_head_bytes : (kind h size : ℕ) → List ℕ
entry_head_bytes kind h size = head_bytes size (pnum_of kind) (pcmd_of kind) h
