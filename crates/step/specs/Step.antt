-- Document 01, "Scenes", with document 02, change 1: the kinds of steps, and which part of a step is bad.
use Rattle.std.specs.Prelude.{Bool, true, false, cond, ◌||◌, List, [], ◌∷◌, ◌↔◌, ◌≡◌, ℕ, suc, ◌≤◌, ◌<◌, ltb, leb, eqb}
use Rattle.dpa.specs.Settings.{max_lamps}
use Rattle.memory.specs.Block.{size_of}
use Rattle.memory.specs.declared.block.Memory.TheVariants.{Eeprom, Ram}
use Rattle.lights.specs.Lamp.{max_level}
use Rattle.lights.specs.Lights.{time_ok}
use Rattle.book.specs.declared.step.Step.{Step}
use Rattle.book.specs.Positions.{step_at}

-- ---- kinds of steps

-- set, raise or lower a lamp; write a byte of RAM or of EEPROM
abbrev pub set_kind : ℕ
set_kind = 0

abbrev pub raise_kind : ℕ
raise_kind = 1

abbrev pub lower_kind : ℕ
lower_kind = 2

abbrev pub ram_kind : ℕ
ram_kind = 3

abbrev pub eeprom_kind : ℕ
eeprom_kind = 4

-- lamp steps have the first three kinds
abbrev pub is_lamp : ℕ → Bool
is_lamp k = ltb k ram_kind

-- ---- faults: the part of a step that is bad. A fault is the refusal that it gives.
abbrev pub no_fault : ℕ
no_fault = 0

abbrev pub kind_fault : ℕ
kind_fault = 81

abbrev pub target_fault : ℕ
target_fault = 82

abbrev pub value_fault : ℕ
value_fault = 83

abbrev pub time_fault : ℕ
time_fault = 84

-- the time of a lamp step: 0 for none, otherwise a valid time byte
unfoldable pub step_time_ok : ℕ → Bool
step_time_ok t = eqb t 0 || time_ok t

-- the fault of a lamp step
unfoldable pub lamp_fault : Step → ℕ
lamp_fault s =
    cond (leb max_lamps s.target) target_fault
    (cond (ltb max_level s.value) value_fault
    (cond (step_time_ok s.time) no_fault
    time_fault))

-- the fault of a step that writes a byte of a memory of this size: any value, no time
unfoldable pub byte_fault : ℕ → Step → ℕ
byte_fault size s =
    cond (leb size s.target) target_fault
    (cond (eqb s.time 0) no_fault
    time_fault)

-- the fault of any step
unfoldable pub step_fault : Step → ℕ
step_fault s =
    cond (is_lamp s.kind) (lamp_fault s)
    (cond (eqb s.kind ram_kind) (byte_fault (size_of Ram) s)
    (cond (eqb s.kind eeprom_kind) (byte_fault (size_of Eeprom) s)
    kind_fault))

-- a step that the compiler accepts
abbrev pub good_step : Step → Bool
good_step s = eqb (step_fault s) no_fault

-- each of the n steps in a body is good
abbrev pub AllStepsGood : List ℕ → ℕ → Type 0
AllStepsGood body n = (i : ℕ) → i < n → good_step (step_at body i) ≡ true

-- the result of checking a scene's steps: no step is bad, or the number of the first bad one and its fault
pub data StepsCheck : Type 0 where
  AllGood : StepsCheck
  Bad : (step refusal : ℕ) → StepsCheck

-- the first bad step, by its number and its fault; the first of these steps has number i
abbrev pub first_bad_from : ℕ → List Step → StepsCheck
first_bad_from i [] = AllGood
first_bad_from i (s ∷ ss) = cond (good_step s) (first_bad_from (suc i) ss) (Bad i (step_fault s))

-- ---- what the faults mean

-- the number of targets of a known kind: lamps, or bytes of the memory
unfoldable pub target_limit : ℕ → ℕ
target_limit kind =
    cond (is_lamp kind) max_lamps
    (cond (eqb kind ram_kind) (size_of Ram)
    (size_of Eeprom))

-- the kind is above the last one
abbrev pub BadKind : Step → Type 0
BadKind s = eeprom_kind < s.kind

-- the target is not a lamp, or not in the memory
abbrev pub BadTarget : Step → Type 0
BadTarget s = target_limit s.kind ≤ s.target

-- the level of a lamp step is too high; a memory takes any value
abbrev pub BadValue : Step → Type 0
BadValue s = (s.kind < ram_kind) × (max_level < s.value)

-- there is a time, and it is not the valid time byte of a lamp step
abbrev pub BadTime : Step → Type 0
BadTime s = (¬ (s.time ≡ 0)) × (s.kind < ram_kind → time_ok s.time ≡ false)

-- each fault is given exactly if its part is bad and no part before it; no fault, exactly if no part is bad
pub record FaultMeaning (s : Step) : Type 0 where
  pub kind : (step_fault s ≡ 81) ↔ BadKind s
  pub target : (step_fault s ≡ 82) ↔ ((¬ BadKind s) × BadTarget s)
  pub value : (step_fault s ≡ 83) ↔ ((¬ BadKind s) × (¬ BadTarget s) × BadValue s)
  pub time : (step_fault s ≡ 84) ↔ ((¬ BadKind s) × (¬ BadTarget s) × (¬ BadValue s) × BadTime s)
  pub none : (step_fault s ≡ 0) ↔ ((¬ BadKind s) × (¬ BadTarget s) × (¬ BadValue s) × (¬ BadTime s))
