-- Document 01, "Scenes": the step machine, which executes single steps. It is written from its own paragraph. It shares records,
-- the functions that replace their fields and `max_level` with the lights request, and the numbers of the kinds with the compiler; it
-- shares no rule of levels, times or valid steps.
use Rattle.std.specs.Prelude.{Bool, false, cond, ◌&&◌, ◌||◌, List, [], ◌∷◌, ℕ, ◌+◌, ◌-◌, ◌*◌, ◌%◌, min, ltb, leb, eqb, get_or, set}
use Rattle.dpa.specs.Settings.{max_lamps}
use Rattle.memory.specs.Block.{size_of}
use Rattle.memory.specs.declared.block.Memory.TheVariants.{Eeprom, Ram}
use Rattle.lights.specs.Lamp.{changed, off, max_level}
use Rattle.lights.specs.declared.lamp.Lamp.{Lamp}
use Rattle.node.specs.Node.{with_lamps, with_ram}
use Rattle.node.specs.State.{State, with_node, with_eeprom}
use Rattle.book.specs.declared.step.Step.{Step}
use Rattle.step.specs.Step.{set_kind, raise_kind, ram_kind, eeprom_kind, is_lamp}

-- ---- which steps are not bad. The machine has its own rule, independent of the compiler's (`step_fault`).

-- bit 7 of a time: its low seven bits are seconds, not minutes
abbrev pub seconds_bit : ℕ
seconds_bit = 0x80

-- time 0, or a time byte: a nonzero number in the low seven bits
unfoldable pub time_formed : ℕ → Bool
time_formed t = eqb t 0 || ltb 0 (t % seconds_bit)

-- a lamp step: target below 32, value at most 100, time 0 or a valid time byte
abbrev pub lamp_formed : Step → Bool
lamp_formed s = ltb s.target max_lamps && leb s.value max_level && time_formed s.time

-- a step that writes a byte of a memory of this size: target in the memory, no time
abbrev pub byte_formed : ℕ → Step → Bool
byte_formed size s = ltb s.target size && eqb s.time 0

-- any other step is bad
unfoldable pub step_formed : Step → Bool
step_formed s =
    cond (is_lamp s.kind) (lamp_formed s)
    (cond (eqb s.kind ram_kind) (byte_formed (size_of Ram) s)
    (cond (eqb s.kind eeprom_kind) (byte_formed (size_of Eeprom) s)
    false))

-- ---- the effect of a step

-- the new requested level: set takes the value, raise adds it up to 100, lower subtracts it down to 0
unfoldable pub machine_level : (kind level value : ℕ) → ℕ
machine_level kind level value =
    cond (eqb kind set_kind) value
    (cond (eqb kind raise_kind) (min max_level (level + value))
    (level - value))

-- the new timer in seconds: 0 if the time or the new level is 0; up to 7F hex the time is minutes, above it its low seven bits are seconds
unfoldable pub machine_seconds : (time level : ℕ) → ℕ
machine_seconds time level =
    cond (eqb time 0 || eqb level 0) 0
    (cond (ltb time seconds_bit) (60 * time)
    (time % seconds_bit))

-- the target lamp after a step
abbrev pub machine_lamp : Step → Lamp → Lamp
machine_lamp s l =
    let v = machine_level s.kind l.level s.value in
    changed l v (machine_seconds s.time v)

-- the lamps of a node with `count` lamps after a step; a target at or above the count changes nothing
unfoldable pub machine_lamps : Step → ℕ → List Lamp → List Lamp
machine_lamps s count ls = cond (ltb s.target count) (set ls s.target (machine_lamp s (get_or ls s.target off))) ls

-- a memory after a step
abbrev pub machine_byte : Step → List ℕ → List ℕ
machine_byte s bytes = set bytes s.target s.value

-- the effect of a step that is not bad
unfoldable pub machine_effect : Step → State → State
machine_effect s st =
    let n = st.node in
    cond (is_lamp s.kind) (with_node st (with_lamps n (machine_lamps s n.settings.lamp_count n.lamps)))
    (cond (eqb s.kind ram_kind) (with_node st (with_ram n (machine_byte s n.ram)))
    (with_eeprom st (machine_byte s st.eeprom)))

-- a bad step changes nothing
unfoldable pub machine_step : Step → State → State
machine_step s st = cond (step_formed s) (machine_effect s st) st

-- steps in order
abbrev pub machine : List Step → State → State
machine [] st = st
machine (s ∷ ss) st = machine ss (machine_step s st)
