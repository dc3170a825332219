-- Document 01, "Worked examples": the step machine on the table of levels and on the scene book; then the faults of steps at the edges.
use mathlib.Core.List.{List, [], ◌∷◌, map}
use mathlib.Core.Path.{◌≡◌, refl}
use Prim.Native.Nat.{ℕ}
use lib.ListN.{get_or, take}
use Rattle.lights.specs.Lamp.{lamp, off}
use Rattle.lights.specs.Lights.{time_ok}
use Rattle.node.specs.State.{State}
use Rattle.node.specs.Examples.{fresh_state}
use Rattle.book.specs.declared.step.Step.{Step}
use Rattle.book.specs.Book.{scene_of}
use Rattle.book.specs.Examples.{book}
use Rattle.step.specs.Step.{set_kind, raise_kind, lower_kind, step_time_ok, lamp_fault, byte_fault, step_fault}
use Rattle.step.specs.Machine.{time_formed, step_formed, machine_level, machine_seconds, machine_lamps, machine_effect, machine_step, machine}

abbrev step : (kind target value time : ℕ) → Step
step kind target value time = record { kind = kind; target = target; value = value; time = time }

-- the requested level of lamp 0 after each step
abbrev levels : List Step → State → List ℕ
levels [] st = []
levels (s ∷ ss) st = (get_or (machine_step s st).node.lamps 0 off).level ∷ levels ss (machine_step s st)

-- one lamp, dimming step 10: set 15, +6, -10, -9, -100, +0; the machine starts from the requested level, not from the actual one
pub machine_table :
    levels (step set_kind 0 15 0 ∷ step raise_kind 0 6 0 ∷ step lower_kind 0 10 0 ∷ step lower_kind 0 9 0 ∷ step lower_kind 0 100 0 ∷ step raise_kind 0 0 0 ∷ []) (fresh_state 1 10) ≡ 15 ∷ 21 ∷ 11 ∷ 2 ∷ 0 ∷ 0 ∷ []
unfolding time_formed step_formed machine_level machine_seconds machine_lamps machine_effect machine_step
machine_table = refl

-- the step machine on a node with three lamps, as sceneshow prints it
pub shown_book :
    take 3 (machine (scene_of book 0) (fresh_state 3 1)).node.lamps
    ≡ lamp 10 0 ∷ lamp 0 0 ∷ lamp 100 120 ∷ []
unfolding scene_of time_formed step_formed machine_level machine_seconds machine_lamps machine_effect machine_step
shown_book = refl

-- ---- faults

-- the last good number of each part, and the first bad one: target, value and time of a lamp step, targets and time of a memory step, kind
pub fault_edges :
    map step_fault (
    step 0 31 100 0 ∷ step 0 32 100 0 ∷ step 1 0 101 0
    ∷ step 2 0 0 0x7F ∷ step 2 0 0 0x80 ∷ step 2 0 0 0x81
    ∷ step 3 47 255 0 ∷ step 3 48 0 0 ∷ step 3 0 0 1
    ∷ step 4 191 255 0 ∷ step 4 192 0 0 ∷ step 4 0 0 1 ∷ step 5 0 0 0 ∷ []
    )
    ≡ 0 ∷ 82 ∷ 83 ∷ 0 ∷ 84 ∷ 0 ∷ 0 ∷ 82 ∷ 84 ∷ 0 ∷ 82 ∷ 84 ∷ 81 ∷ []
unfolding step_fault lamp_fault byte_fault step_time_ok time_ok
fault_edges = refl

-- of several bad parts the first is named: kind, target, value, time
pub fault_order :
    map step_fault (step 9 200 200 0x80 ∷ step 0 200 200 0x80 ∷ step 0 0 200 0x80 ∷ step 3 200 200 1 ∷ []) ≡ 81 ∷ 82 ∷ 83 ∷ 82 ∷ []
unfolding step_fault lamp_fault byte_fault step_time_ok time_ok
fault_order = refl

-- the machine sets the time of a raised and of a lowered lamp too; at level 0 there is none
pub machine_times :
    take 3 (machine (step 1 0 5 2 ∷ step 0 1 50 0 ∷ step 2 1 1 0x85 ∷ step 2 2 1 7 ∷ []) (fresh_state 3 1)).node.lamps
    ≡ lamp 5 120 ∷ lamp 49 5 ∷ lamp 0 0 ∷ []
unfolding time_formed step_formed machine_level machine_seconds machine_lamps machine_effect machine_step
machine_times = refl
