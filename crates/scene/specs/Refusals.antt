-- Document 01, "Frames" and "Scenes", with document 02, changes 1 and 3: the refusals of a compile call, each given exactly for its
-- fault (`Refusals`). Proved in proofs/Refusals.
use Rattle.std.specs.Prelude.{ℕ, ◌≤◌, ◌<◌, ◌≡◌, ◌⊎◌, ◌↔◌, true, false, List, ◌∷◌, ◌++◌, length, drop}
use Rattle.dpa.specs.Lists.{All}
use Rattle.dpa.specs.Frame.{broadcast_nadr}
use Rattle.dpa.specs.Settings.{last_address}
use Rattle.book.specs.declared.step.Step.{Step}
use Rattle.book.specs.Book.{scene_count, book_ok, scene_of}
use Rattle.step.specs.Step.{no_fault, step_fault}
use Rattle.output.specs.Output.{min_output}
use Rattle.scene.specs.Call.{CompileResult}

-- An address that a scene can be compiled for: a node's, 1 to 239, or the broadcast address, 255.
abbrev pub Addressable : ℕ → Type 0
Addressable a = ((1 ≤ a) × (a ≤ last_address)) ⊎ (a ≡ broadcast_nadr)

-- A step without a fault.
abbrev pub NoFault : Step → Type 0
NoFault s = step_fault s ≡ no_fault

-- A scene without a fault: the book is well-formed and has the scene, and no step of the scene is bad.
pub record SceneRule (book : List ℕ) (scene : ℕ) : Type 0 where
  pub is_well_formed : book_ok book ≡ true
  pub known : scene < scene_count book
  pub fault_free : All NoFault (scene_of book scene)

-- A refusal for a bad step: 81 for its kind, 82 for its target, 83 for its value, 84 for its time. `FaultMeaning`
-- (step/specs/Step) says when each is given.
abbrev pub StepRefusal : ℕ → Type 0
StepRefusal n = (81 ≤ n) × (n ≤ 84)

-- Step k, counted from 0, is the first bad step, and n is its fault.
pub record FirstBad (steps : List Step) (n k : ℕ) : Type 0 where
  pub earlier : List Step
  pub bad : Step
  pub later : List Step
  pub order : steps ≡ earlier ++ (bad ∷ later)
  pub number : length earlier ≡ k
  pub fault_free : All NoFault earlier
  pub not_good : ¬ NoFault bad
  pub fault : step_fault bad ≡ n

-- The result r of a compile call, where `Target` says that the address (`Addressable`) or the set of nodes (`Selectable`,
-- dpa/specs/NodeSet) is one to compile for. Each refusal number is given exactly for its fault, if no fault earlier in this list
-- applies; 0 is given exactly if there is no fault.
pub record Refusals (Target : Type 0) (book : List ℕ) (scene : ℕ) (out : List ℕ) (r : CompileResult) : Type 0 where
  -- 1: the address or the set of nodes
  pub target : (r.refusal ≡ 1) ↔ (¬ Target)
  -- 6: the bytes are no scene book
  pub ill_formed : (r.refusal ≡ 6) ↔ (Target × (book_ok book ≡ false))
  -- 7: the book has no scene of that number
  pub unknown : (r.refusal ≡ 7) ↔ (Target × (book_ok book ≡ true) × (scene_count book ≤ scene))
  -- 81 to 84: the fault of the first bad step, with its number
  pub bad_step : (n k : ℕ) → (StepRefusal n × (r.refusal ≡ n) × (r.step ≡ k))
      ↔ (Target × (book_ok book ≡ true) × (scene < scene_count book) × FirstBad (scene_of book scene) n k)
  -- 9: the output buffer is too small
  pub no_room : (r.refusal ≡ 9) ↔ (Target × SceneRule book scene × (length out < min_output))
  -- 0: compiled
  pub none : (r.refusal ≡ 0) ↔ (Target × SceneRule book scene × (min_output ≤ length out))
  -- the number of a step is given with refusals 81 to 84 only
  pub other_step : ¬ StepRefusal r.refusal → r.step ≡ 0
  -- a refused call has no output and leaves the buffer unchanged
  pub unwritten : ¬ (r.refusal ≡ 0) → (r.length ≡ 0) × (r.buffer ≡ out)
  -- the bytes of the buffer after the output are unchanged
  pub later : drop r.length r.buffer ≡ drop r.length out
