-- `run_scene`: the state after it is the one that the step machine reaches.
use mathlib.Core.Path.{◌≡◌, refl, sym, ap, ◌∙◌, subst}
use mathlib.Core.Logic.{inl}
use mathlib.Core.List.{List, [], ◌∷◌}
use Prim.Native.Nat.{ℕ, suc, ◌≤◌}
use native.Mathlib.Omega.{arith}
use lib.Dec.{eqb}
use lib.ListN.{length}
use borrow.Author.Tests.{eq-eqb, ne_eqb, eqb-true, eqb-false}
use Rattle.dpa.proofs.Bool.{by_cond}
use Rattle.memory.specs.declared.block.Memory.TheVariants.{Eeprom, External}
use Rattle.memory.specs.Block.{size_of}
use Rattle.node.specs.Node.{node_ok}
use Rattle.node.specs.State.{State, SoundState}
use Rattle.outcome.specs.Request.{handle_request}
use Rattle.outcome.proofs.Soundness.{request_sound}
use Rattle.book.specs.Book.{scene_of}
use Rattle.step.specs.Machine.{machine}
use Rattle.output.specs.Output.{requests_in, CompleteOutput}
use Rattle.scene.specs.Call.{CompileResult, output_of, compile_for}
use Rattle.scene.proofs.Refusals.{compile_refusals, output_inside, output_whole}
use Rattle.acceptance.specs.SceneTheorem.{Given, after_calls}
use Rattle.acceptance.specs.RunScene.{zero_buffer, SceneResult, result, after_compile, run_scene}
use Rattle.acceptance.proofs.Scenes.{addressed_theorem}

-- the assumptions of the theorem hold for a sound state, its own address and its own profile
own_given : (st : State) → SoundState st → Given st (λ _. zero_buffer) st.node.settings.address st.node.settings.hwpid
own_given st r = record { sound = r; room = λ _. omega arith; address = inl refl; profile = inl refl }

-- the result of compiling for the node's own address and profile
abbrev compile_own : List ℕ → ℕ → State → List ℕ → CompileResult
compile_own book k st out = compile_for book k st.node.settings.address st.node.settings.hwpid out

-- the tests are passed: the state is sound, and c is the result of compiling for the node
pub record Compiled (book : List ℕ) (k : ℕ) (st : State) (out : List ℕ) (c : CompileResult) : Type 0 where
  pub sound : SoundState st
  pub result_is : c ≡ compile_own book k st out

module _ {book : List ℕ} {k : ℕ} {st : State} {out : List ℕ} {c : CompileResult} (p : Compiled book k st out c) where
  compiled_first : run_scene book k st out ≡ after_compile c st (machine (scene_of book k) st)
  unfolding run_scene
  compiled_first =
      let s = p.sound in
      rw (s.node_valid, eq-eqb (length st.eeprom) (size_of Eeprom) s.eeprom_sized, eq-eqb (length st.external) (size_of External) s.external_sized)
      (ap (λ (d : CompileResult). after_compile d st (machine (scene_of book k) st)) (sym p.result_is))

  -- refused by the compiler
  pub run_refused : (c.refusal ≡ 0 → ⊥) → result c.refusal c.step st c.buffer ≡ run_scene book k st out
  unfolding after_compile
  run_refused n = sym (compiled_first ∙ rw (ne_eqb c.refusal 0 n))

  module _ (z : c.refusal ≡ 0) where
    accepted : (compile_own book k st out).refusal ≡ 0
    accepted = sym (ap (λ (d : CompileResult). d.refusal) p.result_is) ∙ z

    -- the output is inside the buffer
    pub run_inside : c.length ≤ length c.buffer
    run_inside = output_inside book k st.node.settings.address st.node.settings.hwpid out c p.result_is z

    -- and holds all requests
    pub run_complete : CompleteOutput (output_of c)
    run_complete = output_whole book k st.node.settings.address st.node.settings.hwpid out c p.result_is z

    -- the state after the requests is the one that the step machine reaches
    pub run_done : (done : State) → done ≡ after_calls (λ _. zero_buffer) (requests_in (output_of c)) st
        → result 0 0 done c.buffer ≡ run_scene book k st out
    unfolding after_compile
    run_done done d =
        let a = st.node.settings.address in
        let h = st.node.settings.hwpid in
        let end : done ≡ machine (scene_of book k) st =
        d
        ∙ ap (λ (y : CompileResult). after_calls (λ _. zero_buffer) (requests_in (output_of y)) st) p.result_is
        ∙ ((addressed_theorem st (λ _. zero_buffer) book k a h (own_given st p.sound)).buffer out accepted).final in
        sym (compiled_first ∙ rw (eq-eqb c.refusal 0 z) (ap (λ (y : State). result 0 0 y c.buffer) (sym end)))

-- a sound state stays sound under any calls
calls_sound : (buffers : ℕ → List ℕ) (rs : List (List ℕ)) (st : State) → SoundState st → SoundState (after_calls buffers rs st)
calls_sound buffers [] st r = r
calls_sound buffers (f ∷ fs) st r =
    calls_sound (λ i. buffers (suc i)) fs (handle_request f st (buffers 0)).after (request_sound f st (buffers 0) r)

module _ (book : List ℕ) (k : ℕ) (st : State) (out : List ℕ) where
  -- a property of results holds for every call if it holds where the node or a memory is refused, where the compiler refuses, and
  -- for the state that the step machine reaches
  run_cases : (P : SceneResult → Type 0) → ((refusal : ℕ) → P (result refusal 0 st out))
      → (let c = compile_own book k st out in (c.refusal ≡ 0 → ⊥) → P (result c.refusal c.step st c.buffer))
      → (let c = compile_own book k st out in c.refusal ≡ 0 → P (result 0 0 (machine (scene_of book k) st) c.buffer))
      → P (run_scene book k st out)
  unfolding run_scene after_compile
  run_cases P refused not-compiled done =
      by_cond P (node_ok st.node) _ _
      (λ _. by_cond P (eqb (length st.eeprom) (size_of Eeprom)) _ _
      (λ _. by_cond P (eqb (length st.external) (size_of External)) _ _
      (λ _. by_cond P (eqb (compile_own book k st out).refusal 0) _ _ (λ z. done (eqb-true _ _ z)) (λ n. not-compiled (eqb-false _ _ n)))
      (λ _. refused 4))
      (λ _. refused 4))
      (λ _. refused 1)

  -- a refused call leaves the node, both memories and the buffer unchanged
  pub scene_refused : ((run_scene book k st out).refusal ≡ 0 → ⊥) → ((run_scene book k st out).after ≡ st) × ((run_scene book k st out).out ≡ out)
  scene_refused =
      run_cases (λ (r : SceneResult). (r.refusal ≡ 0 → ⊥) → (r.after ≡ st) × (r.out ≡ out))
      (λ _ _. (refl, refl))
      (λ n _. (refl, ((compile_refusals book k st.node.settings.address st.node.settings.hwpid out).unwritten n).1))
      (λ _ n. absurd (n refl))

  -- running a scene keeps a state sound
  pub scene_sound : SoundState st → SoundState (run_scene book k st out).after
  scene_sound s =
      run_cases (λ (r : SceneResult). SoundState r.after) (λ _. s) (λ _. s)
      (λ z. subst SoundState ((addressed_theorem st (λ _. zero_buffer) book k st.node.settings.address st.node.settings.hwpid (own_given st s)).buffer out z).final
      (calls_sound (λ _. zero_buffer) (requests_in (output_of (compile_own book k st out))) st s))
