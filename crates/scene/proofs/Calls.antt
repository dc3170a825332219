-- What a compile call writes and answers.
use mathlib.Core.List.{List, [], ◌∷◌}
use mathlib.Core.Path.{◌≡◌, refl, sym, ap, ◌∙◌}
use mathlib.Core.Bool.{Bool, true, false, not, true≢false}
use Prim.Native.Nat.{ℕ, suc, ◌≤◌, ◌<◌}
use native.Mathlib.Omega.{arith}
use lib.ListN.{length, drop}
use lib.Seq.{take-append_seam, sets}
use lib.Dec.{ltb, leb}
use borrow.Author.Tests.{le-leb, lt-leb, le-ltb, eq-eqb}
use Rattle.dpa.proofs.Bool.{by_cond, by_test}
use Rattle.dpa.proofs.Lists.{sets_front}
use Rattle.std.specs.Prelude.{Result, Ok, Err, IfErr}
use Rattle.std.specs.Result.{IsErrAnd}
use Rattle.book.specs.declared.step.Step.{Step}
use Rattle.book.specs.declared.check.BookFault.{BookFault}
use Rattle.book.specs.Book.{scene_count, book_ok, scene_of}
use Rattle.book.specs.Check.{check_book}
use Rattle.book.proofs.Checks.{sound_book, bad_book}
use Rattle.dpa.specs.Refusal.{refusal_number}
use Rattle.step.proofs.GoodSteps.{refused}
use Rattle.step.specs.Step.{StepsCheck, AllGood, Bad, good_step, step_fault, first_bad_from}
use Rattle.step.specs.declared.fault.BadStep.{BadStep}
use Rattle.step.proofs.Faults.{fault_range}
use Rattle.output.specs.Output.{output, requests_in, min_output}
use Rattle.output.proofs.Outputs.{requests_back}
use Rattle.scene.specs.declared.compile.CompileError.{CompileError}
use Rattle.scene.specs.declared.compile.CompileError.TheVariants.{Refused, Step as AtStep}
use Rattle.scene.specs.Answer.{compile_answer, NamesStep}
use Rattle.scene.specs.Call.{CompileResult, output_of, refused_with, output_in_buffer, compile_steps, compile_scene, compile_to}

-- a well-formed book that has the scene, and no bad step in it
pub record Faultless (b : List ℕ) (k : ℕ) : Type 0 where
  pub book : book_ok b ≡ true
  pub number : k < scene_count b
  pub steps : first_bad_from 0 (scene_of b k) ≡ AllGood

-- with any rule from steps to requests
module _ (b : List ℕ) (k : ℕ) (requests : List Step → List (List ℕ)) (out : List ℕ) where
  -- the check of the book finds a fault
  pub no_book : (fault : BookFault) → Err fault ≡ check_book b → refused_with 6 0 out ≡ compile_scene b k requests out
  unfolding compile_scene
  no_book fault e = rw (bad_book b fault (sym e)) refl

  -- it finds none, and the book has no scene k
  pub no_scene : Ok tt ≡ check_book b → scene_count b ≤ k → refused_with 7 0 out ≡ compile_scene b k requests out
  unfolding compile_scene
  no_scene e h = rw (sound_book b (sym e), le-leb (scene_count b) k h) refl

  -- or has it
  pub in_book : Ok tt ≡ check_book b → k < scene_count b → compile_steps (first_bad_from 0 (scene_of b k)) (requests (scene_of b k)) out ≡ compile_scene b k requests out
  unfolding compile_scene
  in_book e h = rw (sound_book b (sym e), lt-leb (scene_count b) k h) refl

  -- with room and without a fault the output is written
  pub scene_written : min_output ≤ length out → Faultless b k → compile_scene b k requests out ≡ output_in_buffer (output (requests (scene_of b k))) out
  unfolding compile_scene
  scene_written room f = rw (f.book, lt-leb (scene_count b) k f.number, f.steps, le-ltb (length out) min_output room)

  abbrev Unwritten : CompileResult → Type 0
  Unwritten r = (r.refusal ≡ 0 → ⊥) → (r.length ≡ 0) × (r.buffer ≡ out)

  steps_unwritten : (x : StepsCheck) → Unwritten (compile_steps x (requests (scene_of b k)) out)
  steps_unwritten (Bad j r) = λ _. (refl, refl)
  steps_unwritten AllGood = by_cond Unwritten (ltb (length out) min_output) _ _ (λ _ _. (refl, refl)) (λ _ n. absurd (n refl))

  -- a refused scene has no output, and the buffer stays
  pub scene_unwritten : Unwritten (compile_scene b k requests out)
  unfolding compile_scene
  scene_unwritten =
      by_cond Unwritten (not (book_ok b)) _ _ (λ _ _. (refl, refl))
      (λ _. by_cond Unwritten (leb (scene_count b) k) _ _ (λ _ _. (refl, refl)) (λ _. steps_unwritten (first_bad_from 0 (scene_of b k))))

-- and any target
module _ (valid : Bool) (b : List ℕ) (k : ℕ) (requests : List Step → List (List ℕ)) (out : List ℕ) where
  -- a target that is not valid is refused
  pub target_refused : valid ≡ false → compile_to valid b k requests out ≡ refused_with 1 0 out
  unfolding compile_to
  target_refused e = rw e refl

  -- for any other the scene is compiled
  pub target_valid : valid ≡ true → compile_to valid b k requests out ≡ compile_scene b k requests out
  unfolding compile_to
  target_valid e = rw e refl

  -- with room and no fault the call writes the output
  pub compile_written : valid ≡ true → min_output ≤ length out → Faultless b k
      → compile_to valid b k requests out ≡ output_in_buffer (output (requests (scene_of b k))) out
  compile_written t room f = target_valid t ∙ scene_written b k requests out room f

  -- a refused call has no output, and the buffer stays
  pub compile_refused : ((compile_to valid b k requests out).refusal ≡ 0 → ⊥)
      → ((compile_to valid b k requests out).length ≡ 0) × ((compile_to valid b k requests out).buffer ≡ out)
  unfolding compile_to
  compile_refused = by_cond (Unwritten b k requests out) (not valid) _ _ (λ _ _. (refl, refl)) (λ _. scene_unwritten b k requests out)

  -- the requests are read back from the output
  pub buffer_back : valid ≡ true → min_output ≤ length out → Faultless b k
      → requests_in (output_of (compile_to valid b k requests out)) ≡ requests (scene_of b k)
  buffer_back t room f =
      let rs = requests (scene_of b k) in
      let o = output rs in
      ap (λ (r : CompileResult). requests_in (output_of r)) (compile_written t room f)
      ∙ ap requests_in (take-append_seam o (drop (length o) out))
      ∙ requests_back rs

-- the result of a call that wrote the output from byte 0 on
pub result_written : (o out out' : List ℕ) (used : ℕ) → used ≡ length o → out' ≡ sets out 0 o → length o ≤ length out
    → ◌≡◌ {A = CompileResult} (record { refusal = 0; step = 0; length = used; buffer = out' }) (output_in_buffer o out)
result_written o out out' used eu eo h = rw (eu, eo, sets_front o out h)

-- an answer to C that is not refused is of a call that compiled
pub answer_refused : (e : CompileError) → (compile_answer (Err e)).refusal ≡ 0 → ⊥
answer_refused (Refused r) = refused r
answer_refused (AtStep bad) = refused bad.refusal

-- the refusal of a bad step is 81 or more
pub bad_named : (i : ℕ) (ss : List Step) (k f : ℕ) → Bad k f ≡ first_bad_from i ss → 81 ≤ f
bad_named i [] k f e = cc
bad_named i (s ∷ ss) k f e = by_test (good_step s) (λ g. bad_named (suc i) ss k f (rw g at e))
    (λ g. let r : Bad k f ≡ Bad i (step_fault s) = rw g at e in let m : f ≡ step_fault s = cc in
    let range = fault_range s (λ z. true≢false (sym (eq-eqb _ _ z) ∙ g)) in
    let low : 81 ≤ step_fault s = range.0 in omega arith)

-- an error that is a bad step names it
pub step_named : {T : Type 0} (r : Result T CompileError) (bad : BadStep) → IsErrAnd r (λ e. e ≡ AtStep bad) → 81 ≤ refusal_number bad.refusal
    → IfErr r NamesStep
step_named (Ok x) bad h n = tt
step_named (Err e) bad h n = rw h n
