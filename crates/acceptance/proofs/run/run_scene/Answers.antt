-- `run::run_scene`: the compiler, then the requests.
use mathlib.Core.Path.{refl, sym, ◌∙◌}
use lib.Seq.{length-take-le}
use Rattle.std.specs.Prelude.{Ok}
use Rattle.std.proofs.lemmas.Result.{err_from_is_err_and}
use Rattle.node.specs.State.{SoundState, state}
use Rattle.scene.specs.Answer.{compile_answer}
use Rattle.scene.specs.Call.{compile_result}
use Rattle.scene.proofs.Calls.{answer_refused}
use Rattle.acceptance.proofs.Running.{Compiled, run_refused, run_inside, run_complete, run_done}
use Rattle.acceptance.proofs.run.run_scene.Goals as goal
use Rattle.acceptance.proofs.run.run_scene.Goals.{After-compile-compiled, In_ok-end}

-- the tests are passed
sound : (c : After-compile-compiled) → SoundState (state c.args.node c.args.eeprom.now c.args.external.now)
sound c =
    record {
      node_valid = sym c.node_ok.ensures ∙ c.if-not-node_ok.false;
      eeprom_sized = c.if-eeprom-size.false ∙ c.size.ensures.0;
      external_sized = c.if-external-size.false ∙ c.size-2.ensures.0;
    }

-- and the scene is compiled
compiled : (c : In_ok-end) → SoundState (state c.args.node c.args.eeprom.now c.args.external.now)
    → Compiled c.args.book.now c.args.scene (state c.args.node c.args.eeprom.now c.args.external.now) c.args.out.now
    (compile_result (compile_answer (Ok c.in_ok-end.end)) c.compile-compiled.new.out)
compiled c s = record { sound = s; result_is = c.in_ok-end.ensures.answer }

pub returns-in_err-end-clause-answer : goal.returns-in_err-end-clause-answer
returns-in_err-end-clause-answer c =
    let p = err_from_is_err_and c.from_residual.result c.from_residual.ensures.1 in
    let at = goal.at.returns-in_err-end-clause-answer c in
    rw (p.1, p.2) (run_refused (record { sound = sound at.After-compile-compiled; result_is = c.in_err-end.ensures.answer }) (answer_refused c.in_err-end.field-0.0))

-- the output is inside the buffer
pub slice_bounds-handle_output-end : goal.slice_bounds-handle_output-end
slice_bounds-handle_output-end c =
    let at = goal.at.slice_bounds-handle_output-end c in
    run_inside (compiled c (sound at.After-compile-compiled)) refl

pub slice_bounds-handle_output-end-2 : goal.slice_bounds-handle_output-end-2
slice_bounds-handle_output-end-2 c =
    let at = goal.at.slice_bounds-handle_output-end-2 c in
    sym (length-take-le _ _ (run_inside (compiled c (sound at.After-compile-compiled)) refl))

pub handle_output-requires : goal.handle_output-requires
handle_output-requires c =
    let at = goal.at.handle_output-requires c in
    run_complete (compiled at.In_ok-end (sound at.After-compile-compiled)) refl

pub returns-clause-answer : goal.returns-clause-answer
returns-clause-answer c =
    let at = goal.at.returns-clause-answer c in
    run_done (compiled at.In_ok-end (sound at.After-compile-compiled)) refl _ c.handle_output.ensures
