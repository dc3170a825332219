-- `request::request` meets its contract, by the PCMD.
use mathlib.Core.Path.{sym, ◌∙◌}
use Rattle.std.proofs.lemmas.Result.{err_from_is_err_and}
use Rattle.dpa.specs.declared.error.ErrN.TheVariants.{Pcmd}
use Rattle.lights.specs.Lights.{command_of}
use Rattle.lights.proofs.Commands.{read_ok, read_err}
use Rattle.lights.proofs.Replies.{refused, known_pcmd, unknown_pcmd, change_answered}
use Rattle.lights.proofs.request.request.Goals as goal

pub returns-in_err-try_from : goal.returns-in_err-try_from
returns-in_err-try_from c =
    let a = c.args in
    let p = err_from_is_err_and c.from_residual.result c.from_residual.ensures.1 in
    let e = read_err a.pcmd c.in_err-try_from.field-0.0 (sym c.in_err-try_from.ensures) in
    rw (p.1, p.2, e.1) (refused _ Pcmd a.lamps a.out.now (unknown_pcmd a.settings a.pcmd a.pdata.now a.lamps e.0 c.if-pcmd-eq-ENUMERATE.false))

pub returns : goal.returns
returns c =
    let a = c.args in
    let known = read_ok a.pcmd _ (sym c.in_ok-try_from.ensures) in
    let w = c.write_levels.ensures in
    let levels = rw c.new.ensures at w in
    rw (known_pcmd a.settings a.pcmd a.pdata.now a.lamps known)
    (change_answered a.settings (command_of a.pcmd) a.pdata.now a.lamps (sym c.well_formed-2.ensures ∙ c.if-not-well_formed.false) _ _ _ levels.0 levels.1)
