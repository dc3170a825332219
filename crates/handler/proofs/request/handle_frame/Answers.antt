-- The answer, then its effect.
use Rattle.std.proofs.Common.{sym, ◌∙◌, rules}
use Rattle.handler.proofs.Frames.{frame_effect, reported_place, frame_handled}
use Rattle.handler.proofs.request.handle_frame.Goals as goal

pub apply-after-requires : goal.apply-after-requires
apply-after-requires c =
    let a = c.args in (
      rw c.from-fixed.ensures c.requires.0,
      frame_effect a.node a.frame.now a.eeprom.now a.external.now a.response.now _ c.read-request.result.header _ c.respond-done.result c.respond-done.ensures c.effect.ensures,
    )

pub answer_handled-requires : goal.answer_handled-requires
answer_handled-requires c =
    let a = c.args in
    rw c.report.ensures
    (reported_place a.node a.frame.now a.eeprom.now a.external.now a.response.now _ c.read-request.result.header _ c.respond-done.result c.respond-done.ensures
    c.read-request.ensures.request c.requires.2)

pub returns : goal.returns
returns c =
    let a = c.args in
    rw (c.answer_handled.ensures, c.node.ensures, c.report.ensures)
    (frame_handled a.node a.frame.now a.eeprom.now a.external.now a.response.now _ c.read-request.result.header _ c.respond-done.result c.respond-done.ensures
    c.read-request.ensures.request c.from-fixed.ensures c.read-request.ensures.header (sym c.addressed.ensures ∙ c.if-not-addressed.false)
    c.apply-after.new.memories c.effect.ensures c.apply-after.ensures.state (search rules) (search rules) (search rules))
