-- `receive::receive` meets its contract: proofs/Receiving has the invariant and its laws.
use Rattle.std.proofs.Common.{◌≡◌, sym, ◌∙◌, arith, length}
use Rattle.uart.proofs.Receivers.{refused_call}
use Rattle.uart.proofs.Receiving.{taken_none, taken_next, taken_event, taken_all}
use Rattle.uart.proofs.receive.receive.Goals as goal

pub returns-in-Err : goal.returns-in-Err
returns-in-Err c = c.refused.ensures ∙ rw c.in-Err.ensures.1 (sym (refused_call _ _ c.in-Err.ensures.0))

pub loop-i-init : goal.loop-i-init
loop-i-init c = rw c.in-Ok.ensures.1 (taken_none _ _)

pub loop-i-preserved : goal.loop-i-preserved
loop-i-preserved c = rw c.take.ensures (taken_next c.loop-i.invariant c.loop-i-test.true (sym c.ends.ensures ∙ c.if-ends.false))

pub returns-then-ends : goal.returns-then-ends
returns-then-ends c = c.end_frame.ensures ∙ taken_event c.loop-i.invariant c.loop-i-test.true (sym c.ends.ensures ∙ c.if-ends.true) c.in-Ok.ensures.0

pub returns : goal.returns
returns c =
    let all : c.loop-i.i ≡ length c.args.bytes.now = omega arith in
    c.nothing.ensures ∙ rw (c.from.ensures, ← all) (taken_all c.loop-i.invariant all c.in-Ok.ensures.0)
