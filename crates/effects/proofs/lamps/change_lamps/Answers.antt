-- `lamps::change_lamps`: `PartlyDone` is the invariant of its loop.
use borrow.Author.Rules.{rules}
use Rattle.effects.proofs.LampChanges.{done_end, done_task, task_less, done_implemented, done_unimplemented}
use Rattle.effects.proofs.lamps.change_lamps.Goals as goal

pub returns-in_default : goal.returns-in_default
returns-in_default c =
    let done = done_end c.loop-walk.invariant.0 c.if-walk-eq0.true c.in_default.ensures in
    record { lamps = done.0; memories = done.1; lent = c.loop-walk.invariant.1 }

-- ---- the next request

pub loop-walk-smaller-then-walk-eq0 : goal.loop-walk-smaller-then-walk-eq0
loop-walk-smaller-then-walk-eq0 c =
    let ran = c.run_task-walk.ensures in
    task_less c.loop-walk.invariant.0 c.if-walk-eq0.true ran.bytes _ c.in-Some.ensures _ _ ran.walk ran.memories

pub loop-walk-preserved-then-walk-eq0 : goal.loop-walk-preserved-then-walk-eq0
loop-walk-preserved-then-walk-eq0 c =
    let ran = c.run_task-walk.ensures in
    (done_task c.loop-walk.invariant.0 c.if-walk-eq0.true ran.bytes _ c.in-Some.ensures _ _ ran.walk ran.memories, search rules)

-- ---- the next lamp

-- an implemented lamp
pub loop-walk-preserved-then-i-implemented : goal.loop-walk-preserved-then-i-implemented
loop-walk-preserved-then-i-implemented c = (
  done_implemented c.loop-walk.invariant.0 _ c.next_lamp-change.ensures _ c.from-implemented.ensures _ c.if-i-implemented.true c.lamp_after.ensures,
  c.loop-walk.invariant.1,
)

-- an unimplemented lamp
pub loop-walk-preserved : goal.loop-walk-preserved
loop-walk-preserved c = (
  done_unimplemented c.loop-walk.invariant.0 _ c.next_lamp-change.ensures _ c.from-implemented.ensures c.if-i-implemented.false,
  c.loop-walk.invariant.1,
)
