-- `lamps::next_task`: the request of the frame.
use Rattle.effects.proofs.Walks.{after_whole}
use Rattle.effects.proofs.lamps.next_task.Goals as goal

pub returns-in-Whole : goal.returns-in-Whole
returns-in-Whole c = after_whole _ c.args.request.header c.args.request.pdata.now _ _ c.whole_task.ensures c.requires c.in-Whole.is
