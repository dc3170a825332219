-- `lamps::entry_task`: an entry is the next task.
use Rattle.effects.proofs.Walks.{entry_found}
use Rattle.effects.proofs.lamps.entry_task.Goals as goal

pub returns : goal.returns
returns c = entry_found _ _ c.requires c.in-Ok.ensures _ _ c.hwpid_matches.ensures
