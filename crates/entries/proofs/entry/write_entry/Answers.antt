-- The entry is its head, then its PData.
use Rattle.entries.proofs.Writers.{writes_append}
use Rattle.entries.proofs.Writing.{entry_split}
use Rattle.entries.proofs.entry.write_entry.Goals as goal

pub returns : goal.returns
returns c =
    let steps = c.args.steps in
    let e = entry_split steps.count steps.body.now c.args.hwpid c.requires.0 c.step-first.ensures c.requires.2 in
    rw e (writes_append c.write_head.ensures c.write_pdata.ensures)
