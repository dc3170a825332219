-- `walk::next_lamp` meets its contract: proofs/RemainingLamps has the step.
use Rattle.lights.proofs.RemainingLamps.{next_step}
use Rattle.lights.proofs.walk.next_lamp.Goals as goal

pub returns : goal.returns
returns c =
    let p = c.requires in
    rw (c.lowest_lamp.ensures.0, c.without_lowest.ensures) (next_step p.0 p.1 _ c.valid_power_entry_at-entry.ensures)
