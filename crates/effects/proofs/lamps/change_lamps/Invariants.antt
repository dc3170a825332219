-- `lamps::change_lamps`: `PartlyDone` is the invariant of its loop; the same references lend the memories.
use Rattle.outcome.specs.Seen.{memories_in, request_seen, SameLent}
use Rattle.effects.proofs.Walks.{left}
use Rattle.effects.proofs.LampChanges.{PartlyDone}
use Rattle.effects.proofs.lamps.change_lamps.Given as goal

abbrev pub invariant-loop-walk : goal.invariant-loop-walk
invariant-loop-walk l =
    PartlyDone l.settings (request_seen l.request) l.initial.walk l.initial.after (memories_in l.initial.memories) l.walk l.after (memories_in l.memories)
    × SameLent l.initial.memories l.memories

abbrev pub decreases-loop-walk : goal.decreases-loop-walk
decreases-loop-walk l = left (request_seen l.request) l.walk
