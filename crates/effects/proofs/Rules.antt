-- The lemmas that the check of a function tries on its goals, by the function's name.
use Rattle.effects.proofs.Walks.{none_at_end, none_at_fault, entry_inside}

pub ruleset for_entry_task = (none_at_end, none_at_fault, entry_inside)
