-- The lemmas that the check of a function tries on its goals, by the function's name.
use Rattle.dpa.proofs.Lists.{slice_to_end}
use Rattle.lights.proofs.Bits.{bits_mask}
use Rattle.lights.proofs.Lamps.{step_min, actual_max, inverse_divides, inverse_max}
use Rattle.lights.proofs.WellFormed.{short_malformed, well_formed_entries, bitmap_there, changes_command}
use Rattle.lights.proofs.Commands.{read_known, read_ok, read_tested, read_refused}
use Rattle.lights.proofs.Replies.{known_pcmd, change_malformed}
use Rattle.lights.proofs.RemainingLamps.{start_room}
use Rattle.lights.proofs.LampsLoop.{lamp_unchanged}
use Rattle.lights.proofs.Requests.{unchanged}

pub ruleset for_new = (step_min, inverse_max)

pub ruleset for_actual_level = (step_min, actual_max, inverse_divides)

pub ruleset for_well_formed = (short_malformed, well_formed_entries, bits_mask)

pub ruleset for_request = (read_ok, bitmap_there, known_pcmd, change_malformed)

pub ruleset for_walk_start = (start_room, slice_to_end, read_known, changes_command)

pub ruleset for_lamps_after = (read_tested, read_refused, unchanged, lamp_unchanged)
