-- `check_list` recurses on the rest of the list, which gets shorter by each entry.
use Rattle.std.proofs.Common.{length}
use Rattle.batch.proofs.list.+check_list.Given as goal

abbrev pub decreases-check_list : goal.decreases-check_list
decreases-check_list l = length l.rest.now
