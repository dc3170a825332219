-- `check_byte::shifted` meets its contract.
use mathlib.Core.List.{[]}
use Rattle.crc.proofs.CheckBytes.{table_digits}
use Rattle.crc.proofs.check_byte.shifted.Goals as goal

pub returns : goal.returns
returns c = table_digits c.args.n c.args.byte _ _ (record { low = []; high = [] }) c.requires c.ranges.byte.fits c.from.ensures c.from-2.ensures
