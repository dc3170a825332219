-- `bitmap::selected_count` meets its contract: `count_ones` counts the 1-bits.
use native.Mathlib.Omega.{arith}
use mathlib.Core.Path.{◌≡◌}
use lib.Count.{ones}
use Rattle.dpa.specs.Settings.{max_lamps}
use Rattle.lights.specs.Bits.{bits, count}
use Rattle.lights.proofs.Bits.{ones_count, count_le}
use Rattle.lights.proofs.bitmap.selected_count.Goals as goal

pub returns : goal.returns
returns c =
    let e : ones c.args.mask ≡ count (bits max_lamps c.args.mask) = ones_count max_lamps c.args.mask c.ranges.mask.fits in
    (e, omega (arith, e, count_le max_lamps c.args.mask))
