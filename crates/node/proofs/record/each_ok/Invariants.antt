-- `record::each_ok` meets its contract. The invariant: `ok` is the test over the lamps before the index.
use mathlib.Core.Path.{◌≡◌}
use lib.ListN.{get_or}
use Rattle.dpa.specs.Lists.{all_below}
use Rattle.lights.specs.Lamp.{off, lamp_ok}
use Rattle.node.proofs.record.each_ok.Given as goal

abbrev pub invariant-loop-lamp : goal.invariant-loop-lamp
invariant-loop-lamp l = l.ok ≡ all_below l.lamp-index (λ k. lamp_ok (get_or l.fn.lamps k off))
