-- `levels::write_levels` meets its contract: proofs/LevelsLoop has the invariant and its laws.
use borrow.Author.Rules.{rules}
use native.Mathlib.Omega.{arith}
use mathlib.Core.Path.{◌≡◌, ◌∙◌}
use lib.ListN.{length}
use lib.Seq.{length-take-le}
use Rattle.dpa.specs.Settings.{max_lamps}
use Rattle.lights.proofs.LevelsLoop.{levels_start, levels_counted, levels_written, levels_some, levels_next}
use Rattle.lights.proofs.levels.write_levels.Goals as goal

pub loop-level-init : goal.loop-level-init
loop-level-init c =
    let a = c.args in
    levels_start a.rounding.settings a.pdata.now a.lamps _ _ (λ i. (c.type_inv.pdata i).fits) c.mask_of-mask.ensures
    (omega (arith, length-take-le c.selected_count.result a.out.now (omega arith)))

pub lowest_lamp-requires : goal.lowest_lamp-requires
lowest_lamp-requires c = levels_some c.loop-level.invariant (omega arith)

pub without_lowest-remaining-requires : goal.without_lowest-remaining-requires
without_lowest-remaining-requires c = levels_some c.loop-level.invariant (omega arith)

pub loop-level-preserved : goal.loop-level-preserved
loop-level-preserved c =
    let lamps_length : length c.args.lamps ≡ max_lamps = search rules in
    rw c.without_lowest-remaining.ensures
    (levels_next c.loop-level.invariant c.args.rounding.settings_valid c.requires.0 lamps_length _ c.lowest_lamp.result (omega arith) c.lowest_lamp.ensures.0 c.actual_level.ensures)

pub returns : goal.returns
returns c =
    let lamps_length : length c.args.lamps ≡ max_lamps = search rules in
    let n : length c.loop-level.level-items ≡ c.selected_count.result = omega (arith, length-take-le c.selected_count.result c.args.out.now (omega arith)) in (
      c.selected_count-2.ensures.0 ∙ levels_counted _ _ _ _ lamps_length (λ i. (c.type_inv.pdata i).fits) c.mask_of-mask.ensures,
      levels_written c.loop-level.invariant lamps_length (omega arith) _ c.args.out.now n,
    )
