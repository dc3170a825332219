-- `levels::write_levels` meets its contract: proofs/LevelsLoop has the invariant and its laws.
use Rattle.lights.specs.Bits.{bitmap}
use Rattle.lights.specs.Lights.{levels_before}
use Rattle.lights.proofs.LevelsLoop.{LevelsLoop}
use Rattle.lights.proofs.levels.write_levels.Given as goal

abbrev pub invariant-loop-level : goal.invariant-loop-level
invariant-loop-level l =
    let s = l.rounding.settings in
    LevelsLoop s l.lamps (levels_before s s.lamp_count (bitmap l.pdata) l.lamps) l.level-items l.remaining l.level-index
