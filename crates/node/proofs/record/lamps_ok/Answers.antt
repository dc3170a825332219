-- `record::lamps_ok` meets its contract. The invariant: `ok` is the test of every lamp, and of zeros from the count on.
use native.Mathlib.Omega.{arith}
use borrow.Author.Rules.{rules}
use mathlib.Core.Path.{◌≡◌, ap, ◌∙◌}
use Prim.Native.Nat.{◌-◌, ◌<◌}
use lib.ListN.{length, drop, length-drop}
use lib.Seq.{length-take-le}
use Rattle.std.proofs.lemmas.List.{get_or-take, get_or-drop}
use Rattle.dpa.specs.Settings.{max_lamps}
use Rattle.lights.specs.Lamp.{off, lamp_zero}
use Rattle.node.proofs.LampTests.{zeros_none, zeros_next, each_and_zeros}
use Rattle.node.proofs.record.lamps_ok.Goals as goal

pub loop-lamp-init : goal.loop-lamp-init
loop-lamp-init c = zeros_none c.args.count c.args.lamps c.each_ok-ok.ensures

pub loop-lamp-preserved : goal.loop-lamp-preserved
loop-lamp-preserved c =
    let a = c.args in
    let i = c.loop-lamp.lamp-index in
    let n : length a.lamps ≡ max_lamps = search rules in
    let h : i < 32 - a.count = let d = length-drop a.count a.lamps in omega (arith, d, length-take-le (32 - a.count) (drop a.count a.lamps) (omega arith)) in
    zeros_next a.count a.lamps i c.loop-lamp.invariant
    (c.lamp_zero-ok.ensures ∙ ap lamp_zero (get_or-take (32 - a.count) (drop a.count a.lamps) i off h ∙ get_or-drop a.count a.lamps i off))

pub returns : goal.returns
returns c =
    let n : length c.args.lamps ≡ max_lamps = search rules in
    c.loop-lamp.invariant
    ∙ each_and_zeros c.args.count c.args.lamps
    (let d = length-drop c.args.count c.args.lamps in omega (arith, d, length-take-le (32 - c.args.count) (drop c.args.count c.args.lamps) (omega arith)))
