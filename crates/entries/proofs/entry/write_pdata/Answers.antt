-- A lamp entry: bitmap, then power bytes. A memory entry: address, then values.
use mathlib.Core.Path.{sym, ap, ◌∙◌}
use native.Mathlib.Omega.{arith}
use lib.ListN.{length}
use Rattle.entries.proofs.Writers.{writes_append, writes_length}
use Rattle.entries.proofs.Writing.{data_lamp, data_memory, values_count}
use Rattle.entries.proofs.entry.write_pdata.Goals as goal

pub write_bitmap-requires : goal.write_bitmap-requires
write_bitmap-requires c =
    let steps = c.args.steps in
    let e = data_lamp steps.count steps.body.now c.requires.0 c.step-first.ensures (sym c.is_lamp.ensures ∙ c.if-is_lamp.true) in
    omega (arith, c.requires.1, ap length e)

pub write_powers-requires : goal.write_powers-requires
write_powers-requires c =
    let steps = c.args.steps in
    let lamp = sym c.is_lamp.ensures ∙ c.if-is_lamp.true in
    let e = data_lamp steps.count steps.body.now c.requires.0 c.step-first.ensures lamp in
    (omega (arith, c.requires.1, ap length e, c.write_bitmap.ensures.end, writes_length c.write_bitmap.ensures), c.requires.2 (rw c.step-first.ensures at lamp))

pub returns-then-is_lamp : goal.returns-then-is_lamp
returns-then-is_lamp c =
    let steps = c.args.steps in
    let e = data_lamp steps.count steps.body.now c.requires.0 c.step-first.ensures (sym c.is_lamp.ensures ∙ c.if-is_lamp.true) in
    rw e (writes_append (rw c.bitmap_of.ensures at c.write_bitmap.ensures) c.write_powers.ensures)

pub write_byte-requires : goal.write_byte-requires
write_byte-requires c =
    let steps = c.args.steps in
    let e = data_memory steps.count steps.body.now c.requires.0 c.step-first.ensures (sym c.is_lamp.ensures ∙ c.if-is_lamp.false) in
    omega (arith, c.requires.1, ap length e)

pub write_values-requires : goal.write_values-requires
write_values-requires c =
    let steps = c.args.steps in
    let e = data_memory steps.count steps.body.now c.requires.0 c.step-first.ensures (sym c.is_lamp.ensures ∙ c.if-is_lamp.false) in
    let w = c.write_byte.ensures in
    omega (arith, c.requires.1, ap length e, values_count steps.count steps.body.now, w.end, writes_length w)

pub returns : goal.returns
returns c =
    let steps = c.args.steps in
    let e = data_memory steps.count steps.body.now c.requires.0 c.step-first.ensures (sym c.is_lamp.ensures ∙ c.if-is_lamp.false) in
    rw e (writes_append c.write_byte.ensures c.write_values.ensures)
