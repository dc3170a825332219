-- `check_list` recurses on the rest of the list, which gets shorter by each entry.
use native.Mathlib.Omega.{arith}
use mathlib.Core.Path.{sym, ◌∙◌}
use lib.ListN.{length-drop, length-take}
use Rattle.batch.proofs.Entries.{entry_sized}
use Rattle.batch.proofs.Lists.{check_end, check_fault, check_entry}
use Rattle.batch.proofs.Places.{place_in_list}
use Rattle.batch.proofs.list.+check_list.Goals as goal

pub returns-then-at_end : goal.returns-then-at_end
returns-then-at_end t c = check_end c.args.rest.now (sym c.at_end.ensures ∙ c.if-at_end.true)

pub returns-in_default : goal.returns-in_default
returns-in_default t c = rw (c.and.ensures, c.in_default.is) (check_fault c.args.rest.now (sym c.at_end.ensures ∙ c.if-at_end.false) c.in_default.ensures)

pub slice_bounds-check_list-count : goal.slice_bounds-check_list-count
slice_bounds-check_list-count t c = (entry_sized c.args.rest.now (sym c.in-Ok.ensures)).1

pub slice_bounds-check_list-start : goal.slice_bounds-check_list-start
slice_bounds-check_list-start t c = omega (arith, entry_sized c.args.rest.now (sym c.in-Ok.ensures))

pub check_list-requires : goal.check_list-requires
check_list-requires t c =
    let z = entry_sized c.args.rest.now (sym c.in-Ok.ensures) in
    (simp (length-take, length-drop) (omega arith), tt)

pub after-requires : goal.after-requires
after-requires t c =
    let s = c.args.rest.now in
    let l = c.in-Ok.field-0.len in
    let inside = entry_sized s (sym c.in-Ok.ensures) in
    omega (arith, place_in_list s l inside.1 c.in-Err.ensures)

pub returns-in-Err : goal.returns-in-Err
returns-in-Err t c = rw (c.after.ensures) (check_entry c.args.rest.now (sym c.in-Ok.ensures) c.in-Err.ensures)

pub returns : goal.returns
returns t c = check_entry c.args.rest.now (sym c.in-Ok.ensures) c.in_default-check_list.ensures
