-- `selective::select`: one law of `selection_of` for each return.
use mathlib.Core.Path.{sym, ap, ◌∙◌}
use native.Mathlib.Omega.{arith}
use borrow.Author.Rules.{rules}
use Prim.Native.Nat.{◌+◌, ◌<◌}
use Rattle.std.proofs.Common.{◌^◌}
use lib.Seq.{length-take-le}
use Rattle.dpa.specs.NodeSet.{node_set_size}
use Rattle.batch.specs.Seen.{check_seen}
use Rattle.batch.specs.Selective.{Selected}
use Rattle.batch.proofs.Places.{place_in_list}
use Rattle.batch.proofs.CheckResults.{check_moved}
use Rattle.batch.proofs.Selections.{select_short, select_other, select_named}
use Rattle.batch.proofs.selective.select.Goals as goal

pub returns-then-pdata-lt-SHORTEST : goal.returns-then-pdata-lt-SHORTEST
returns-then-pdata-lt-SHORTEST c = sym (select_short _ _ c.if-pdata-lt-SHORTEST.true)

pub slice_bounds-selects-end : goal.slice_bounds-selects-end
slice_bounds-selects-end c = sym (length-take-le node_set_size c.args.pdata.now (omega (arith, c.if-pdata-lt-SHORTEST.false)))

pub returns-then-not-selects : goal.returns-then-not-selects
returns-then-not-selects c = sym (select_other _ _ c.if-pdata-lt-SHORTEST.false (sym c.selects.ensures ∙ c.if-not-selects.true))

pub map_err-requires : goal.map_err-requires
map_err-requires c =
    λ f was.
    let fits : node_set_size + f.at < 2 ^ 64 = omega (arith, place_in_list c.args.pdata.now node_set_size (omega arith) (sym (ap check_seen was) ∙ c.check_list-list.ensures)) in
    search rules

pub returns : goal.returns
returns c =
    ap Selected (check_moved _ _ (λ f g e. search rules) _ _ c.map_err.ensures.cases)
    ∙ sym (select_named _ _ c.if-pdata-lt-SHORTEST.false (sym c.selects.ensures ∙ c.if-not-selects.false) c.check_list-list.ensures)
