-- `places::place_ok`: the widths are those of the types.
use mathlib.Core.Path.{◌≡◌, ap, ◌∙◌}
use mathlib.Core.Bool.{true}
use Prim.Native.Nat.{ℕ, min}
use lib.ListN.{length, drop}
use borrow.Author.Rules.{rules}
use Rattle.dpa.specs.declared.frame.Frame.{Frame}
use Rattle.dpa.specs.Frame.{longest_frame, frame_fits}
use Rattle.dpa.specs.Settings.{address_ok}
use Rattle.queue.specs.Queue.{all_zero, widths_ok}
use Rattle.queue.proofs.PlaceTests.{widths_given, rest_read, filled_tested, empty_tested}
use Rattle.queue.proofs.places.place_ok.Goals as goal

pub returns-then-k-count : goal.returns-then-k-count
returns-then-k-count c =
    let w = c.args.waiting.now in
    let size : length w.frame ≡ longest_frame = search rules in
    let widths : widths_ok w ≡ true = widths_given w size (search rules) (search rules) (search rules) in
    let zeros : c.all_zero-zeros.result ≡ all_zero (drop w.length w.frame) = c.all_zero-zeros.ensures ∙ ap all_zero (rest_read w.frame w.length _ size (c.min.ensures ∙ ap (λ (n : ℕ). min n longest_frame) c.from-size.ensures)) in
    filled_tested c.args.count c.args.k w widths _ zeros _ _ c.if-k-count.true
    (c.fits.ensures ∙ ap frame_fits c.from-size.ensures) (c.address_ok.ensures ∙ ap (λ (f : Frame). address_ok f.nadr) c.read-header.ensures)

pub returns : goal.returns
returns c =
    let w = c.args.waiting.now in
    let size : length w.frame ≡ longest_frame = search rules in
    let widths : widths_ok w ≡ true = widths_given w size (search rules) (search rules) (search rules) in
    let zeros : c.all_zero-zeros.result ≡ all_zero (drop w.length w.frame) = c.all_zero-zeros.ensures ∙ ap all_zero (rest_read w.frame w.length _ size (c.min.ensures ∙ ap (λ (n : ℕ). min n longest_frame) c.from-size.ensures)) in
    empty_tested c.args.count c.args.k w widths _ zeros _ c.if-k-count.false c.from-size.ensures
