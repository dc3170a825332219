-- `requests::print_scene`: the output of a scene that is not refused lies in the buffer and has all its requests.
use Rattle.std.proofs.Common.{refl, sym}
use lib.Seq.{length-take-le}
use Rattle.scene.proofs.Refusals.{output_inside}
use Rattle.scenedump.proofs.Outputs.{compiled_printable}
use Rattle.scenedump.proofs.requests.print_scene.Goals as goal

pub slice_bounds-out-end : goal.slice_bounds-out-end
slice_bounds-out-end g c = output_inside _ _ _ _ _ _ c.in-Ok.ensures.answer refl

pub slice_bounds-print_output-end : goal.slice_bounds-print_output-end
slice_bounds-print_output-end g c = sym (length-take-le _ _ (output_inside _ _ _ _ _ _ c.in-Ok.ensures.answer refl))

pub print_output-requires : goal.print_output-requires
print_output-requires g c = compiled_printable _ _ _ _ _ _ c.in-Ok.ensures.answer refl
