-- A call that is not refused has a sound state and a frame of a valid length.
use Rattle.std.proofs.Common.{sym}
use Rattle.outcome.proofs.Calls.{not_refused_facts, accepted_sound}
use Rattle.handler.proofs.request.handle_request.Goals as goal

pub handle_frame-requires : goal.handle_frame-requires
handle_frame-requires c =
    let accepted = sym c.in-Ok.ensures in
    let k = not_refused_facts _ _ _ _ _ accepted in
    (accepted_sound _ _ _ _ _ accepted, k.1, k.2, k.3)
