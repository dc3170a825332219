-- `sending::send`: refused, or the request after the others.
use mathlib.Core.Path.{sym}
use Rattle.queue.specs.Queue.{outgoing}
use Rattle.gateway.proofs.Calls.{send_facts}
use Rattle.gateway.proofs.sending.send.Goals as goal

pub placed-place-requires : goal.placed-place-requires
placed-place-requires c =
    let a = c.args in
    (send_facts a.gateway (outgoing a.frame.now a.hops a.response_hops a.delay) a.time (sym c.in_default.ensures)).fits

pub with_request-queue-requires : goal.with_request-queue-requires
with_request-queue-requires c =
    let a = c.args in
    (send_facts a.gateway (outgoing a.frame.now a.hops a.response_hops a.delay) a.time (sym c.in_default.ensures)).free
