-- `updates::wait_after`: the earliest next send, as `timing` has it.
use Rattle.std.proofs.Common.{◌≡◌, ℕ, ◌-◌, ap, sym, ◌∙◌, arith}
use lib.Dec.{eqb}
use Rattle.dpa.specs.declared.frame.Frame.{Frame}
use Rattle.dpa.specs.Frame.{header_size, broadcast_nadr}
use Rattle.dpa.proofs.Headers.{fits_sizes}
use Rattle.timing.specs.declared.slot.SendAnswer.{SendAnswer}
use Rattle.timing.specs.Slot.{send_answer_of}
use Rattle.queue.specs.Queue.{request_in, wait_after}
use Rattle.queue.proofs.Changes.{earliest_ok, wait_answered, wait_max_lem}
use Rattle.queue.proofs.updates.wait_after.Goals as goal

pub overflow_sub-size : goal.overflow_sub-size
overflow_sub-size c = omega (arith, fits_sizes _ c.requires.fits)

pub unwrap-requires : goal.unwrap-requires
unwrap-requires c =
    let sizes = fits_sizes _ c.requires.fits in
    earliest_ok _ _ _ _ _ _ _ _ (omega arith) (omega arith) c.earliest_send-wait.ensures

pub returns : goal.returns
returns c =
    let w = c.args.waiting.now in
    let net = c.args.network in
    let waits : c.unwrap.result ≡ wait_after net (request_in w) =
    ap (λ (a : SendAnswer). a.milliseconds)
    (ap send_answer_of (sym c.unwrap.ensures)
    ∙ c.earliest_send-wait.ensures
    ∙ wait_answered w c.requires net _ _ (ap (λ (k : ℕ). k - header_size) c.from-size.ensures) (ap (λ (f : Frame). eqb f.nadr broadcast_nadr) c.read-header.ensures)) in
    let most = wait_max_lem w c.requires net in
    (waits, omega arith)
