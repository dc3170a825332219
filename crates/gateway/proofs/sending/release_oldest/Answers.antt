-- `sending::release_oldest`: the first place and its confirmation.
use mathlib.Core.Path.{ap}
use Rattle.gateway.specs.Gateway.{gateway_from}
use Rattle.gateway.proofs.Releases.{oldest_answered}
use Rattle.gateway.proofs.sending.release_oldest.Goals as goal

pub returns : goal.returns
returns c =
    let a = c.args in
    let p = c.requires in
    oldest_answered a.gateway a.time a.out.now p.0 p.1 _ _ c.confirm_waiting-length.result _ _ _ c.oldest-waiting.ensures c.network_type-network.ensures
    c.confirm_waiting-length.ensures c.from.ensures (ap (gateway_from a.gateway.bonds) c.without_oldest.ensures)
