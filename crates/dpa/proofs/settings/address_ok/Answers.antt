-- `settings::address_ok`: the broadcast address, or a node's.
use borrow.Author.Tests.{eq-eqb, ne_eqb}
use Rattle.dpa.specs.Settings.{address_ok}
use Rattle.dpa.proofs.settings.address_ok.Goals as goal

pub returns-then-address-eq-BROADCAST : goal.returns-then-address-eq-BROADCAST
unfolding address_ok
returns-then-address-eq-BROADCAST c = rw (eq-eqb _ _ c.if-address-eq-BROADCAST.true)

pub returns : goal.returns
unfolding address_ok
returns c = rw (ne_eqb _ _ c.if-address-eq-BROADCAST.false) c.node_address.ensures
