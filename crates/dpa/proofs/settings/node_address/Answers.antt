-- `settings::node_address`: both ends of the range.
use borrow.Author.Tests.{le-leb, lt-leb}
use Rattle.dpa.proofs.settings.node_address.Goals as goal

pub returns-then-address-lt1 : goal.returns-then-address-lt1
returns-then-address-lt1 c = simp (lt-leb 1 c.args.address c.if-address-lt1.true)

pub returns : goal.returns
returns c = simp (le-leb 1 c.args.address c.if-address-lt1.false)
