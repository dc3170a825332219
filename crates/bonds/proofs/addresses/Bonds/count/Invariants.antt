-- `Bonds::count`: the bits of the first bytes.
use mathlib.Core.Path.{◌≡◌}
use lib.ListN.{take}
use Rattle.bonds.specs.Bonds.{bond_count}
use Rattle.bonds.proofs.addresses.Bonds.count.Given as goal

abbrev pub invariant-loop-byte : goal.invariant-loop-byte
invariant-loop-byte l = l.count ≡ bond_count (take l.byte-index l.fn.self.bytes)
