-- Bit 1 of the flags.
use Rattle.std.proofs.Common.{◌≡◌, ◌*◌, ◌%◌, ◌/◌, bit_and, arith}
use Rattle.std.proofs.lemmas.Nat.Bits.{and_pow}
use Rattle.std.proofs.lemmas.Bool.Decides.{nat_tests}
use Rattle.checksum.proofs.check.Image.is_plugin.Goals as goal

pub returns : goal.returns
returns c =
    let flags = c.args.self.flags in
    let bit : bit_and flags 2 ≡ flags / 2 % 2 * 2 = and_pow flags 1 in
    rw bit (grind (arith, nat_tests))
