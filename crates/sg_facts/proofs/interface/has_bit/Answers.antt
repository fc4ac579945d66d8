-- No bit from 32 on is set.
use Rattle.std.proofs.Common.{arith}
use Rattle.std.proofs.lemmas.Bool.Decides.{nat_tests}
use Rattle.std.proofs.lemmas.Nat.Bits.{bit_at_above}
use Rattle.sg_facts.proofs.interface.has_bit.Goals as goal

pub returns-else-bit-lt32 : goal.returns-else-bit-lt32
returns-else-bit-lt32 c = rw (bit_at_above c.args.number 32 c.args.bit (omega arith) (omega arith)) (grind (arith, nat_tests))
