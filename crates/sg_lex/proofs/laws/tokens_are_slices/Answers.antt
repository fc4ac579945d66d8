use Rattle.std.proofs.Common.{refl, arith}
use Rattle.sg_lex.proofs.Readings.{reads, slices}
use Rattle.sg_lex.proofs.laws.tokens_are_slices.Goals as goal

pub returns : goal.returns
returns c = λ text. slices (reads text) text 0 refl (omega arith) (omega arith)
