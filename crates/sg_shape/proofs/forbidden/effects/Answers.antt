-- Pairs as plain data are themselves.
use Rattle.std.proofs.Common.{sym}
use Rattle.sg_shape.proofs.Data.{same_pairs}
use Rattle.sg_shape.proofs.forbidden.effects.Goals as goal

pub returns : goal.returns
returns c = sym (same_pairs c.args.fun.now.effects.now)
