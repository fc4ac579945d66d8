-- By the name of its kind.
use Rattle.std.proofs.Common.{inr}
use Rattle.sg_judge.proofs.examining.flawed.Goals as goal

pub returns : goal.returns
returns c = λ services text none bad. inr (none, (c.args.kind, bad, c.refusal_name.ensures))
