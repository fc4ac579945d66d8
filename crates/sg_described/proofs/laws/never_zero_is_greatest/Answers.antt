-- Nothing goes from them any more; and what keeps to it never went.
use Rattle.sg_described.proofs.Keeping.NeverZeros.{never_zero_keeps, never_zero_most}
use Rattle.sg_described.proofs.laws.never_zero_is_greatest.Goals as goal

pub returns-clause-keep : goal.returns-clause-keep
returns-clause-keep c = λ facts x. never_zero_keeps facts x

pub returns-clause-most : goal.returns-clause-most
returns-clause-most c = λ facts x states state are there. never_zero_most facts x states state are there
