use Rattle.sg_hist.proofs.Growing.{names_at-more, value_at-more}
use Rattle.sg_recovery_laws.proofs.laws.values_grow.Goals as goal

pub returns : goal.returns
returns c = record { value = value_at-more; names = names_at-more }
