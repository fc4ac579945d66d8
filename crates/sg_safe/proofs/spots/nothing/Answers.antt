-- No spot, and no key.
use Rattle.sg_safe.proofs.Keying.{none_found}
use Rattle.sg_safe.proofs.spots.nothing.Goals as goal

pub returns-clause-keys : goal.returns-clause-keys
returns-clause-keys c = λ d. none_found d _ c.new.ensures c.new-2.ensures
