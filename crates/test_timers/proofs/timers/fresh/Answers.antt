-- A fresh service has no timers.
use Rattle.std.proofs.Common.{sym, subst}
use Rattle.test_timers.proofs.Asked.{none_small}
use Rattle.test_timers.specs.Small.{AreSmall}
use Rattle.test_timers.proofs.timers.fresh.Goals as goal

pub returns : goal.returns
returns c = subst (AreSmall 0) (sym c.fresh.ensures) none_small
