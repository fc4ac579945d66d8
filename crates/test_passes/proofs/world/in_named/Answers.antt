-- Locks may be asked for where they are declared, and a new world has an empty log.
use Rattle.std.proofs.Common.{ap, ◌∙◌}
use Rattle.sg_log.specs.Log.{log_of}
use Rattle.test_passes.proofs.Locks.{takes_lock_calls}
use Rattle.test_passes.proofs.world.in_named.Goals as goal

pub make_calls-requires-clause-may : goal.make_calls-requires-clause-may
make_calls-requires-clause-may g c κs within = takes_lock_calls g.N.WorldNames.tables.iface c.requires.declared

pub make_calls-requires-clause-log : goal.make_calls-requires-clause-log
make_calls-requires-clause-log g c κs within = ap (λ y. log_of y.view) c.new.ensures ∙ c.requires.log
