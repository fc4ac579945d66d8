-- The ends of the clients so far.
use Rattle.std.proofs.Common.{◌≡◌}
use Rattle.sg_multi.specs.sg_sim.Inside.Givens.{lists_of}
use Rattle.sg_multi.specs.Inside.Turns.{ends_up_to}
use Rattle.sg_multi.proofs.ends.ends_of.Given as goal

abbrev pub invariant-clients : goal.invariant-clients
invariant-clients g l = l.ends ≡ ends_up_to l.running.members l.script (lists_of l.running.given) l.before
