-- The ends of the clients so far.
use Rattle.std.proofs.Common.{◌≡◌, take}
use Rattle.sg_play.specs.sg_plain.Playing.Ends.{ends_from}
use Rattle.sg_sim.proofs.play.Play.ends.Given as goal

abbrev pub invariant-clients : goal.invariant-clients
invariant-clients g l = l.ends ≡ ends_from l.self.script 1 (take l.before l.self.view.seats)
