-- What the first entries gave so far.
use Rattle.std.proofs.Common.{take}
use Rattle.sg_play.specs.sg_hist.Clients.{calls_of}
use Rattle.sg_play.specs.sg_plain.Playing.Given.{GaveIds}
use Rattle.sg_sim.proofs.given.ids_of.Given as goal

abbrev pub invariant-loop-at : goal.invariant-loop-at
invariant-loop-at l = GaveIds (calls_of (take l.at l.history.items) l.client) l.ids.items
