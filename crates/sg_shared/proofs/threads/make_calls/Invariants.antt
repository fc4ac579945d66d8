-- It is the same pass, with no call under way, and its entries gave these descriptors.
use Rattle.sg_log.specs.sg_turn.Passes.{own_entries, standing_of}
use Rattle.sg_log.specs.sg_turn.Told.{HasNoCall}
use Rattle.sg_shared.specs.Inside.Seats.{IsSamePass}
use Rattle.sg_sim.specs.sg_plain.Playing.Given.{GaveIds}
use Rattle.sg_shared.proofs.threads.make_calls.Given as goal

abbrev pub invariant-loop : goal.invariant-loop
invariant-loop g l =
    (goal.iterator-loop g).can_next l.iterator' × (goal.iterator-loop g).is_finite l.iterator'
    × IsSamePass l.fn.pass l.pass
    × HasNoCall (standing_of l.pass)
    × GaveIds (own_entries l.pass) l.given.items
