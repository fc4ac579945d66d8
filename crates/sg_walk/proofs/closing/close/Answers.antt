-- Place by place.
use Rattle.std.proofs.Common.{◌≡◌, Some, sym}
use Rattle.std.specs.Prelude.{slice_get}
use Rattle.sg_walk.specs.ReachedStates.Inside.Places.{LeadsTo}
use Rattle.sg_walk.proofs.ReachedStates.Adding.{adds_keeps}
use Rattle.sg_walk.proofs.ReachedStates.Closure.{closed_all, closed_more, ended, longer, reached_more}
use Rattle.sg_walk.proofs.closing.close.Goals as goal

pub places-preserved : goal.places-preserved
places-preserved c =
    let i = c.args.iface.now in
    let old = c.places.found in
    let new = c.add_next.new.found in
    let adds = c.in_ok-add_next.ensures in
    let is : slice_get old c.places.next ≡ Some c.in-Some.place.now = sym c.in-Some.ensures.place in
    record {
      closed = closed_more i c.in-Some.place.now c.places.next old new adds is c.places.invariant.closed;
      within = longer i c.in-Some.place.now c.places.next old new adds is;
      kept = λ p has. adds_keeps (LeadsTo i c.in-Some.place.now) old new p adds (c.places.invariant.kept p has);
      reached = λ made first. reached_more i c.in-Some.place.now c.places.next old new adds is made (c.places.invariant.reached made first);
    }

pub returns-clause-closed : goal.returns-clause-closed
returns-clause-closed c = closed_all c.args.iface.now c.places.found c.places.next (ended c.places.found c.places.next (sym c.in_default.ensures.place)) c.places.invariant.closed
