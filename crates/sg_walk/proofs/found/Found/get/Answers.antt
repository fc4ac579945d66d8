-- No place stands twice.
use Rattle.std.proofs.Common.{subst}
use Rattle.std.specs.List.{IsDistinct}
use Rattle.sg_walk.specs.contracts.place.PlacePartialEq.TheImpl.{eq-value}
use Rattle.sg_walk.proofs.ReachedStates.Marks.{distinct}
use Rattle.sg_walk.proofs.found.Found.get.Goals as goal

pub returns-clause-once : goal.returns-clause-once
returns-clause-once c = distinct c.args.self.now (subst (IsDistinct eq-value.it) c.self.view_is c.as_slice.ensures.unique)
