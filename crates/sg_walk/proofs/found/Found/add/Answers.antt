-- A place that wasn't found goes last.
use Rattle.std.proofs.Common.{◌∙◌, ap}
use Rattle.indexmap.specs.IndexSet.{insert_key}
use Rattle.sg_walk.specs.contracts.place.PlacePartialEq.TheImpl.{eq-value}
use Rattle.sg_walk.proofs.ReachedStates.Marks.{inserted}
use Rattle.sg_walk.proofs.found.Found.add.Goals as goal

pub returns-clause-ok : goal.returns-clause-ok
returns-clause-ok c = inserted c.args.self.now c.insert.new.self.keys c.args.place (c.in_ok-insert.ensures.keys ∙ ap (λ l. insert_key eq-value.it l c.args.place) c.self.view_is)
