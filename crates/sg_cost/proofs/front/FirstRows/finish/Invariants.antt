-- So many entries are tracked.
use Rattle.std.proofs.Common.{◌≡◌}
use Rattle.sg_cost.specs.Inside.Fronts.{IsFront}
use Rattle.sg_cost.proofs.front.FirstRows.finish.Given as goal

abbrev pub invariant-entries : goal.invariant-entries
invariant-entries l = record {
  place : l.self.place ≡ l.at;
  front : IsFront l.tables.iface.facts l.history.items l.at l.self.rows;
}
