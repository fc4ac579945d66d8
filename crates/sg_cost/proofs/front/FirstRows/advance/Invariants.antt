-- So many entries are tracked, and all of these count.
use Rattle.std.proofs.Common.{◌≡◌, true, take}
use Rattle.std.specs.List.{list_all}
use Rattle.sg_cost.specs.Inside.Fronts.{IsFront}
use Rattle.sg_cost.specs.Inside.LastBoots.{is_over}
use Rattle.sg_cost.proofs.front.FirstRows.advance.Given as goal

abbrev pub invariant-entries : goal.invariant-entries
invariant-entries l = record {
  place : l.self.place ≡ l.at;
  front : IsFront l.tables.iface.facts l.history.items l.at l.self.rows;
  over : list_all (is_over l.last.entries l.first) (take l.at l.history.items) ≡ true;
}
