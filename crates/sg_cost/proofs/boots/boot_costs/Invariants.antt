-- The first boots are told, and the rows are those of a front that counts before the next.
use Rattle.std.proofs.Common.{◌≡◌, ◌++◌, [], true, drop, take}
use Rattle.std.specs.List.{list_all}
use Rattle.sg_cost.specs.Costs.{boot_costs}
use Rattle.sg_cost.specs.Inside.Fronts.{IsFront}
use Rattle.sg_cost.specs.Inside.LastBoots.{is_over}
use Rattle.sg_facts.specs.Trace.{run_of}
use Rattle.sg_cost.proofs.boots.boot_costs.Given as goal

abbrev pub invariant-boots : goal.invariant-boots
invariant-boots l = record {
  costs : l.costs ++ boot_costs l.tables.iface.facts l.tables.walks l.history.items (take l.at (run_of l.trace).boots) (drop l.at (run_of l.trace).boots)
      ≡ boot_costs l.tables.iface.facts l.tables.walks l.history.items [] (run_of l.trace).boots;
  front : IsFront l.tables.iface.facts l.history.items l.front.place l.front.rows;
  over : list_all (is_over l.last.entries l.at) (take l.front.place l.history.items) ≡ true;
}
