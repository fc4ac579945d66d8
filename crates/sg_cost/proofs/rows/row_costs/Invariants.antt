-- The walks of the first rows are told.
use Rattle.std.proofs.Common.{◌≡◌, ◌≤◌, map, take}
use Rattle.sg_cost.specs.Inside.Pieces.{row_cost}
use Rattle.sg_facts.specs.Walks.{most_calls}
use Rattle.sg_facts.specs.sg_base.Lists.{Each}
use Rattle.sg_cost.proofs.rows.row_costs.Given as goal

abbrev pub invariant-ids : goal.invariant-ids
invariant-ids l = record {
  costs : l.costs ≡ map (row_cost l.tables.walks) (take l.id-index l.rows.rows);
  few : Each (λ c. c.walk ≤ most_calls) l.costs;
}
