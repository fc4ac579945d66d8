-- The first walks are added up.
use Rattle.std.proofs.Common.{◌≡◌, ◌*◌, ◌≤◌, take}
use Rattle.sg_cost.specs.Inside.Lines.{total}
use Rattle.sg_cost.proofs.rows.total.Given as goal

abbrev pub invariant-costs : goal.invariant-costs
invariant-costs l = record {
  is : l.sum ≡ total (take l.cost-index l.costs);
  few : l.sum ≤ 8 * l.cost-index;
}
