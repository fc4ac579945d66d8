-- The first functions are told.
use Rattle.std.proofs.Common.{◌≡◌, ◌-◌, ◌≤◌, map}
use Rattle.sg_cost.specs.Costs.{fun_cost}
use Rattle.sg_cost.specs.Inside.Pieces.{declared_from}
use Rattle.sg_cost.proofs.funs.fun_costs.Given as goal

abbrev pub invariant-funs : goal.invariant-funs
invariant-funs l = record {
  low : 1 ≤ l.fun;
  costs : l.costs ≡ map (fun_cost l.tables.iface l.tables.walks l.rows.rows) (declared_from l.tables.iface 1 (l.fun - 1));
}
