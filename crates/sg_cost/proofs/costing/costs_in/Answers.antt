-- The rows are those that the whole history comes to.
use Rattle.std.proofs.Common.{length, subst, sym}
use Rattle.sg_cost.proofs.RowFacts.{front_rows}
use Rattle.sg_cost.specs.Inside.Fronts.{IsFront}
use Rattle.sg_cost.proofs.costing.costs_in.Goals as goal

pub boot_costs-requires-clause-front : goal.boot_costs-requires-clause-front
boot_costs-requires-clause-front c =
    let facts = c.args.tables.now.iface.facts in
    subst (λ n. IsFront facts c.args.history.now.items n c.new-front.result.rows) (sym c.new-front.ensures.place) (c.new-front.ensures.front facts c.args.history.now.items)

pub costs_with-requires : goal.costs_with-requires
costs_with-requires c =
    front_rows c.args.tables.now.iface.facts c.args.history.now.items (length c.args.history.now.items) c.finish.new.self.rows c.in_ok-finish.ensures c.requires.fields c.requires.few
