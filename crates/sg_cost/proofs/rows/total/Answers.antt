-- A walk more is added.
use Rattle.std.proofs.Common.{◌+◌, ◌≤◌, take, sym, ◌∙◌, ap, arith}
use Rattle.std.specs.Prelude.{slice_index_or}
use Rattle.std.proofs.lemmas.List.{take_more}
use Rattle.sg_cost.proofs.Indexed.{each_at, total_more}
use Rattle.sg_cost.specs.Inside.Lines.{total}
use Rattle.sg_cost.specs.declared.costs.RowCost.{RowCost}
use Rattle.sg_cost.proofs.rows.total.Goals as goal

pub costs-preserved : goal.costs-preserved
costs-preserved c =
    let costs = c.args.costs.now in
    let n = c.costs.cost-index in
    let d : RowCost = record { id = 0; walk = 0 } in
    let walk = each_at (λ x. x.walk ≤ 8) costs n d c.costs-test.true c.requires.walks in
    let few = c.costs.invariant.few in
    record {
      is = ap (λ s. s + (slice_index_or costs n d).walk) c.costs.invariant.is ∙ sym (ap total (take_more costs n d c.costs-test.true) ∙ total_more (take n costs) (slice_index_or costs n d));
      few = omega (arith, walk, few);
    }
