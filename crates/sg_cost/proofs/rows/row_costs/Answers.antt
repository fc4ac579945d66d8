-- A row more is told.
use Rattle.std.proofs.Common.{◌≤◌, length, sym, ◌∙◌, ap, subst}
use Rattle.sg_cost.proofs.Indexed.{each_more}
use Rattle.sg_cost.proofs.KeptCosts.{told_more}
use Rattle.sg_cost.proofs.RowFacts.{each_row}
use Rattle.sg_cost.proofs.RowsAt.{row_here}
use Rattle.sg_cost.specs.Costs.{walk_length}
use Rattle.sg_facts.specs.Limits.{most_fields}
use Rattle.sg_facts.specs.Walks.{most_calls}
use Rattle.sg_facts.specs.sg_base.Lists.{Each}
use Rattle.sg_cost.proofs.rows.row_costs.Goals as goal

pub walk_length-walk-requires : goal.walk_length-walk-requires
walk_length-walk-requires c = λ r there. each_row (λ x. length x.fields ≤ most_fields) c.args.rows.now.rows _ r c.requires.fields (sym c.row.ensures ∙ there)

pub ids-preserved : goal.ids-preserved
ids-preserved c =
    let walks = c.args.tables.now.walks in
    let rows = c.args.rows.now.rows in
    let n = c.ids.id-index in
    let h = row_here _ rows c.live.ensures.tracked c.as_slice-id-items.result.now (c.as_slice-id-items.ensures ∙ c.in_ok-ids.ensures) n 0 c.ids-test.true in
    record {
      costs = told_more walks _ rows c.live.ensures.tracked n _ h c.ids.costs c.push.new.self c.walk_length-walk.result c.ids.invariant.costs
          (c.walk_length-walk.ensures.length ∙ ap (walk_length walks) c.row.ensures) c.in_ok-push.ensures.ok;
      few = subst (Each (λ x. x.walk ≤ most_calls)) (sym c.in_ok-push.ensures.ok) (each_more (λ x. x.walk ≤ most_calls) c.ids.costs _ c.ids.invariant.few c.walk_length-walk.ensures.few);
    }
