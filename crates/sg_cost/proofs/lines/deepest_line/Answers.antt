-- What a row costs more is kept.
use Rattle.std.proofs.Common.{◌≤◌, length, sym, ◌∙◌, ap, arith}
use Rattle.sg_cost.proofs.KeptCosts.{costs_fit, greatest_line, kept_more}
use Rattle.sg_cost.proofs.RowFacts.{each_row}
use Rattle.sg_cost.proofs.RowsAt.{row_here}
use Rattle.sg_cost.specs.Costs.{walk_length}
use Rattle.sg_facts.specs.Limits.{most_fields}
use Rattle.sg_facts.specs.Inside.Rows.{parent_in}
use Rattle.sg_cost.proofs.lines.deepest_line.Goals as goal

pub walk_length-requires : goal.walk_length-requires
walk_length-requires c = λ r there. each_row (λ x. length x.fields ≤ most_fields) c.args.rows.now.rows _ r c.requires.rows.fields (sym c.row-row.ensures ∙ there)

pub overflow_add-cost : goal.overflow_add-cost
overflow_add-cost c =
    let walks = c.args.tables.now.walks in
    let rows = c.args.rows.now.rows in
    let n = c.ids.id-index in
    let h = row_here _ rows c.live.ensures.tracked c.as_slice-id-items.result.now (c.as_slice-id-items.ensures ∙ c.in_ok-ids.ensures) n 0 c.ids-test.true in
    let fit = costs_fit walks _ rows c.live.ensures.tracked n _ h c.ids.kept.entries c.ids.invariant.kept c.walk_length.result c.parent_of.result c.kept_cost.result
    (c.walk_length.ensures.length ∙ ap (walk_length walks) c.row-row.ensures) (c.parent_of.ensures ∙ ap parent_in c.row-row.ensures) c.kept_cost.ensures c.requires.few in
    omega (arith, fit)

pub ids-preserved : goal.ids-preserved
ids-preserved c =
    let walks = c.args.tables.now.walks in
    let rows = c.args.rows.now.rows in
    let n = c.ids.id-index in
    let h = row_here _ rows c.live.ensures.tracked c.as_slice-id-items.result.now (c.as_slice-id-items.ensures ∙ c.in_ok-ids.ensures) n 0 c.ids-test.true in
    let walk = c.walk_length.ensures.length ∙ ap (walk_length walks) c.row-row.ensures in
    let parent = c.parent_of.ensures ∙ ap parent_in c.row-row.ensures in
    record {
      kept = kept_more walks _ rows c.live.ensures.tracked n _ h c.ids.kept.entries c.ids.invariant.kept c.walk_length.result c.parent_of.result c.kept_cost.result walk parent c.kept_cost.ensures c.keep_cost.new.kept.entries c.in_ok-keep_cost.ensures;
      most = c.max-most.ensures ∙ greatest_line walks _ rows c.live.ensures.tracked n _ h c.ids.kept.entries c.ids.invariant.kept c.walk_length.result c.parent_of.result c.kept_cost.result walk parent c.kept_cost.ensures c.ids.most c.ids.invariant.most;
    }
