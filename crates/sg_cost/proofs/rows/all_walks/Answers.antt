-- The walks of all rows are added up.
use Rattle.std.proofs.Common.{◌∙◌, ap}
use Rattle.sg_cost.proofs.AllWalks.{total_rows}
use Rattle.sg_cost.specs.Inside.Lines.{total}
use Rattle.sg_cost.proofs.rows.all_walks.Goals as goal

pub returns : goal.returns
returns c = c.total.ensures ∙ ap total (c.as_slice.ensures ∙ c.in_ok-costs.ensures.costs) ∙ total_rows c.args.tables.now.walks c.args.rows.now.rows
