-- All rows are told.
use Rattle.std.proofs.Common.{◌≡◌, ℕ, ◌≤◌, List, length, map, sym, ◌∙◌, ap, subst}
use Rattle.std.proofs.lemmas.List.{length-map}
use Rattle.sg_cost.proofs.AllWalks.{total_rows}
use Rattle.sg_cost.specs.Costs.{all_lengths, fun_cost, most_entries}
use Rattle.sg_cost.specs.Inside.Pieces.{declared_funs, row_cost}
use Rattle.sg_cost.specs.Inside.Lines.{total}
use Rattle.sg_cost.specs.declared.costs.BootCost.{BootCost}
use Rattle.sg_cost.specs.declared.costs.Costs.{Costs}
use Rattle.sg_cost.specs.declared.costs.FunCost.{FunCost}
use Rattle.sg_cost.specs.declared.costs.RowCost.{RowCost}
use Rattle.sg_cost.proofs.costing.costs_with.Goals as goal

pub total-all-requires-clause-few : goal.total-all-requires-clause-few
total-all-requires-clause-few c =
    let live = c.args.live.now.rows in
    subst (λ n. n ≤ most_entries) (sym (ap length (c.as_slice.ensures ∙ c.in_ok-rows.ensures.costs) ∙ length-map live (row_cost c.args.tables.now.walks))) c.requires.few

pub fun_costs-requires-clause-all : goal.fun_costs-requires-clause-all
fun_costs-requires-clause-all c = c.total-all.ensures ∙ ap total (c.as_slice.ensures ∙ c.in_ok-rows.ensures.costs) ∙ total_rows c.args.tables.now.walks c.args.live.now.rows

abbrev told : List RowCost → List FunCost → ℕ → List BootCost → Costs
told rows functions all boots = record { rows = rows; functions = functions; all = all; boots = boots }

pub returns : goal.returns
returns c =
    let i = c.args.tables.now.iface in
    let walks = c.args.tables.now.walks in
    let live = c.args.live.now.rows in
    let all : c.total-all.result ≡ all_lengths walks live = c.total-all.ensures ∙ ap total (c.as_slice.ensures ∙ c.in_ok-rows.ensures.costs) ∙ total_rows walks live in
    ap (λ rows. told rows c.in_ok-functions.functions c.total-all.result c.args.boots) c.in_ok-rows.ensures.costs
    ∙ ap (λ functions. told (map (row_cost walks) live) functions c.total-all.result c.args.boots) c.in_ok-functions.ensures
    ∙ ap (λ n. told (map (row_cost walks) live) (map (fun_cost i walks live) (declared_funs i)) n c.args.boots) all
