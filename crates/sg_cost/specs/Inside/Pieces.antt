-- The parts of what is told of costs, and of its lines, by themselves.
use Rattle.std.specs.Prelude.{ℕ, Bool, true, ◌&&◌, not, List, [], ◌∷◌, ◌++◌, Some, map, codes, filter}
use Rattle.std.specs.Fmt.{decimal}
use Rattle.std.specs.List.{list_any, range_with_len}
use Rattle.sg_cost.specs.Costs.{all_lengths, fun_cost, opening, walk_length}
use Rattle.sg_cost.specs.declared.costs.BootCost.{BootCost}
use Rattle.sg_cost.specs.declared.costs.Costs.{Costs}
use Rattle.sg_cost.specs.declared.costs.FunCost.{FunCost}
use Rattle.sg_cost.specs.declared.costs.RowCost.{RowCost}
use Rattle.sg_facts.specs.sg_base.declared.call.Call.{Call}
use Rattle.sg_facts.specs.Facts.{Facts, fun_at}
use Rattle.sg_facts.specs.Interface.{Declared, declares}
use Rattle.sg_facts.specs.Limits.{most_funs}
use Rattle.sg_facts.specs.Trace.{Boot}
use Rattle.sg_facts.specs.Words.{line_end}
use Rattle.sg_facts.specs.declared.entry.Entry.{Entry}
use Rattle.sg_facts.specs.declared.row.Row.{Row}
use Rattle.sg_facts.specs.declared.tables.WalkLine.{WalkLine}
use Rattle.sg_report.specs.Report.{replays_for}
use Rattle.sg_report.specs.sg_hist.Reading.{is_by_guard, is_item_of, items_of}

-- whether an entry's item stands in these boots, and in none of those after them
abbrev pub stands_in : List Boot → List Boot → Entry → Bool
stands_in boots later e = not (is_by_guard e.reply) && list_any (is_item_of e) (items_of boots) && not (list_any (is_item_of e) (items_of later))

-- a live descriptor, with the number of calls of its walk
abbrev pub row_cost : List WalkLine → Row → RowCost
row_cost walks r = record { id = r.id; walk = walk_length walks (Some r) }

-- a call of a function on a descriptor, or on none where that is 0. What a call costs depends on nothing else of it
abbrev pub call_on : ℕ → ℕ → Call
call_on fun desc = record { client = 0; seq = 0; fun = fun; desc = desc; args = [] }

-- the numbers of the declared functions among so many from one on, ascending
abbrev pub declared_from : Declared → ℕ → ℕ → List ℕ
declared_from i fun more = filter (declares i) (range_with_len fun more)

-- the numbers of the declared functions, ascending
abbrev pub declared_funs : Declared → List ℕ
declared_funs i = declared_from i 1 most_funs

-- the replayed calls of a boot that were answered, beside the calls of the walks of all rows at its opening
abbrev pub boot_cost : Facts → List WalkLine → List Entry → List Boot → Boot → List Boot → BootCost
boot_cost facts walks history before b later = record { walks = replays_for (λ id. true) b.items; bound = all_lengths walks (opening facts history before (b ∷ later)).rows }

-- what calls could cost after a stop where these rows are live, with what the boots cost
abbrev pub costs_with : Declared → List WalkLine → List Row → List BootCost → Costs
costs_with i walks rows boots = record {
  rows = map (row_cost walks) rows;
  functions = map (fun_cost i walks rows) (declared_funs i);
  all = all_lengths walks rows;
  boots = boots;
}

-- the line of a function
abbrev pub fun_line : Facts → FunCost → List ℕ
fun_line facts c = codes "cost " ++ (fun_at facts.funs c.fun).name ++ codes " " ++ decimal c.cost ++ line_end

-- the line of a boot under its number
abbrev pub boot_line : ℕ → BootCost → List ℕ
boot_line number c = codes "boot " ++ decimal number ++ codes " walks " ++ decimal c.walks ++ codes " bound " ++ decimal c.bound ++ line_end
