-- The lines of what calls can cost.
use Rattle.std.specs.Prelude.{ℕ, ◌+◌, List, [], ◌∷◌, ◌++◌, codes}
use Rattle.std.specs.Fmt.{decimal}
use Rattle.std.specs.List.{flat_map}
use Rattle.sg_cost.specs.declared.costs.BootCost.{BootCost}
use Rattle.sg_cost.specs.declared.costs.Costs.{Costs}
use Rattle.sg_cost.specs.declared.costs.FunCost.{FunCost}
use Rattle.sg_cost.specs.declared.costs.RowCost.{RowCost}
use Rattle.sg_facts.specs.Facts.{Facts, fun_at}
use Rattle.sg_facts.specs.Words.{line_end}

-- the lines of boots, numbered from this one on
abbrev pub boot_lines : ℕ → List BootCost → List ℕ
boot_lines number [] = []
boot_lines number (c ∷ costs) =
    (codes "boot " ++ decimal number ++ codes " walks " ++ decimal c.walks ++ codes " bound " ++ decimal c.bound ++ line_end)
    ++ boot_lines (number + 1) costs

-- what calls can cost: a line for each live descriptor, one for each function, one for all descriptors together, and one for each boot
abbrev pub cost_text_of : Facts → Costs → List ℕ
cost_text_of facts costs =
    flat_map (λ (c : RowCost). codes "row " ++ decimal c.id ++ codes " walk " ++ decimal c.walk ++ line_end) costs.rows
    ++ flat_map (λ (c : FunCost). codes "cost " ++ (fun_at facts.funs c.fun).name ++ codes " " ++ decimal c.cost ++ line_end) costs.functions
    ++ codes "all " ++ decimal costs.all ++ line_end
    ++ boot_lines 1 costs.boots
