-- What descriptors can come to and how they are rebuilt there, in words.
use Rattle.std.specs.Prelude.{ℕ, ◌+◌, ◌==◌, ◌&&◌, ◌||◌, Bool, not, if◌then◌else◌, List, [], ◌∷◌, ◌++◌, codes, count_by, length, sum_by}
use Rattle.std.specs.Fmt.{decimal}
use Rattle.std.specs.List.{concat, flat_map, list_any}
use Rattle.sg_input.specs.sg_facts.Facts.{Facts, fun_at}
use Rattle.sg_input.specs.sg_facts.Words.{line_end}
use Rattle.sg_input.specs.sg_facts.declared.tables.WalkLine.{WalkLine}
use Rattle.sg_input.specs.sg_script.declared.script.Script.{Script}
use Rattle.sg_input.specs.sg_print.TablesText.{set_names, walk_names}

-- what a descriptor can come to: the function that made it, its state, and the fields that aren't 0 or empty, by the number of their set
abbrev pub come_to_words : Facts → ℕ → ℕ → ℕ → List ℕ
come_to_words facts made state mask = concat (
    codes "made by " ∷ (fun_at facts.funs made).name ∷ codes ", in the state " ∷ (fun_at facts.funs state).name
    ∷ codes ", fields set:" ∷ (if mask == 0 then codes " none" else flat_map (λ name. codes " " ++ name) (set_names facts.fields mask)) ∷ codes "; " ∷ [])

-- the line of a walk that rebuilds it
abbrev pub rebuilt_line : Facts → WalkLine → List ℕ
rebuilt_line facts line = concat (come_to_words facts line.made line.state line.mask ∷ codes "rebuilt by" ∷ walk_names facts.funs line.walk ∷ line_end ∷ [])

-- how many clients of a script have a call, how many calls it has, those of the setup among them, and how many stops
abbrev pub counts_line : Script → List ℕ
counts_line script =
    let first : Bool = not (length script.setup == 0) || list_any (λ c. (c.0 == 1) && not (length c.1 == 0)) script.clients in
    let clients = count_by (λ c. not (c.0 == 1) && not (length c.1 == 0)) script.clients + (if first then 1 else 0) in
    concat (
    codes "clients " ∷ decimal clients ∷ codes " calls " ∷ decimal (length script.setup + sum_by (λ c. length c.1) script.clients)
    ∷ codes " stops " ∷ decimal (length script.stops) ∷ line_end ∷ [])
