-- What the outline of an entry tells of what is wrong with it.
use Rattle.std.specs.Prelude.{ℕ, ◌+◌, ◌==◌, Bool, true, false, not, if◌then◌else◌, List, ◌++◌, None, Some}
use Rattle.std.specs.declared.option.Option.{Option}
use Rattle.sg_entries.specs.Flaws.{Flaw, flaw_if, number_flaws}
use Rattle.sg_entries.specs.Inside.Flaws.{client_flaws}
use Rattle.sg_entries.specs.declared.error.EntriesKind.TheVariants.{UnknownFunction, BadArgs}
use Rattle.sg_entries.specs.declared.tree.EntryOutline.{EntryOutline}
use Rattle.sg_facts.specs.Allowed.{count_args}
use Rattle.sg_facts.specs.Facts.{fun_at}
use Rattle.sg_facts.specs.Interface.{Declared}
use Rattle.sg_facts.specs.declared.shape.Kind.{Kind}
use Rattle.sg_facts.specs.declared.shape.Kind.TheVariants.{Word, Text}
use Rattle.sg_report.specs.Report.{takes_id}
use Rattle.sg_script.specs.Scripts.{declared_fun}

-- whether a parameter is neither the descriptor nor the parent
abbrev pub is_value : Kind → Bool
is_value Word = true
is_value Text = true
is_value _ = false

-- how many values stand in the brackets of a call of a function with these parameters: one before the others, where the function takes a
-- descriptor or a parent, and one for each other parameter
abbrev pub bracket_count : Bool → List Kind → ℕ
bracket_count takes kinds = (if takes then 1 else 0) + count_args kinds

-- a call by its function and the number of its arguments, where the interface declares one of its name
abbrev pub count_flaws : Declared → EntryOutline → Option ℕ → List Flaw
count_flaws i o None = flaw_if true UnknownFunction o.name.at
count_flaws i o (Some fun) = flaw_if (not (o.args == bracket_count (takes_id i.facts fun) (fun_at i.facts.funs fun).kinds)) BadArgs o.name.at

-- an entry by its outline, in the order of places
abbrev pub outline_flaws : Declared → EntryOutline → List Flaw
outline_flaws i o = client_flaws o.client ++ number_flaws 32 o.seq ++ count_flaws i o (declared_fun i o.name.bytes)
