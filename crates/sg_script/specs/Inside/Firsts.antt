-- The first of the flaws so far, as it is kept.
use Rattle.std.specs.Prelude.{◌==◌, ◌&&◌, ◌||◌, Bool, nat_le, nat_lt, if◌then◌else◌, List, None, Some}
use Rattle.std.specs.declared.option.Option.{Option}
use Rattle.std.specs.List.{fold}
use Rattle.sg_script.specs.declared.fault.ScriptFault.{ScriptFault}
use Rattle.sg_script.specs.Flaws.{script_kind_rank}

-- whether a flaw comes before another, or is the same
abbrev pub is_not_after : ScriptFault → ScriptFault → Bool
is_not_after f g = nat_lt f.at g.at || (f.at == g.at && nat_le (script_kind_rank f.kind) (script_kind_rank g.kind))

-- the first of a flaw before, where there is one, and another
abbrev pub first_of_two : Option ScriptFault → ScriptFault → ScriptFault
first_of_two None g = g
first_of_two (Some f) g = if is_not_after f g then f else g

-- the first of a flaw before, where there is one, and some more
abbrev pub first_after : Option ScriptFault → List ScriptFault → Option ScriptFault
first_after before flaws = fold (λ first g. Some (first_of_two first g)) before flaws
