-- What is found of one kind.
use Rattle.std.specs.Prelude.{ℕ, List, MatchOption}
use Rattle.std.specs.declared.option.Option.{Option}
use Rattle.sg_facts.specs.Facts.{Facts}
use Rattle.sg_parse.specs.declared.tree.Tree.{Tree}
use Rattle.sg_check_statements.specs.declared.fault.CheckKind.{CheckKind}
use Rattle.sg_check_statements.specs.Faults.{FirstOf}
use Rattle.sg_check_statements.specs.Inside.Pieces.{IsOf}

-- what is found of a kind in a text of this service: the first place of a fault, or that there is no fault of the kind
abbrev pub IsFirstPlace : Tree → Facts → CheckKind → Option ℕ → Type 0
IsFirstPlace tree facts kind found =
    (services : List Facts) → IsOf services tree facts → MatchOption found ((at : ℕ) → FirstOf services tree kind at → ⊥) (FirstOf services tree kind)
