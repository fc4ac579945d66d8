-- Sets of function numbers, and the prototypes of the functions in them.
use Rattle.std.specs.Prelude.{ℕ, ◌≡◌, ◌==◌, Bool, ◌||◌, List, None, unwrap_or}
use Rattle.std.specs.declared.option.Option.{Option}
use Rattle.std.specs.List.{list_any}
use Rattle.sg_check_statements.specs.sg_facts.Facts.{Facts}
use Rattle.sg_check_statements.specs.sg_parse.declared.tree.Statement.{Statement}
use Rattle.sg_check_statements.specs.sg_parse.declared.tree.Statement.TheVariants.{Proto}
use Rattle.std.specs.Bool.{then_some}
use Rattle.sg_check_statements.specs.Says.{fun_number}

-- whether a number is among these
abbrev pub has_number : List ℕ → ℕ → Bool
has_number numbers n = list_any (λ m. n == m) numbers

-- one number more is among them, and no other
abbrev pub GainsNumber : List ℕ → List ℕ → ℕ → Type 0
GainsNumber old new n = (other : ℕ) → has_number new other ≡ (has_number old other || (n == other))

-- the place of a prototype of a function whose number is among these
abbrev pub marked : Facts → List ℕ → Statement → Option ℕ
marked facts numbers (Proto ret name params) = then_some (has_number numbers (unwrap_or (fun_number facts.funs name.bytes) 0)) name.at
marked facts numbers _ = None
