-- Sets of names, and whether they are those of prototypes.
use Rattle.std.specs.Prelude.{ℕ, ◌≡◌, Bool, List}
use Rattle.std.specs.List.{list_any}
use Rattle.std.specs.Str.{bytes_eq}
use Rattle.sg_parse.specs.declared.tree.Statement.{Statement}
use Rattle.sg_check_statements.specs.Says.{has_proto}

-- whether a name is among these
abbrev pub has_name : List (List ℕ) → List ℕ → Bool
has_name names name = list_any (λ n. bytes_eq n name) names

-- these are the names of all functions that have a prototype
abbrev pub AreOf : List (List ℕ) → List Statement → Type 0
AreOf names statements = (f : List ℕ) → has_name names f ≡ has_proto statements f
