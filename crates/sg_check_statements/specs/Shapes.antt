-- The shapes that a text may be checked against.
use Rattle.std.specs.Prelude.{ℕ, ◌≤◌, Bool, true, ◌&&◌, not, nat_le, List, [], ◌∷◌, length, map}
use Rattle.std.specs.List.{list_all}
use Rattle.sg_facts.specs.declared.shape.Leaves.{Leaves}
use Rattle.sg_facts.specs.declared.shape.Leaves.TheVariants.{Own, Same, Of}
use Rattle.sg_facts.specs.Facts.{Facts}
use Rattle.sg_facts.specs.Interface.{Declared}
use Rattle.sg_facts.specs.Limits.{most_fields, most_funs}
use Rattle.sg_check_statements.specs.NameSet.{has_name}

-- whether a number is that of one of so many functions
abbrev pub is_fun : ℕ → ℕ → Bool
is_fun count n = nat_le 1 n && nat_le n count

-- whether a pair names two of them
abbrev pub are_funs : ℕ → ℕ × ℕ → Bool
are_funs count p = is_fun count p.0 && is_fun count p.1

-- whether the state that a function leaves, where it is another's, is that of one of them
abbrev pub leaves_fun : ℕ → Leaves → Bool
leaves_fun count Own = true
leaves_fun count Same = true
leaves_fun count (Of other) = is_fun count other

-- whether no two names are one
abbrev pub all_differ : List (List ℕ) → Bool
all_differ [] = true
all_differ (name ∷ names) = not (has_name names name) && all_differ names

-- whether a shape is within the limits of functions and fields, and its numbers and names name its own functions
abbrev pub is_shape : Facts → Bool
is_shape facts =
    let count = length facts.funs in
    nat_le count most_funs && nat_le (length facts.fields) most_fields && all_differ (map (λ f. f.name) facts.funs)
    && list_all (are_funs count) facts.moves && list_all (are_funs count) facts.steps && list_all (λ f. leaves_fun count f.leaves) facts.funs

-- an interface is of a shape within the limits
pub record IsSmall (i : Declared) : Type 0 where
  pub funs : length i.facts.funs ≤ most_funs
  pub fields : length i.facts.fields ≤ most_fields

-- whether all are shapes within the limits
abbrev pub are_shapes : List Facts → Bool
are_shapes services = list_all is_shape services
