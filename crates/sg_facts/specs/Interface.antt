-- What contracts see of an interface.
use Rattle.std.specs.Prelude.{ℕ, ◌-◌, ◌≤◌, ◌==◌, Bool, ◌&&◌, nat_le, List, length}
use Rattle.std.specs.List.{list_any}
use Rattle.std.specs.Int.{bit_at}
use Rattle.sg_facts.specs.Facts.{Facts}
use Rattle.sg_facts.specs.Limits.{most_fields}

-- a service's facts, the declared functions (bit f - 1 for function f), the version of the language, whether every live
-- descriptor is rebuilt after a boot before any call is served, the transitions and the recover steps
pub record Declared : Type 0 where
  pub facts : Facts
  pub declared : ℕ
  pub version : ℕ
  pub eager : Bool
  pub moves : List (ℕ × ℕ)
  pub steps : List (ℕ × ℕ)

-- the rows have no more fields than a row may have
abbrev pub HasFewFields : Declared → Type 0
HasFewFields i = length i.facts.fields ≤ most_fields

-- whether a function is declared
abbrev pub declares : Declared → ℕ → Bool
declares i fun = nat_le 1 fun && (bit_at i.declared (fun - 1) == 1)

-- whether a pair is listed
abbrev pub has_pair : List (ℕ × ℕ) → ℕ → ℕ → Bool
has_pair pairs a b = list_any (λ p. (p.0 == a) && (p.1 == b)) pairs

-- whether a function may be called in a state
abbrev pub moves_on : Declared → ℕ → ℕ → Bool
moves_on i state fun = has_pair i.moves state fun

-- whether a function may be replayed in a state
abbrev pub steps_on : Declared → ℕ → ℕ → Bool
steps_on i state fun = has_pair i.steps state fun
