-- What contracts see of a list that takes memory ahead.
use Rattle.std.specs.Prelude.{ℕ, List}

-- the elements, and how many more the list can take without memory
pub record Roomy (E : Type 0) : Type 0 where
  pub items : List E
  pub room : ℕ
