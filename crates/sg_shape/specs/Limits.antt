-- How large a text may be that declares a shape by itself.
use Rattle.std.specs.Prelude.{ℕ}

-- the greatest number of parameters of a function, the caller among them
abbrev pub most_params : ℕ
most_params = 256

-- the greatest number of rules of a function
abbrev pub most_rules : ℕ
most_rules = 32
