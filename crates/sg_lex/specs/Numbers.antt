-- What digits stand for.
use Rattle.std.specs.Prelude.{ℕ, ◌+◌, ◌*◌, ◌-◌, nat_le, if◌then◌else◌, List, None, Some}
use Rattle.std.specs.declared.option.Option.{Option}
use Rattle.std.specs.List.{fold}
use Rattle.sg_base.specs.Counts.{last_count}

-- what digits stand for
abbrev pub value_of_digits : List ℕ → ℕ
value_of_digits digits = fold (λ a d. 10 * a + (d - 48)) 0 digits

-- a number; None where it is above the greatest of 64 bits
abbrev pub bounded : ℕ → Option ℕ
bounded n = if nat_le n last_count then Some n else None

-- what digits stand for; None where that is above the greatest number
abbrev pub number_of_digits : List ℕ → Option ℕ
number_of_digits digits = bounded (value_of_digits digits)
