-- The first of all timers.
use Rattle.std.proofs.Common.{◌≡◌, Bool, true, List, [], ◌∷◌, filter, refl, ap}
use Rattle.std.specs.List.{reduce}
use Rattle.sg_facts.specs.declared.row.Row.{Row}
use Rattle.sg_slots.proofs.Firsts.{first_of, sooner}
use Rattle.sg_timer.specs.TimerTable.{first_timer, left_of, tag_of}

-- a test that each row passes
abbrev pub any_row : Row → Bool
any_row r = true

all_pass : (rows : List Row) → filter any_row rows ≡ rows
all_pass [] = refl
all_pass (r ∷ rows) = ap (λ l. r ∷ l) (all_pass rows)

-- the first of the rows that pass it is the first of all
pub first_of_all : (rows : List Row) → first_of left_of tag_of any_row rows ≡ first_timer rows
first_of_all rows = ap (reduce (sooner left_of tag_of)) (all_pass rows)
