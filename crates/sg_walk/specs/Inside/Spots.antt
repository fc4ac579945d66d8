-- Where a walk has come to, as the code holds it, and whether that is what is sought.
use Rattle.std.specs.Prelude.{ℕ, ◌/◌, ◌%◌, ◌==◌, Bool, false, ◌&&◌, List, [], ◌∷◌, None, Some, length}
use Rattle.std.specs.declared.option.Option.{Option}
use Rattle.sg_facts.specs.Interface.{Declared}
use Rattle.sg_facts.specs.Walks.{FieldMark as Known, Spot as Place, spot_from, spot_of}
use Rattle.sg_facts.specs.Inside.Walking.{restores_field}
use Rattle.sg_walk.specs.declared.spot.Spot.{Spot}
use Rattle.sg_walk.specs.declared.spot.Goal.{Goal}
use Rattle.sg_walk.specs.Marks.{shown_marks}

-- a spot, with a mark for each field of the interface's rows
abbrev pub shown : Declared → Spot → Place
shown i s = record { state = s.state; marks = shown_marks (length i.facts.fields) s.marks }

-- whether marks restore the set of fields that has a number
abbrev pub restores_number : List Known → ℕ → Bool
restores_number [] number = number == 0
restores_number (m ∷ marks) number = restores_field m (number % 2 == 1) && restores_number marks (number / 2)

-- whether a spot is where the sought state and fields are restored
abbrev pub is_goal : Place → Goal → Bool
is_goal s goal = (s.state == goal.state) && restores_number s.marks goal.mask

-- whether a walk has come to a spot where the sought state and fields are restored
abbrev pub is_goal_at : Option Place → Goal → Bool
is_goal_at None goal = false
is_goal_at (Some s) goal = is_goal s goal

-- whether these functions, called from a spot on, lead to what is sought
abbrev pub leads : Declared → Place → List ℕ → Goal → Bool
leads i s walk goal = is_goal_at (spot_from i s walk) goal

-- whether a walk leads to what is sought
abbrev pub reaches : Declared → List ℕ → Goal → Bool
reaches i walk goal = is_goal_at (spot_of i walk) goal
