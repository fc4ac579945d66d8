-- What is known of fields where a walk has come to, as the code holds it.
use Rattle.std.specs.Prelude.{ℕ, List, map, take}
use Rattle.sg_facts.specs.Walks.{FieldMark, unset, good, unknown}
use Rattle.sg_walk.specs.declared.spot.FieldState.{FieldState}
use Rattle.sg_walk.specs.declared.spot.FieldState.TheVariants.{Unset, Good, Unknown}

-- what is known of a field by the mark of the code
abbrev pub known_of : FieldState → FieldMark
known_of Unset = unset
known_of Good = good
known_of Unknown = unknown

-- the marks of the first fields
abbrev pub shown_marks : ℕ → List FieldState → List FieldMark
shown_marks count marks = map known_of (take count marks)
