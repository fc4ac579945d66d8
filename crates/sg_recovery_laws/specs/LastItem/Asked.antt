-- Calls as clients may make them, and what holds of the object of a legal history of such calls.
use Rattle.std.specs.Prelude.{ℕ, ◌+◌, ◌≤◌}
use Rattle.sg_facts.specs.Counted.{most_counted}
use Rattle.sg_facts.specs.Facts.{Facts}
use Rattle.sg_facts.specs.Laws.{slow}
use Rattle.sg_facts.specs.Object.{Object}

-- what so many calls may come to: a sound object, whose ids and counted words are no more than they can have made
pub record IsComeTo (facts : Facts) (sound : Object → Type 0) (calls : ℕ) (o : Object) : Type 0 where
  pub is_sound : sound o
  pub given : o.given ≤ calls
  pub counted : most_counted facts o.rows ≤ slow + calls
