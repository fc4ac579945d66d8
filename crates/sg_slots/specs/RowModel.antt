-- What a service of single rows is.
use Rattle.std.specs.Prelude.{ℕ, ◌≡◌, false}
use Rattle.sg_facts.specs.Facts.{Facts}
use Rattle.sg_facts.specs.Object.{Object}
use Rattle.sg_facts.specs.Legal.{Table}
use Rattle.sg_facts.specs.Laws.{AnswersAndKeeps, AnswersAlike, BlockedStays, CountsSlowly, ShapeAllows, WalkGoesOn}

-- the facts of a service without files, what it answers, the parts of its Oks, the objects that it can come to, and the laws
-- that every service keeps to
pub record RowModel : Type 1 where
  pub facts : Facts
  pub ask : Table
  pub parts : ℕ → ℕ
  pub sound : Object → Type 0
  pub fileless : facts.resc_data ≡ false
  pub answers_and_keeps : AnswersAndKeeps facts ask sound
  pub answers_alike : AnswersAlike facts ask sound
  pub walk_goes_on : WalkGoesOn facts ask sound
  pub blocked_stays : BlockedStays facts ask sound
  pub shape_allows : ShapeAllows facts ask
  pub counts_slowly : CountsSlowly facts ask sound
