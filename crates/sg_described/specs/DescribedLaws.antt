-- What is proved of a described service.
use Rattle.sg_facts.specs.Laws.{AnswersAndKeeps, AnswersAlike, BlockedStays, CountsSlowly, ShapeAllows, WalkGoesOn}
use Rattle.sg_described.specs.Described.{Described}
use Rattle.sg_described.specs.DescribedSound.{IsDescribedSound}
use Rattle.sg_described.specs.Meaning.{described_table}

-- it keeps the laws of every service
pub record KeepsLaws (d : Described) : Type 0 where
  pub answers_and_keeps : AnswersAndKeeps d.facts (described_table d) (IsDescribedSound d)
  pub answers_alike : AnswersAlike d.facts (described_table d) (IsDescribedSound d)
  pub walk_goes_on : WalkGoesOn d.facts (described_table d) (IsDescribedSound d)
  pub blocked_stays : BlockedStays d.facts (described_table d) (IsDescribedSound d)
  pub shape_allows : ShapeAllows d.facts (described_table d)
  pub counts_slowly : CountsSlowly d.facts (described_table d) (IsDescribedSound d)
