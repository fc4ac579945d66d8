-- Up to where all rows are whole.
use Rattle.std.specs.Prelude.{ℕ, ◌≡◌, ◌<◌, ◌≤◌, ◌+◌, true}
use Rattle.sg_facts.specs.Facts.{Facts}
use Rattle.sg_facts.specs.Track.{is_live}
use Rattle.sg_name.specs.Names.{named_at}
use Rattle.sg_replay.specs.Engined.{Engined, IsEngine}
use Rattle.sg_replay.specs.Missing.{is_whole}

-- the parts agree, and each tracked row below an id is whole. The id is at most the next one
pub record IsWholeBelow (facts : Facts) (e : Engined) (below : ℕ) : Type 0 where
  pub is : IsEngine facts e
  pub few : below ≤ e.tracked.given + 1
  pub whole : (id : ℕ) → id < below → is_live e.tracked.rows id ≡ true → is_whole (named_at e.names.known id) ≡ true
