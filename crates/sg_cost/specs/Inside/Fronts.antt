-- The rows that the first entries of a history come to.
use Rattle.std.specs.Prelude.{ℕ, ◌≡◌, ◌≤◌, List, ◌∷◌, ◌++◌, length, take}
use Rattle.sg_cost.specs.Costs.{most_entries}
use Rattle.sg_facts.specs.Facts.{Facts}
use Rattle.sg_facts.specs.Limits.{most_fields}
use Rattle.sg_facts.specs.Object.{object_of}
use Rattle.sg_facts.specs.Trace.{Run}
use Rattle.sg_facts.specs.declared.entry.Entry.{Entry}
use Rattle.sg_facts.specs.declared.row.Row.{Row}
use Rattle.sg_facts.specs.sg_base.Lists.{Each}
use Rattle.sg_report.specs.sg_hist.Recovered.{AreInBoots}
use Rattle.sg_report.specs.sg_hist.Inside.Parts.{HasItem}
use Rattle.sg_needs.specs.sg_track.Tracked.{MayTrack, Tracked}

-- the rows and the number of ids given that entries come to
pub record AreRowsOf (facts : Facts) (entries : List Entry) (t : Tracked) : Type 0 where
  pub rows : t.rows ≡ (object_of facts entries).rows
  pub given : t.given ≡ (object_of facts entries).given

-- the rows that so many first entries of a history come to
pub record IsFront (facts : Facts) (history : List Entry) (place : ℕ) (t : Tracked) : Type 0 where
  pub few : place ≤ length history
  pub rows_of : AreRowsOf facts (take place history) t

-- each entry of a history may be tracked over what those before it come to, where there is room for a row
abbrev pub MayBeTracked : Facts → List Entry → Type 0
MayBeTracked facts history = (before : List Entry) (e : Entry) (rest : List Entry) → history ≡ before ++ e ∷ rest
    → (t : Tracked) → AreRowsOf facts before t → 1 ≤ t.spare → MayTrack facts t e.call e.reply

-- rows have no more fields than a row may have, and are no more than a history has entries
pub record AreFewRows (rows : List Row) : Type 0 where
  pub fields : Each (λ r. length r.fields ≤ most_fields) rows
  pub few : length rows ≤ most_entries

-- the entries of a history are in the boots of a run: each that the service was asked has its item, and along the history the boots
-- never go back
pub record AreInRun (facts : Facts) (history : List Entry) (run : Run) : Type 0 where
  pub items : Each (HasItem facts history run) history
  pub held : AreInBoots facts run 0 history
