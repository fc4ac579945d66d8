-- How a trace is read at its end: the names, what is whole, how far walks have come, and which files are present.
use Rattle.std.specs.Prelude.{ℕ, ◌≡◌, ◌||◌, Bool, true, List, [], ◌++◌, length, filter}
use Rattle.std.specs.List.{list_any}
use Rattle.sg_facts.specs.declared.entry.Entry.{Entry}
use Rattle.sg_facts.specs.declared.row.Row.{Row}
use Rattle.sg_facts.specs.declared.tables.WalkLine.{WalkLine}
use Rattle.sg_facts.specs.declared.trace.Item.{Item}
use Rattle.sg_facts.specs.Alike.{named}
use Rattle.sg_facts.specs.Facts.{Facts}
use Rattle.sg_facts.specs.Object.{Object, object_of}
use Rattle.sg_facts.specs.Sound.{IsSound}
use Rattle.sg_facts.specs.Track.{is_live}
use Rattle.sg_hist.specs.Growing.{IsOfNoEntry}
use Rattle.sg_recovery_laws.specs.LastItem.LastPlace.{HaveItems}
use Rattle.sg_hist.specs.Reading.{is_made, names_at, places_in}
use Rattle.sg_hist.specs.Inside.Reads.{is_rebuilt_at}
use Rattle.sg_hist.specs.Inside.Parts.{is_patch_at, is_walk_of}
use Rattle.sg_recovery_laws.specs.Midway.Progress.{TellsCalls, IsNone, Told, is_complete}

-- whether an id is whole after the items of a boot
abbrev pub whole_after : Facts → List WalkLine → List Entry → List Item → List Item → ℕ → Bool
whole_after facts walks history older front id =
    list_any (is_made facts history id) front || list_any (is_rebuilt_at facts walks history id) (places_in older [] front [])

-- what is told is what the trace tells. The trace's names go on to name what has ended; those of the stubs need not
pub record IsRead (facts : Facts) (walks : List WalkLine) (history : List Entry) (older front : List Item) (names : List (ℕ × ℕ)) (told : ℕ → Told) (present : List ℕ → Bool) (rows : List Row) : Type 0 where
  pub names_are : (id : ℕ) → IsNone rows id → named (names_at facts history front) id ≡ named names id
  pub whole : (id : ℕ) → is_live rows id ≡ true → whole_after facts walks history older front id ≡ is_complete (told id)
  pub calls : (id : ℕ) → is_live rows id ≡ true → TellsCalls (told id) (length (filter (λ item. is_walk_of id item.tag) front))
  pub files : (path : List ℕ) → list_any (λ item. is_patch_at path item.outcome) front ≡ present path

-- what is known where an item is noted last: the object of the whole history is sound, each entry has its item among the earlier ones,
-- none is of this item, and what is told is what the trace tells
pub record IsKnown (facts : Facts) (walks : List WalkLine) (history : List Entry) (older front : List Item) (item : Item) (names : List (ℕ × ℕ)) (told : ℕ → Told) (present : List ℕ → Bool) (o : Object) : Type 0 where
  pub object : object_of facts history ≡ o
  pub sound : IsSound facts o
  pub none : IsOfNoEntry item history
  pub items : HaveItems (older ++ front) history
  pub read : IsRead facts walks history older front names told present o.rows
