-- What a tracker keeps.
use Rattle.std.specs.Prelude.{ℕ, ◌≡◌, ◌+◌, ◌-◌, ◌<◌, ◌==◌, ◌&&◌, ◌||◌, not, Bool, true, if◌then◌else◌, List, [], ◌∷◌, length, map, nat_le, slice_get, slice_index_or, vec_capacity, ◌≤◌}
use Rattle.std.specs.Map.{values_of}
use Rattle.indexmap.specs.IndexMap.{spare}
use Rattle.sg_facts.specs.sg_base.Lists.{Each}
use Rattle.sg_facts.specs.declared.row.Row.{Row}
use Rattle.sg_facts.specs.Track.{is_ancestor, row_at}
use Rattle.sg_track.specs.declared.room.RowRoom.{RowRoom}
use Rattle.sg_track.specs.declared.kept.Kept.{Kept}
use Rattle.sg_track.specs.declared.tracker.Tracker.TheInside.{Inside}
use Rattle.sg_track.specs.Tracked.{AreTracked}

-- the rows
abbrev pub rows_of : List Kept → List Row
rows_of kept = map (λ k. k.row) kept

-- the rows of a map's entries
abbrev pub rows_in : List (ℕ × Kept) → List Row
rows_in entries = rows_of (values_of entries)

-- each row stands under its id
abbrev pub AreKeyed : List (ℕ × Kept) → Type 0
AreKeyed entries = Each (λ e. e.0 ≡ e.1.row.id) entries

-- room for the fields of one row, with a text in each
pub record HasRowRoom (room : RowRoom) : Type 0 where
  pub empty : room.values.items ≡ []
  pub values : vec_capacity room.values ≡ 8
  pub texts : 8 ≤ length room.texts.items

-- room for one row, or for none
abbrev pub spare_of : Bool → ℕ
spare_of ready = if ready then 1 else 0

-- rows in ascending ids, each under its own
pub record Ascends (entries : List (ℕ × Kept)) : Type 0 where
  pub most : ℕ
  pub tracked : AreTracked most (rows_in entries)
  pub keyed : AreKeyed entries

-- the row of an id stands at a place
pub record HasRow (kept : List Kept) (at id : ℕ) : Type 0 where
  pub within : at < length kept
  pub there : row_at (rows_of kept) id ≡ slice_get (rows_of kept) at

-- each count is the number that is told of the row's id
abbrev pub Counts : (ℕ → ℕ) → List Kept → Type 0
Counts number kept = Each (λ k. k.children ≡ number k.row.id) kept

-- the number of rows that pass a test
abbrev pub count_rows : (Row → Bool) → List Row → ℕ
count_rows test [] = 0
count_rows test (r ∷ rows) = (if test r then 1 else 0) + count_rows test rows

-- the number of rows with an id as their parent
abbrev pub children_of : List Row → ℕ → ℕ
children_of rows id = count_rows (λ r. r.parent == id) rows

-- the number of rows with an id as their parent, without the row of an id that ends
abbrev pub others_of : ℕ → List Row → ℕ → ℕ
others_of gone rows id = count_rows (λ r. (r.parent == id) && not (r.id == gone)) rows

-- one more, or one less, for one id

-- a number for each id, with one more for one of them
abbrev pub more_at : ℕ → (ℕ → ℕ) → ℕ → ℕ
more_at one number id = if id == one then number id + 1 else number id

-- a number for each id, with one less for one of them
abbrev pub less_at : ℕ → (ℕ → ℕ) → ℕ → ℕ
less_at one number id = if id == one then number id - 1 else number id

-- the rows are tracked, each under its id and with the number of its children, and where there is room for a row, there is some for
-- its fields, and the map has a place for it
pub record IsKept (t : Inside) : Type 0 where
  pub tracked : AreTracked t.given (rows_in t.kept.entries)
  pub keyed : AreKeyed t.kept.entries
  pub counted : Counts (children_of (rows_in t.kept.entries)) (values_of t.kept.entries)
  pub room : t.ready ≡ true → 1 ≤ spare t.kept
  pub fields : t.ready ≡ true → HasRowRoom t.room

-- whether an id ends with another, under subtree
abbrev pub ends_below : List Row → ℕ → ℕ → Bool
ends_below rows id other = (other == id) || is_ancestor rows id other

-- a test tells whether the row at a place ends with an id
abbrev pub TellsAt : ℕ → List Kept → ℕ → Bool → Type 0
TellsAt id kept at test = (d : Kept) → test ≡ ends_below (rows_of kept) id (slice_index_or kept at d).row.id

-- whether a row is marked to end with an id: the marks of rows that were made before the id's don't count
abbrev pub is_marked : ℕ → Kept → Bool
is_marked id k = nat_le id k.row.id && k.ends

-- the mark of the row at a place tells whether it ends with an id
abbrev pub IsTold : ℕ → List Kept → ℕ → Type 0
IsTold id kept at = (d : Kept) → is_marked id (slice_index_or kept at d) ≡ ends_below (rows_of kept) id (slice_index_or kept at d).row.id
