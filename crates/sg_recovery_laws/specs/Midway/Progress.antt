-- How far the rows of an object are rebuilt in a service.
use Rattle.std.specs.Prelude.{ℕ, ◌≡◌, ◌⊎◌, ◌<◌, Bool, true, false, List, [], Some, length, take}
use Rattle.sg_facts.specs.declared.row.Row.{Row}
use Rattle.sg_facts.specs.declared.tables.WalkLine.{WalkLine}
use Rattle.sg_facts.specs.Alike.{HasAlike, named}
use Rattle.sg_facts.specs.Held.{HoldsPart, IsAt}
use Rattle.sg_facts.specs.Interface.{Declared}
use Rattle.sg_facts.specs.Object.{Object, file_at}
use Rattle.sg_facts.specs.Track.{is_live, row_at}
use Rattle.sg_hist.specs.Reading.{walk_in}

-- what is told of an id: nothing was done for it in this boot, so many calls of its walk were replayed, or it is whole
pub data Told : Type 0 where
  fresh : Told
  begun : ℕ → Told
  complete : Told

-- a walk has come so far in a service
pub record IsBegun (i : Declared) (walks : List WalkLine) (names : List (ℕ × ℕ)) (held : Object) (r : Row) (n : ℕ) : Type 0 where
  pub walk : List ℕ
  pub its : walk_in walks (Some r) ≡ Some walk
  pub first : 0 < n
  pub left : n < length walk
  pub at : IsAt i names held r (take n walk)

-- a row is as far rebuilt in a service as is told: not at all, by so many calls of its walk, or whole
abbrev pub IsSoFar : Declared → List WalkLine → List (ℕ × ℕ) → Object → Row → Told → Type 0
IsSoFar i walks names held r fresh = named names r.id ≡ 0
IsSoFar i walks names held r (begun n) = IsBegun i walks names held r n
IsSoFar i walks names held r complete = HasAlike names held r

-- the file of a path is the object's where it is present in this boot, and else none
abbrev pub HasFile : Bool → List ℕ → Object → Object → Type 0
HasFile true path o held = file_at held.files path ≡ file_at o.files path
HasFile false path o held = file_at held.files path ≡ []

-- a service stands in the middle of a recovery: it holds rows of an object under names, each as far as is told, and the files that
-- are present
pub record IsInRecovery (i : Declared) (walks : List WalkLine) (names : List (ℕ × ℕ)) (told : ℕ → Told) (present : List ℕ → Bool) (o held : Object) : Type 0 where
  pub holds : HoldsPart i names o held
  pub rows : (r : Row) → row_at o.rows r.id ≡ Some r → IsSoFar i walks names held r (told r.id)
  pub files : (path : List ℕ) → HasFile (present path) path o held

-- whether an id is whole
abbrev pub is_complete : Told → Bool
is_complete complete = true
is_complete fresh = false
is_complete (begun n) = false

-- so many calls of a walk were replayed
abbrev pub TellsCalls : Told → ℕ → Type 0
TellsCalls fresh n = n ≡ 0
TellsCalls (begun m) n = n ≡ m
TellsCalls complete n = Unit {0}

-- no id, or a live one
abbrev pub IsNone : List Row → ℕ → Type 0
IsNone rows id = (id ≡ 0) ⊎ (is_live rows id ≡ true)
