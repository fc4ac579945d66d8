-- Objects that a service can come to.
use Rattle.std.specs.Prelude.{ℕ, ◌≡◌, ◌≢◌, ◌^◌, ◌<◌, ◌≤◌, ◌==◌, Bool, true, false, ◌||◌, not, nat_lt, ◌&&◌, if◌then◌else◌, List, [], ◌∷◌}
use Rattle.sg_base.specs.declared.value.Value.{Value}
use Rattle.sg_base.specs.declared.value.Value.TheVariants.{Word, Text}
use Rattle.sg_facts.specs.declared.row.Row.{Row}
use Rattle.sg_facts.specs.Facts.{Facts, Field, fun_at, takes_parent}
use Rattle.sg_facts.specs.Kinds.{may_be_root}
use Rattle.sg_facts.specs.Limits.{last_client}
use Rattle.sg_facts.specs.Track.{is_live}
use Rattle.sg_facts.specs.Object.{Object}

-- a value is of a field's kind, and a word below 2^64
abbrev pub IsOfField : Field → Value → Type 0
IsOfField f (Word n) = (f.text ≡ false) × (n < 2 ^ 64)
IsOfField f (Text bytes) = f.text ≡ true

-- one value of its kind for each field
abbrev pub AreFields : List Field → List Value → Type 0
AreFields [] [] = Unit {0}
AreFields (f ∷ fs) (v ∷ vs) = IsOfField f v × AreFields fs vs
AreFields [] (v ∷ vs) = ⊥
AreFields (f ∷ fs) [] = ⊥

-- a row has a parent where its creation takes one and it may not be a root, and none where its creation takes none
abbrev pub has_its_parent : Facts → Row → Bool
has_its_parent facts r = if takes_parent (fun_at facts.funs r.made) then may_be_root facts.parents || not (r.parent == 0) else r.parent == 0

-- a row among live rows: its creator is a client, its parent is 0 or a live row of a smaller id, and as its creation takes
-- one; its fields are the service's
pub record IsRow (facts : Facts) (rows : List Row) (r : Row) : Type 0 where
  pub creator_first : 1 ≤ r.creator
  pub creator_last : r.creator ≤ last_client
  pub parent : ((r.parent == 0) || (nat_lt r.parent r.id && is_live rows r.parent)) ≡ true
  pub its_parent : has_its_parent facts r ≡ true
  pub fields : AreFields facts.fields r.fields

-- rows whose ids ascend above one number and up to another, and of which each meets a condition
abbrev pub AreRows : (Row → Type 0) → ℕ → ℕ → List Row → Type 0
AreRows P low high [] = Unit {0}
AreRows P low high (r ∷ rows) = (low < r.id) × (r.id ≤ high) × P r × AreRows P r.id high rows

-- no file has this path
abbrev pub HasNoFile : List (List ℕ × List ℕ) → List ℕ → Type 0
HasNoFile [] path = Unit {0}
HasNoFile (f ∷ files) path = (f.0 ≢ path) × HasNoFile files path

-- no two files have one path
abbrev pub AreFiles : List (List ℕ × List ℕ) → Type 0
AreFiles [] = Unit {0}
AreFiles (f ∷ files) = HasNoFile files f.0 × AreFiles files

-- a sound object, for every service: its rows are rows of the service under ids from 1 to the number given, and no two
-- files have one path
pub record IsSound (facts : Facts) (o : Object) : Type 0 where
  pub rows : AreRows (IsRow facts o.rows) 0 o.given o.rows
  pub files : AreFiles o.files
