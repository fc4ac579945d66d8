-- What a service holds in the middle of a recovery: some rows whole, and some as far as their walks have gone.
use Rattle.std.specs.Prelude.{ℕ, ◌≡◌, ◌≤◌, ◌⊎◌, Bool, List, [], ◌∷◌, ◌++◌, Some, map}
use Rattle.sg_base.specs.declared.value.Value.{Value}
use Rattle.sg_base.specs.declared.value.Value.TheVariants.{Word, Text}
use Rattle.sg_facts.specs.declared.row.Row.{Row}
use Rattle.sg_facts.specs.Fields.{is_set}
use Rattle.sg_facts.specs.Interface.{Declared}
use Rattle.sg_facts.specs.Track.{row_at}
use Rattle.sg_facts.specs.Inside.Rows.{cleared}
use Rattle.sg_facts.specs.Object.{Object}
use Rattle.sg_facts.specs.Walks.{FieldMark, unset, good, unknown, Spot, spot_of, IsReachable, IsWalkOf}
use Rattle.sg_facts.specs.Sound.{IsSound}
use Rattle.sg_facts.specs.Alike.{named, AreNames, IsAlike, HasAlike}

-- two values of one kind
abbrev pub SameKind : Value → Value → Type 0
SameKind (Word m) (Word n) = Unit {0}
SameKind (Text m) (Text n) = Unit {0}
SameKind (Word m) (Text n) = ⊥
SameKind (Text m) (Word n) = ⊥

-- the service's value of a field, by what is known of it: it is 0 or empty, or the row's, or only of its kind
abbrev pub FieldHolds : FieldMark → Value → Value → Type 0
FieldHolds unset v held = held ≡ cleared v
FieldHolds good v held = held ≡ v
FieldHolds unknown v held = SameKind v held

-- the service's values of all fields of a row, each by what is known of it; there is one mark and one value for each
abbrev pub FieldsHold : List FieldMark → List Value → List Value → Type 0
FieldsHold [] [] [] = Unit {0}
FieldsHold (m ∷ marks) (v ∷ vs) (w ∷ ws) = FieldHolds m v w × FieldsHold marks vs ws
FieldsHold _ _ _ = ⊥

-- the set of a row's fields that are set
abbrev pub set_of : Row → List Bool
set_of r = map is_set r.fields

-- a row of the service is where the done part of a row's walk leads to
pub record IsPartOf (i : Declared) (names : List (ℕ × ℕ)) (r : Row) (done : List ℕ) (held : Row) : Type 0 where
  pub spot : Spot
  pub led : spot_of i done ≡ Some spot
  pub id : named names r.id ≡ held.id
  pub made : held.made ≡ r.made
  pub parent : held.parent ≡ named names r.parent
  pub state : held.state ≡ spot.state
  pub fields : FieldsHold spot.marks r.fields held.fields

-- the parent of a row is none, or its row is in the service, whole

-- the parent of a row is live, and the service has its row whole
pub record HasParent (names : List (ℕ × ℕ)) (o held : Object) (r : Row) : Type 0 where
  pub row : Row
  pub of : row_at o.rows r.parent ≡ Some row
  pub whole : HasAlike names held row

-- a row has no parent, or the service has the row of its parent whole
abbrev pub ParentIsWhole : List (ℕ × ℕ) → Object → Object → Row → Type 0
ParentIsWhole names o held r = (r.parent ≡ 0) ⊎ HasParent names o held r

-- a row of the service is that of a live row, whole, or as far as a done part of its walk leads
pub data IsHeldFor (i : Declared) (names : List (ℕ × ℕ)) (r held : Row) : Type 0 where
  whole : IsAlike names r held → IsHeldFor i names r held
  partly : (done rest : List ℕ) → IsWalkOf i (done ++ rest) r.made r.state (set_of r) → IsPartOf i names r done held → IsHeldFor i names r held

-- a row of the service is that of a live row, whole or partly rebuilt, which has no parent or a whole one
pub record IsHeld (i : Declared) (names : List (ℕ × ℕ)) (o held : Object) (w : Row) : Type 0 where
  pub row : Row
  pub live : row_at o.rows row.id ≡ Some row
  pub held_for : IsHeldFor i names row w
  pub parent : ParentIsWhole names o held row

-- each of these rows of the service is that of a live row, whole or partly rebuilt, which has no parent or a whole one
abbrev pub EachHeld : Declared → List (ℕ × ℕ) → Object → Object → List Row → Type 0
EachHeld i names o held [] = Unit {0}
EachHeld i names o held (w ∷ ws) = IsHeld i names o held w × EachHeld i names o held ws

-- a service holds rows of an object under names: what it holds is sound, each row is whole or partly rebuilt, and has a
-- whole parent
pub record HoldsPart (i : Declared) (names : List (ℕ × ℕ)) (o held : Object) : Type 0 where
  pub names_are : AreNames names
  pub given : (id : ℕ) → named names id ≤ held.given
  pub held_sound : IsSound i.facts held
  pub each : EachHeld i names o held held.rows

-- so much of a row's walk is done in a service: nothing, where it has no row for it
abbrev pub IsAt : Declared → List (ℕ × ℕ) → Object → Row → List ℕ → Type 0
IsAt i names held r [] = named names r.id ≡ 0
IsAt i names held r (fun ∷ done) = (w : Row) × (row_at held.rows (named names r.id) ≡ Some w) × IsPartOf i names r (fun ∷ done) w

-- each row is in a state with a set of fields that a descriptor can come to
abbrev pub AreReachable : Declared → List Row → Type 0
AreReachable i [] = Unit {0}
AreReachable i (r ∷ rows) = IsReachable i r.made r.state (set_of r) × AreReachable i rows
