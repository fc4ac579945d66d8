-- Objects and calls under other ids: what the clients name stands for what the service names.
use Rattle.std.specs.Prelude.{ℕ, ◌≡◌, ◌==◌, ◌⊎◌, Bool, true, false, if◌then◌else◌, List, [], ◌∷◌, None, Some}
use Rattle.std.specs.declared.option.Option.{Option}
use Rattle.sg_base.specs.declared.call.Call.{Call}
use Rattle.sg_base.specs.declared.reply.Reply.{Reply}
use Rattle.sg_base.specs.declared.reply.Reply.TheVariants.{Ok, Refused}
use Rattle.sg_facts.specs.declared.row.Row.{Row}
use Rattle.sg_facts.specs.Facts.{Facts}
use Rattle.sg_facts.specs.Track.{row_at, is_live}
use Rattle.sg_facts.specs.Object.{Object, path_of, file_at}
use Rattle.sg_facts.specs.Needs.{is_needed, needs}
use Rattle.sg_facts.specs.Sound.{IsSound}

-- the service's id of a client's id, 0 where it has none: pairs of a client's id and a service's
abbrev pub named : List (ℕ × ℕ) → ℕ → ℕ
named [] id = 0
named (n ∷ names) id = if n.0 == id then n.1 else named names id

-- names: none stands for no id, and no two ids have one service id
pub record AreNames (names : List (ℕ × ℕ)) : Type 0 where
  pub none : named names 0 ≡ 0
  pub apart : (a b : ℕ) → named names a ≡ named names b → (named names a ≡ 0) ⊎ (a ≡ b)

-- a row of the service is as a client's row, creators aside
pub record IsAlike (names : List (ℕ × ℕ)) (r v : Row) : Type 0 where
  pub id : named names r.id ≡ v.id
  pub made : v.made ≡ r.made
  pub parent : v.parent ≡ named names r.parent
  pub state : v.state ≡ r.state
  pub fields : v.fields ≡ r.fields

-- a live row of an object that a row of the service stands for
pub record StandsFor (names : List (ℕ × ℕ)) (rows : List Row) (v : Row) : Type 0 where
  pub of : ℕ
  pub live : is_live rows of ≡ true
  pub id : named names of ≡ v.id

-- each of the service's rows stands for a live row
abbrev pub EachStands : List (ℕ × ℕ) → List Row → List Row → Type 0
EachStands names rows [] = Unit {0}
EachStands names rows (v ∷ vs) = StandsFor names rows v × EachStands names rows vs

-- a needed row of an object has an alike row in the service
pub record HasAlike (names : List (ℕ × ℕ)) (held : Object) (r : Row) : Type 0 where
  pub row : Row
  pub there : row_at held.rows (named names r.id) ≡ Some row
  pub alike : IsAlike names r row

-- the file that is needed is the same
abbrev pub SameFile : Object → Object → ℕ → ℕ → Option (List ℕ) → Type 0
SameFile o held id real None = Unit {0}
SameFile o held id real (Some path) = (path_of held.rows real ≡ path) × (file_at held.files path ≡ file_at o.files path)

-- what a service holds serves a call of an object: it is sound, each of its rows stands for a live one, and what the call
-- needs is there and alike
pub record Serves (facts : Facts) (names : List (ℕ × ℕ)) (o held : Object) (call : Call) : Type 0 where
  pub names_are : AreNames names
  pub held_sound : IsSound facts held
  pub each : EachStands names o.rows held.rows
  pub needed : (r : Row) → row_at o.rows r.id ≡ Some r → is_needed facts o.rows call r ≡ true → HasAlike names held r
  pub file : SameFile o held call.desc (named names call.desc) (needs facts o call).file

-- a call with its descriptor's id replaced by the service's id
abbrev pub under_names : List (ℕ × ℕ) → Call → Call
under_names names call = record call { desc = named names call.desc }

-- replies that say the same: the service's descriptor stands for the other, or is that of a creation, which is new
abbrev pub SameReply : List (ℕ × ℕ) → Bool → Option Reply → Option Reply → Type 0
SameReply names is_new None None = Unit {0}
SameReply names is_new (Some (Refused code)) (Some (Refused other)) = other ≡ code
SameReply names true (Some (Ok good)) (Some (Ok other)) = (other.words ≡ good.words) × (other.bytes ≡ good.bytes)
SameReply names false (Some (Ok good)) (Some (Ok other)) = (other.words ≡ good.words) × (other.bytes ≡ good.bytes) × (other.desc ≡ named names good.desc)
SameReply names is_new _ _ = ⊥
