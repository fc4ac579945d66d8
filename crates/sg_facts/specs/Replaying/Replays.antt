-- What a service has to show so that walks go on: that it answers Ok where a replayed call comes to it.
use Rattle.std.specs.Prelude.{ℕ, true, ◌≡◌, ◌<◌, ◌≤◌, ◌++◌, List, [], ◌∷◌, Some, map}
use Rattle.sg_base.specs.declared.value.Value.{Value}
use Rattle.sg_base.specs.declared.call.Call.{Call}
use Rattle.sg_base.specs.declared.reply.Good.{Good}
use Rattle.sg_base.specs.declared.reply.Reply.TheVariants.{Ok}
use Rattle.sg_facts.specs.declared.row.Row.{Row}
use Rattle.sg_facts.specs.Alike.{named}
use Rattle.sg_facts.specs.Counted.{CountedBelow}
use Rattle.sg_facts.specs.Facts.{Facts, fun_at}
use Rattle.sg_facts.specs.Fits.{Fits}
use Rattle.sg_facts.specs.Held.{HoldsPart, IsPartOf, ParentIsWhole, set_of}
use Rattle.sg_facts.specs.Interface.{Declared}
use Rattle.sg_facts.specs.Kinds.{kinds_fit}
use Rattle.sg_facts.specs.Laws.{next_call}
use Rattle.sg_facts.specs.Legal.{Table}
use Rattle.sg_facts.specs.Limits.{end_of_counts, last_client}
use Rattle.sg_facts.specs.Object.{Object}
use Rattle.sg_facts.specs.Sound.{AreFields}
use Rattle.sg_facts.specs.Track.{fields_after, row_at}
use Rattle.sg_facts.specs.Fields.{empty_field}
use Rattle.sg_facts.specs.Walks.{IsWalkOf}
use Rattle.sg_facts.specs.Inside.Walking.{may_go_on}

-- a replayed call has a client, has arguments of their kinds, and is answered Ok; its Ok leaves fields of the service
pub record IsAnsweredOk (facts : Facts) (ask : Table) (held : Object) (call : Call) (old : List Value) : Type 0 where
  pub client_first : 1 ≤ call.client
  pub client_last : call.client ≤ last_client
  pub args : kinds_fit (fun_at facts.funs call.fun).kinds call.args ≡ true
  pub good : Good
  pub answered : ask held call ≡ Some (Ok good)
  pub fields : AreFields facts.fields (fields_after call good (fun_at facts.funs call.fun).effects old)

-- what a service holds of a sound object in the middle of a recovery
pub record IsHalfway (i : Declared) (sound : Object → Type 0) (names : List (ℕ × ℕ)) (o held : Object) : Type 0 where
  pub fits : Fits i
  pub is_sound : sound o
  pub holds : HoldsPart i names o held
  pub counted : CountedBelow end_of_counts i.facts held.rows
  pub given : held.given < end_of_counts

-- the creation of a row that a service doesn't hold, with a whole parent, is answered Ok there
abbrev pub AnswersCreations : Declared → Table → (Object → Type 0) → Type 0
AnswersCreations i ask sound = (names : List (ℕ × ℕ)) (o held : Object) (r : Row) (rest : List ℕ) → IsHalfway i sound names o held
    → row_at o.rows r.id ≡ Some r → named names r.id ≡ 0 → ParentIsWhole names o held r → IsWalkOf i (r.made ∷ rest) r.made r.state (set_of r)
    → IsAnsweredOk i.facts ask held (next_call i.facts names r [] r.made) (map empty_field i.facts.fields)

-- the next step of the walk of a row that a service holds in part is answered Ok there
abbrev pub AnswersSteps : Declared → Table → (Object → Type 0) → Type 0
AnswersSteps i ask sound = (names : List (ℕ × ℕ)) (o held : Object) (r w : Row) (first : ℕ) (done rest : List ℕ) (fun : ℕ) → IsHalfway i sound names o held
    → row_at o.rows r.id ≡ Some r → row_at held.rows (named names r.id) ≡ Some w → IsWalkOf i ((first ∷ done) ++ fun ∷ rest) r.made r.state (set_of r)
    → (part : IsPartOf i names r (first ∷ done) w) → may_go_on i part.spot fun ≡ true → IsAnsweredOk i.facts ask held (next_call i.facts names r (first ∷ done) fun) w.fields

-- the two laws of a service
pub record AnswersReplays (facts : Facts) (ask : Table) (sound : Object → Type 0) : Type 0 where
  pub creations : (i : Declared) → i.facts ≡ facts → AnswersCreations i ask sound
  pub steps : (i : Declared) → i.facts ≡ facts → AnswersSteps i ask sound
