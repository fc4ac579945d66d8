-- A service by its laws, and answered calls at an object.
use Rattle.std.specs.Prelude.{ℕ, ◌≡◌, ◌+◌, ◌^◌, ◌<◌, false, max, Some}
use Rattle.sg_facts.specs.sg_base.declared.call.Call.{Call}
use Rattle.sg_facts.specs.sg_base.declared.reply.Reply.{Reply}
use Rattle.sg_facts.specs.Counted.{most_counted}
use Rattle.sg_facts.specs.Facts.{Facts}
use Rattle.sg_facts.specs.Laws.{AnswersAlike, AnswersAndKeeps, BlockedStays, CountsSlowly, Passes, ShapeAllows, WalkGoesOn, slow}
use Rattle.sg_facts.specs.Legal.{Table}
use Rattle.sg_facts.specs.Object.{Object}
use Rattle.sg_recovery_laws.specs.Objects.Apart.{AreOwn}

-- the laws of a service
pub record IsService (facts : Facts) (ask : Table) (sound : Object → Type 0) : Type 0 where
  pub keeps : AnswersAndKeeps facts ask sound
  pub alike : AnswersAlike facts ask sound
  pub goes : WalkGoesOn facts ask sound
  pub blocked : BlockedStays facts ask sound
  pub shape : ShapeAllows facts ask
  pub counts : CountsSlowly facts ask sound

-- an object of legal histories: it is sound, and in a private service each row's parent is its creator's
pub record IsLegalObject (facts : Facts) (sound : Object → Type 0) (o : Object) : Type 0 where
  pub is_sound : sound o
  pub own : facts.global ≡ false → AreOwn o.rows

-- an answered call at an object
pub record IsAnsweredAt (facts : Facts) (ask : Table) (o : Object) (call : Call) (reply : Reply) : Type 0 where
  pub passes : Passes facts o call
  pub answered : ask o call ≡ Some reply

-- so many more calls leave the numbers far from their end
pub record HasTime (facts : Facts) (more : ℕ) (o : Object) : Type 0 where
  pub counted : max slow (most_counted facts o.rows) + more < 2 ^ 63
  pub given : o.given + more < 2 ^ 63
