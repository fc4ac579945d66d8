-- What is told of an answer keeps what an engine says of its names.
use Rattle.std.proofs.Common.{◌≡◌, ◌≤◌, ◌<◌, ◌+◌, ℕ, Bool, true, false, List, Some, refl, sym, ◌∙◌, ap, arith}
use Rattle.std.specs.Prelude.{if◌then◌else◌, ◌==◌, ◌&&◌, ◌⊎◌}
use Rattle.sg_facts.specs.sg_base.declared.call.Call.{Call}
use Rattle.sg_facts.specs.sg_base.declared.reply.Good.{Good}
use Rattle.sg_facts.specs.sg_base.declared.reply.Reply.{Reply}
use Rattle.sg_facts.specs.sg_base.declared.reply.Reply.TheVariants.{Ok, Refused}
use Rattle.sg_facts.specs.Facts.{Facts}
use Rattle.sg_facts.specs.Object.{Object, after}
use Rattle.sg_facts.specs.Walks.{most_calls}
use Rattle.sg_name.specs.Names.{Naming, named_at, real_at, real_of}
use Rattle.sg_name.specs.declared.named.Named.TheVariants.{Partial, Live}
use Rattle.sg_name.specs.declared.named.Standing.{Standing}
use Rattle.sg_replay.proofs.Naming.{real_in_named}
use Rattle.sg_replay.specs.Engined.{AreGiven, AreInWalks}
use Rattle.sg_replay.specs.Inside.Telling.{MayTell}
use Rattle.sg_replay.specs.Serving.{is_named_by, makes, real_in}

-- what may be served may be told: the id of what was made is above all that were given
pub may_tell : (names : Naming) (held : Object) (is_new : Bool) (reply : Reply) → AreGiven (Some held) names.known → 1 ≤ names.spare
    → ((good : Good) → reply ≡ Ok good → is_new ≡ true → good.desc ≡ held.given + 1)
    → ((good : Good) → reply ≡ Ok good → is_new ≡ false → (good.desc ≡ 0) ⊎ ((id : ℕ) × (real_at names.known id ≡ Some good.desc)))
    → MayTell names is_new reply
may_tell names held is_new (Refused code) given room next back = tt
may_tell names held true (Ok good) given room next back =
    let new : good.desc ≡ held.given + 1 = next good refl refl in
    (room, λ id is. let old : (1 ≤ good.desc) × (good.desc ≤ held.given) = given id good.desc is in absurd (omega arith))
may_tell names held false (Ok good) given room next back = back good refl refl

module _ (known known' : List (ℕ × Standing)) where
  -- the service id of an id whose name stays
  stays : (id : ℕ) → named_at known' id ≡ named_at known id → (real : ℕ) → real_at known' id ≡ Some real → real_at known id ≡ Some real
  stays id same real is = real_in_named known id ∙ ap real_of (sym same) ∙ sym (real_in_named known' id) ∙ is

  -- ids that were given stay so while names stay
  pub given_kept : (held : Object) → AreGiven (Some held) known → ((id : ℕ) → named_at known' id ≡ named_at known id) → AreGiven (Some held) known'
  given_kept held given same id real is = given id real (stays id (same id) real is)

  -- descriptors that are rebuilt in part stay so while names stay
  pub walks_kept : AreInWalks known → ((id : ℕ) → named_at known' id ≡ named_at known id) → AreInWalks known'
  walks_kept walks same id real done is = walks id real done (sym (same id) ∙ is)

  -- a new name is whole
  pub walks_told : (is_new : Bool) (next : ℕ) (reply : Reply) → AreInWalks known
      → ((id : ℕ) → named_at known' id ≡ (if is_named_by is_new next reply id then Live (real_in reply) else named_at known id)) → AreInWalks known'
  walks_told is_new next reply walks names id real done is = at (is_named_by is_new next reply id) (sym (names id) ∙ is)
    where
      at : (b : Bool) → (if b then Live (real_in reply) else named_at known id) ≡ Partial real done → done < most_calls
      at true wrong = cc wrong
      at false old = walks id real done old

  -- a new name is of the id that the service has just given
  pub given_told : (facts : Facts) (held : Object) (call : Call) (next : ℕ) (reply : Reply) → AreGiven (Some held) known
      → ((good : Good) → reply ≡ Ok good → makes facts call ≡ true → good.desc ≡ held.given + 1)
      → ((id : ℕ) → named_at known' id ≡ (if is_named_by (makes facts call) next reply id then Live (real_in reply) else named_at known id))
      → AreGiven (Some (after facts held call reply)) known'
  given_told facts held call next (Refused code) given gives names = given_kept held given names
  given_told facts held call next (Ok good) given gives names = at (makes facts call) (gives good refl) names
    where
      one : (b : Bool) (id real : ℕ) → good.desc ≡ held.given + 1 → named_at known' id ≡ (if b then Live good.desc else named_at known id)
          → real_at known' id ≡ Some real → (1 ≤ real) × (real ≤ held.given + 1)
      one true id real new is stands =
          let both : Some good.desc ≡ Some real = sym (real_in_named known' id ∙ ap real_of is) ∙ stands in
          let its : good.desc ≡ real = cc both in
          (omega arith, omega arith)
      one false id real new is stands =
          let old : (1 ≤ real) × (real ≤ held.given) = given id real (stays id is real stands) in
          (old.0, omega arith)

      at : (b : Bool) → (b ≡ true → good.desc ≡ held.given + 1) → ((id : ℕ) → named_at known' id ≡ (if b && (id == next) then Live good.desc else named_at known id))
          → (id real : ℕ) → real_at known' id ≡ Some real → (1 ≤ real) × (real ≤ (if b then held.given + 1 else held.given))
      at true gives names id real stands = one (id == next) id real (gives refl) (names id) stands
      at false gives names id real stands = given id real (stays id (names id) real stands)
