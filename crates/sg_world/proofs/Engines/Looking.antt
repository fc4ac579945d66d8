-- An engine's names, look-up by look-up, as the service ids and the progress that stubs tell: how a reply of the service is told, and what
-- serving and committing a call leave.
use Rattle.std.proofs.Common.{◌≡◌, ℕ, ◌<◌, ◌≤◌, Bool, true, false, cond, List, None, Some, refl, sym, ◌∙◌, ap, inl, inr, ◌⊎◌, arith}
use Rattle.std.specs.Prelude.{◌==◌, ◌||◌, ◌&&◌, if◌then◌else◌}
use Rattle.std.specs.declared.option.Option.{Option}
use Rattle.std.specs.Str.{bytes_eq}
use Rattle.sg_facts.specs.sg_base.declared.call.Call.{Call}
use Rattle.sg_facts.specs.sg_base.declared.reply.Good.{Good}
use Rattle.sg_facts.specs.sg_base.declared.reply.Reply.{Reply}
use Rattle.sg_facts.specs.sg_base.declared.reply.Reply.TheVariants.{Ok, Refused}
use Rattle.sg_world_laws.specs.Committing.Telling.{IsDescToldBy, IsToldBy, TellsAfter, has_ended, makes_id}
use Rattle.sg_world_laws.specs.Keeping.{TellSame, Stub}
use Rattle.sg_world_laws.proofs.Committing.Later.{apart_ok, apart_refused}
use Rattle.sg_facts.specs.declared.outcome.Patch.{Patch}
use Rattle.sg_facts.specs.Alike.{SameReply, named}
use Rattle.sg_facts.specs.Facts.{Facts, fun_at}
use Rattle.sg_facts.specs.Object.{Object, after, patch_of}
use Rattle.sg_world_laws.specs.sg_recovery_laws.Midway.Progress.{Told, complete, fresh}
use Rattle.sg_world_laws.specs.sg_recovery_laws.Midway.Stepping.{present_with}
use Rattle.sg_replay.specs.sg_hist.Inside.Reads.{desc_of}
use Rattle.sg_replay.specs.sg_name.Names.{named_at, real_at, real_of}
use Rattle.sg_replay.specs.sg_name.declared.named.Named.{Named}
use Rattle.sg_replay.specs.sg_name.declared.named.Named.TheVariants.{Unnamed, Partial, Live}
use Rattle.sg_replay.specs.sg_name.declared.named.Standing.{Standing}
use Rattle.sg_replay.specs.Committing.{is_written, name_left}
use Rattle.sg_replay.specs.Serving.{IsDescTold, IsReplyTold, is_named_by, pairs_of, real_in}
use Rattle.sg_replay.proofs.Naming.{named_in_pairs, real_in_named, real_or_zero}
use Rattle.sg_facts.proofs.Replaying.Files.{told as which}

-- ---- service ids

-- the service id of an id
pub named_real : (known : List (ℕ × Standing)) (id real : ℕ) → real_at known id ≡ Some real → named (pairs_of known) id ≡ real
named_real known id real is = named_in_pairs known id ∙ by (real_of (named_at known id)) (named_at known id) refl (sym (real_in_named known id) ∙ is)
  where
    by : (o : Option ℕ) (n : Named) → real_of n ≡ o → o ≡ Some real → real_or_zero n ≡ real
    by o Unnamed same is = absurd (cc (same, is))
    by o (Partial r done) same is = cc (same, is)
    by o (Live r) same is = cc (same, is)

-- the other way round, where it has one
pub real_named : (known : List (ℕ × Standing)) (id real : ℕ) → named (pairs_of known) id ≡ real → 0 < real → real_at known id ≡ Some real
real_named known id real is some = real_in_named known id ∙ by (named_at known id) (sym (named_in_pairs known id) ∙ is)
  where
    by : (n : Named) → real_or_zero n ≡ real → real_of n ≡ Some real
    by Unnamed same = absurd (omega (arith, some, same))
    by (Partial r done) same = ap (λ x. Some x) same
    by (Live r) same = ap (λ x. Some x) same

-- what the engine tells of a reply is told under its names
pub told_by_engine : (known : List (ℕ × Standing)) (is_new : Bool) (next : ℕ) (other told : Reply) → ((id real : ℕ) → real_at known id ≡ Some real → 1 ≤ real) → IsReplyTold known is_new next other told
    → IsToldBy (pairs_of known) is_new next other told
told_by_engine known is_new next (Ok good) (Ok told) given tells = (tells.0, tells.1, desc is_new tells.2)
  where
    desc : (c : Bool) → IsDescTold known c next good.desc told.desc → IsDescToldBy (pairs_of known) c next good.desc told.desc
    desc true is = is
    desc false (inl none) = inl none
    desc false (inr is) = inr (given told.desc good.desc is, named_real known told.desc good.desc is)
told_by_engine known is_new next (Refused code) (Refused told) given tells = tells
told_by_engine known is_new next (Ok good) (Refused told) given tells = absurd tells
told_by_engine known is_new next (Refused code) (Ok told) given tells = absurd tells

-- a descriptor that stands for an id is found
pub back_by_engine : (known : List (ℕ × Standing)) (desc : ℕ) → (desc ≡ 0) ⊎ ((id : ℕ) × (0 < desc) × (named (pairs_of known) id ≡ desc)) → (desc ≡ 0) ⊎ ((id : ℕ) × (real_at known id ≡ Some desc))
back_by_engine known desc (inl none) = inl none
back_by_engine known desc (inr some) = inr (some.0, real_named known some.0 desc some.2 some.1)

-- ---- what is told

-- how far a row is, by what stands for its id: nothing tells of one without a name, and a live one is whole
module _ (told_of : Named → Told) (untold : told_of Unnamed ≡ fresh) (lives : (real : ℕ) → told_of (Live real) ≡ complete) where
  -- what stubs tell by an engine's names
  abbrev pub stub_by : List (ℕ × Standing) → (List ℕ → Bool) → Stub
  stub_by known present = record { names = pairs_of known; told = λ id. told_of (named_at known id); present = present }

  -- the same names tell the same
  pub tell_same : (old new : List (ℕ × Standing)) (present now : List ℕ → Bool) → ((id : ℕ) → named_at new id ≡ named_at old id) → ((path : List ℕ) → now path ≡ present path)
      → TellSame (record { names = pairs_of old; told = λ id. told_of (named_at old id); present = present }) (record { names = pairs_of new; told = λ id. told_of (named_at new id); present = now })
  tell_same old new present now names files = record {
    names = λ id. named_in_pairs new id ∙ ap real_or_zero (names id) ∙ sym (named_in_pairs old id);
    told = λ id. ap told_of (names id);
    present = files;
  }

  -- so where a call makes no descriptor, serving it changes nothing that is told
  pub serve_tells_same : (old mid : List (ℕ × Standing)) (present : List ℕ → Bool) (next : ℕ) (other : Reply) → ((id : ℕ) → named_at mid id ≡ (if is_named_by false next other id then Live (real_in other) else named_at old id))
      → TellSame (record { names = pairs_of old; told = λ id. told_of (named_at old id); present = present }) (record { names = pairs_of mid; told = λ id. told_of (named_at mid id); present = present })
  serve_tells_same old mid present next other names = tell_same old mid present present (λ id. names id ∙ ap (λ t. if t then Live (real_in other) else named_at old id) (none other id)) (λ path. refl)
    where
      none : (r : Reply) (id : ℕ) → is_named_by false next r id ≡ false
      none (Ok good) id = refl
      none (Refused code) id = refl

  module _ (facts : Facts) (o : Object) (call : Call) (reply other : Reply) (patch : Option Patch) (next : ℕ) (old mid new : List (ℕ × Standing)) (present now : List ℕ → Bool)
      (same : SameReply (pairs_of old) (fun_at facts.funs call.fun).creation (Some reply) (Some other)) (makes_next : (good : Good) → reply ≡ Ok good → (fun_at facts.funs call.fun).creation ≡ true → good.desc ≡ next)
      (serves : (id : ℕ) → named_at mid id ≡ (if is_named_by (fun_at facts.funs call.fun).creation next other id then Live (real_in other) else named_at old id))
      (commits : (id : ℕ) → named_at new id ≡ name_left o.rows (after facts o call reply).rows id (named_at mid id))
      (written : (path : List ℕ) → now path ≡ (present path || is_written patch path)) (patch_is : patch ≡ patch_of facts o call reply) where
    abbrev ended : ℕ → Bool
    ended id = has_ended o.rows (after facts o call reply).rows id

    -- what it names is what it made
    made_is : (r p : Reply) → SameReply (pairs_of old) (fun_at facts.funs call.fun).creation (Some r) (Some p) → ((good : Good) → r ≡ Ok good → (fun_at facts.funs call.fun).creation ≡ true → good.desc ≡ next) → (id : ℕ)
        → is_named_by (fun_at facts.funs call.fun).creation next p id ≡ makes_id facts call r id
    made_is (Ok g) (Ok h) same makes id = at (fun_at facts.funs call.fun).creation refl
      where
        at : (c : Bool) → (fun_at facts.funs call.fun).creation ≡ c → (c && (id == next)) ≡ (c && (id == g.desc))
        at true is = ap (λ n. id == n) (sym (makes g refl is))
        at false is = refl
    made_is (Refused code) (Refused real) same makes id = refl
    made_is (Ok g) (Refused real) same makes id = absurd (apart_ok (pairs_of old) (fun_at facts.funs call.fun).creation g real same)
    made_is (Refused code) (Ok h) same makes id = absurd (apart_refused (pairs_of old) (fun_at facts.funs call.fun).creation code h same)

    real_is : (p : Reply) → real_in p ≡ desc_of p
    real_is (Ok h) = refl
    real_is (Refused code) = refl

    names_now : (id : ℕ) → named_at new id ≡ cond (ended id) Unnamed (cond (makes_id facts call reply id) (Live (desc_of other)) (named_at old id))
    names_now id =
        commits id ∙ ap (name_left o.rows (after facts o call reply).rows id) (serves id
        ∙ ap (λ t. cond t (Live (real_in other)) (named_at old id)) (made_is reply other same makes_next id) ∙ ap (λ n. cond (makes_id facts call reply id) (Live n) (named_at old id)) (real_is other))

    real_left : (a m : Bool) (real : ℕ) (n : Named) → real_or_zero (cond a Unnamed (cond m (Live real) n)) ≡ cond a 0 (cond m real (real_or_zero n))
    real_left true m real n = refl
    real_left false true real n = refl
    real_left false false real n = refl

    told_left : (a m : Bool) (real : ℕ) (n : Named) → told_of (cond a Unnamed (cond m (Live real) n)) ≡ cond a fresh (cond m complete (told_of n))
    told_left true m real n = untold
    told_left false true real n = lives real
    told_left false false real n = refl

    present_now : (path : List ℕ) → now path ≡ present_with (patch_of facts o call reply) present path
    present_now path = written path ∙ by patch ∙ ap (λ q. present_with q present path) patch_is
      where
        or_false : (t : Bool) → (t || false) ≡ t
        or_false true = refl
        or_false false = refl

        turned : (a c : List ℕ) → bytes_eq a c ≡ bytes_eq c a
        turned a c = elim (which a c) [
          | inl one ↦ elim (which c a) [
            | inl two ↦ one.0 ∙ sym two.0
            | inr apart ↦ absurd (apart.1 (sym one.1))
          ]
          | inr apart ↦ elim (which c a) [
            | inl one ↦ absurd (apart.1 (sym one.1))
            | inr two ↦ apart.0 ∙ sym two.0
          ]
        ]

        by : (q : Option Patch) → (present path || is_written q path) ≡ present_with q present path
        by None = or_false (present path)
        by (Some p) = ap (λ t. present path || t) (turned path p.key)

    -- what is told after a call that was served and committed
    pub tells_after : TellsAfter facts o call reply other (record { names = pairs_of old; told = λ id. told_of (named_at old id); present = present }) (record { names = pairs_of new; told = λ id. told_of (named_at new id); present = now })
    tells_after = record {
      names = λ id. named_in_pairs new id ∙ ap real_or_zero (names_now id) ∙ real_left (ended id) (makes_id facts call reply id) (desc_of other) (named_at old id)
          ∙ ap (λ n. cond (ended id) 0 (cond (makes_id facts call reply id) (desc_of other) n)) (sym (named_in_pairs old id));
      told = λ id. ap told_of (names_now id) ∙ told_left (ended id) (makes_id facts call reply id) (desc_of other) (named_at old id);
      present = present_now;
    }
