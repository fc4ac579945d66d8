-- What may be done with the answer of a served call: the stubs may track it, and what it wrote belongs to the file that it needs.
use Rattle.std.proofs.Common.{◌≡◌, ℕ, ◌+◌, ◌≤◌, Bool, true, false, cond, List, [], ◌∷◌, None, Some, refl, sym, ◌∙◌, ap, subst, inl, inr}
use Rattle.std.specs.Prelude.{◌==◌, ◌||◌, ◌&&◌}
use Rattle.std.specs.List.{list_any}
use Rattle.std.specs.declared.option.Option.{Option}
use Rattle.sg_facts.specs.sg_base.declared.call.Call.{Call}
use Rattle.sg_facts.specs.sg_base.declared.reply.Good.{Good}
use Rattle.sg_facts.specs.sg_base.declared.reply.Reply.{Reply}
use Rattle.sg_facts.specs.sg_base.declared.reply.Reply.TheVariants.{Ok, Refused}
use Rattle.sg_world_laws.specs.Committing.Serving.{IsServedCall}
use Rattle.sg_world_laws.proofs.Committing.Later.{answered_it, patch_it}
use Rattle.sg_facts.specs.declared.outcome.Patch.{Patch}
use Rattle.sg_facts.specs.declared.trace.Item.{Item}
use Rattle.sg_facts.specs.Facts.{Facts, fun_at, is_text_kind, is_visible, writes}
use Rattle.sg_facts.specs.Laws.{whole}
use Rattle.sg_facts.specs.Legal.{Table}
use Rattle.sg_facts.specs.Needs.{needs}
use Rattle.sg_facts.specs.Object.{Object, after, first_text, object_of, patch_of, path_of, place_of}
use Rattle.sg_facts.specs.Inside.Rows.{patch_at}
use Rattle.sg_facts.specs.Sound.{AreRows, IsRow}
use Rattle.sg_facts.specs.Trace.{Boot}
use Rattle.sg_facts.specs.Track.{is_live, row_at, rows_after}
use Rattle.sg_recovery_laws.specs.Midway.Progress.{IsNone}
use Rattle.sg_recovery_laws.specs.Objects.Serving.{IsAnsweredAt, IsLegalObject, IsService}
use Rattle.sg_recovery_laws.proofs.Objects.Steady.{after_good}
use Rattle.sg_recovery_laws.proofs.Objects.Waiting.{hidden_is}
use Rattle.sg_clients.specs.WorldView.{WorldView}
use Rattle.sg_recovery_laws.specs.sg_track.Tracked.{MayTrack, Tracked}
use Rattle.sg_recovery_laws.proofs.sg_track.Premises.{may_track}
use Rattle.sg_facts.proofs.Replaying.Found.{same_test}
use Rattle.sg_world_laws.specs.Keeping.{KeepsPromise, Stub, standing}
use Rattle.sg_world_laws.specs.Setting.{IsSetting, Setting}
use Rattle.sg_world_laws.proofs.LetIn.{desc_there}
use Rattle.sg_world_laws.proofs.Orders.{good_now}

-- a call that is answered at an object of legal histories may be tracked over its rows, where there is room for a row
pub may_track_at : (facts : Facts) (ask : Table) (sound : Object → Type 0) → IsService facts ask sound → (o : Object) (call : Call) (reply : Reply) → IsLegalObject facts sound o → IsAnsweredAt facts ask o call reply
    → (t : Tracked) → t.rows ≡ o.rows → t.given ≡ o.given → 1 ≤ t.spare → MayTrack facts t call reply
may_track_at facts ask sound law o call (Refused code) ok is t rows given room = tt
may_track_at facts ask sound law o call (Ok good) ok is t rows given room =
    let later = law.keeps.general (after facts o call (Ok good)) (after_good facts ask sound law o call (Ok good) ok is).is_sound in
    may_track facts t call good (after facts o call (Ok good)).given (after facts o call (Ok good)).rows law.shape.shape
    (subst (λ rs. AreRows (IsRow facts (after facts o call (Ok good)).rows) 0 (after facts o call (Ok good)).given (rows_after facts rs call good)) (sym rows) later.rows)
    (λ makes. record {
      room = room;
      parent = λ takes. parent (desc_there (whole facts) o call is.passes.is_call law.shape.shape is.passes.guarded);
      next = law.keeps.next o call good is.answered makes ∙ ap (λ n. n + 1) (sym given);
    })
  where
    or_true : (a : Bool) → (a || true) ≡ true
    or_true true = refl
    or_true false = refl

    parent : IsNone o.rows call.desc → ((call.desc == 0) || is_live t.rows call.desc) ≡ true
    parent (inl none) = ap (λ a. a || is_live t.rows call.desc) (same_test call.desc 0 none)
    parent (inr live) = ap (λ a. (call.desc == 0) || a) (ap (λ rs. is_live rs call.desc) rows ∙ live) ∙ or_true (call.desc == 0)

module _ (z : Setting) (set : IsSetting z) (w : WorldView) (b : Boot) (boots : List Boot) (v : Object) (stub : Stub) (k : KeepsPromise z (standing w b boots (Some v)) stub)
    (call : Call) (item : Item) (reply other : Reply) (patch : Option Patch) (s : IsServedCall z (standing w b boots (Some v)) stub v call item reply other patch) where
  abbrev facts : Facts
  facts = z.iface.facts

  abbrev o : Object
  o = object_of z.iface.facts w.history

  -- the stubs may track it
  pub may_track_it : (t : Tracked) → t.rows ≡ (object_of z.iface.facts w.history).rows → t.given ≡ (object_of z.iface.facts w.history).given → 1 ≤ t.spare → MayTrack z.iface.facts t call reply
  may_track_it = may_track_at facts z.ask z.sound set.law o call reply (good_now z set w b boots (Some v) stub k) (answered_it z set w b boots v stub k call item reply other patch s)

  -- what it made has the next id
  pub makes_next : (good : Good) → reply ≡ Ok good → (fun_at z.iface.facts.funs call.fun).creation ≡ true → good.desc ≡ (object_of z.iface.facts w.history).given + 1
  makes_next good is makes = set.law.keeps.next o call good (s.replied.answered ∙ ap (λ r. Some r) is) makes

  -- one that isn't visible wrote nothing
  pub hidden_writes_none : is_visible z.iface.facts call.fun ≡ false → patch ≡ None
  hidden_writes_none hidden = patch_it z set w b boots v stub k call item reply other patch s ∙ no_file reply
    where
      no_file : (r : Reply) → patch_of facts o call r ≡ None
      no_file (Refused code) = refl
      no_file (Ok g) = let none = (hidden_is facts call.fun hidden).no_file in rw (none) refl

  -- what it wrote belongs to the file that it needs
  pub writes_needed : (p : Patch) → patch ≡ Some p → (needs z.iface.facts (object_of z.iface.facts w.history) call).file ≡ Some p.key
  writes_needed p is = by reply (sym (patch_it z set w b boots v stub k call item reply other patch s) ∙ is)
    where
      key : (path : List ℕ) (from : ℕ) (bytes : List ℕ) → patch_at path from bytes ≡ Some p → path ≡ p.key
      key path from [] it = absurd (cc it)
      key path from (x ∷ bytes) it = let one : (let y : Patch = record { key = path; from = from; bytes = x ∷ bytes } in y) ≡ p = cc it in ap (λ y. y.key) one

      uses : (u t : Bool) → (u && t) ≡ true → u ≡ true
      uses true t it = refl
      uses false t it = absurd (cc it)

      at : (t : Bool) → writes (fun_at facts.funs call.fun) ≡ t
          → cond t (patch_at (path_of o.rows call.desc) (place_of (fun_at facts.funs call.fun) (row_at o.rows call.desc)) (first_text call.args)) None ≡ Some p
          → cond (fun_at facts.funs call.fun).uses_file (Some (path_of o.rows call.desc)) None ≡ Some p.key
      at false writes_it it = absurd (cc it)
      at true writes_it it =
          ap (λ u. cond u (Some (path_of o.rows call.desc)) None) (uses (fun_at facts.funs call.fun).uses_file (list_any is_text_kind (fun_at facts.funs call.fun).kinds) writes_it)
          ∙ ap (λ l. Some l) (key (path_of o.rows call.desc) (place_of (fun_at facts.funs call.fun) (row_at o.rows call.desc)) (first_text call.args) it)

      by : (r : Reply) → patch_of facts o call r ≡ Some p → cond (fun_at facts.funs call.fun).uses_file (Some (path_of o.rows call.desc)) None ≡ Some p.key
      by (Refused code) it = absurd (cc it)
      by (Ok g) it = at (writes (fun_at facts.funs call.fun)) refl it
