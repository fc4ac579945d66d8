-- The object after a served call, with and without the held replies, and how the service stands for it.
use Rattle.std.proofs.Common.{◌≡◌, ℕ, suc, ◌+◌, ◌≤◌, Bool, true, false, List, ◌∷◌, Some, length, refl, ◌∙◌, ap, subst, arith}
use Rattle.std.specs.declared.option.Option.{Option}
use Rattle.sg_facts.specs.sg_base.declared.call.Call.{Call}
use Rattle.sg_facts.specs.sg_base.declared.reply.Code.{Code}
use Rattle.sg_facts.specs.sg_base.declared.reply.Good.{Good}
use Rattle.sg_facts.specs.sg_base.declared.reply.Reply.{Reply}
use Rattle.sg_facts.specs.sg_base.declared.reply.Reply.TheVariants.{Ok, Refused}
use Rattle.sg_world_laws.specs.Committing.Serving.{IsServedCall}
use Rattle.sg_facts.specs.declared.entry.Entry.{Entry}
use Rattle.sg_facts.specs.declared.outcome.Outcome.TheVariants.{Replied}
use Rattle.sg_facts.specs.declared.outcome.Patch.{Patch}
use Rattle.sg_facts.specs.declared.trace.Item.{Item}
use Rattle.sg_facts.specs.Alike.{SameReply, named, under_names}
use Rattle.sg_facts.specs.Facts.{Facts, fun_at}
use Rattle.sg_facts.specs.Object.{Object, after, object_of, patch_of}
use Rattle.sg_facts.specs.Inside.Rows.{object_from}
use Rattle.sg_facts.specs.Sound.{IsSound}
use Rattle.sg_facts.specs.Trace.{Boot}
use Rattle.sg_facts.specs.Track.{is_live}
use Rattle.sg_facts.proofs.RowLists.{row_of_live}
use Rattle.sg_recovery_laws.specs.Midway.Progress.{IsInRecovery, Told}
use Rattle.sg_recovery_laws.specs.Midway.Stepping.{present_with, told_with}
use Rattle.sg_recovery_laws.proofs.Midway.Served.{past_held, same_patch_h, same_words, under_served}
use Rattle.sg_recovery_laws.specs.sg_hist.Reading.{service_call}
use Rattle.sg_recovery_laws.specs.sg_hist.Recovered.{IsByTable}
use Rattle.sg_recovery_laws.specs.Objects.Serving.{HasTime, IsAnsweredAt, IsLegalObject}
use Rattle.sg_recovery_laws.specs.Objects.Waiting.{AreWaiting}
use Rattle.sg_recovery_laws.proofs.Objects.Serve.{names_served}
use Rattle.sg_recovery_laws.proofs.Objects.Serves.{fewer_later}
use Rattle.sg_recovery_laws.proofs.Objects.Steady.{after_good}
use Rattle.sg_recovery_laws.proofs.Objects.Waiting.{good_later, less_time, time_after, waiting_after}
use Rattle.sg_clients.specs.WorldView.{WorldView, held_in}
use Rattle.sg_world_laws.specs.Keeping.{KeepsPromise, Stands, Stub, standing}
use Rattle.sg_world_laws.specs.Setting.{IsSetting, Setting}
use Rattle.sg_world_laws.proofs.Orders.{few_now, good_now, needs_told, time_now}

-- the names and what is told after a reply
abbrev pub names_by : Facts → List (ℕ × ℕ) → Call → Reply → Reply → List (ℕ × ℕ)
names_by facts names call (Ok good) (Ok other) = names_served facts names call good other
names_by facts names call (Ok good) (Refused code) = names
names_by facts names call (Refused code) other = names

abbrev pub told_by : Facts → Call → Reply → (ℕ → Told) → ℕ → Told
told_by facts call (Ok good) told = told_with facts call good told
told_by facts call (Refused code) told = told

-- no Ok says the same as a refusal
pub apart_ok : (names : List (ℕ × ℕ)) (c : Bool) (good : Good) (code : Code) → SameReply names c (Some (Ok good)) (Some (Refused code)) → ⊥
apart_ok names true good code s = s
apart_ok names false good code s = s

pub apart_refused : (names : List (ℕ × ℕ)) (c : Bool) (code : Code) (good : Good) → SameReply names c (Some (Refused code)) (Some (Ok good)) → ⊥
apart_refused names true code good s = s
apart_refused names false code good s = s

module _ (z : Setting) (set : IsSetting z) (w : WorldView) (b : Boot) (boots : List Boot) (v : Object) (stub : Stub) (k : KeepsPromise z (standing w b boots (Some v)) stub)
    (call : Call) (item : Item) (reply other : Reply) (patch : Option Patch) (s : IsServedCall z (standing w b boots (Some v)) stub v call item reply other patch) where
  abbrev up : Stands z (standing w b boots (Some v)) stub v
  up = k.stands

  abbrev o : Object
  o = object_of z.iface.facts w.history

  abbrev ws : List Entry
  ws = held_in (length (b ∷ boots)) w.seats

  good : IsLegalObject z.iface.facts z.sound (object_of z.iface.facts w.history)
  good = good_now z set w b boots (Some v) stub k

  time_ws : (n : ℕ) → n ≤ 2 → HasTime z.iface.facts (n + length (held_in (length (b ∷ boots)) w.seats)) (object_of z.iface.facts w.history)
  time_ws n le = time_now z set w b boots (Some v) stub k (n + length ws) (let few = few_now z set w b boots (Some v) stub k in omega (arith, few, le))

  pub answered_it : IsAnsweredAt z.iface.facts z.ask (object_of z.iface.facts w.history) call reply
  answered_it = record { passes = s.let_in.passes; answered = s.replied.answered }

  pub good_after : IsLegalObject z.iface.facts z.sound (after z.iface.facts (object_of z.iface.facts w.history) call reply)
  good_after = after_good z.iface.facts z.ask z.sound set.law o call reply good answered_it

  later_time : HasTime z.iface.facts (length (held_in (length (b ∷ boots)) w.seats)) (after z.iface.facts (object_of z.iface.facts w.history) call reply)
  later_time = time_after z.iface.facts z.ask z.sound set.law (length ws) o call reply good answered_it (less_time z.iface.facts z.ask z.sound set.law (1 + length ws) (suc (length ws)) o (omega arith) (time_ws 1 (omega arith)))

  -- the held replies could be committed after it
  pub wait_after : AreWaiting z.iface.facts z.ask (after z.iface.facts (object_of z.iface.facts w.history) call reply) (held_in (length (b ∷ boots)) w.seats)
  wait_after = waiting_after z.iface.facts z.ask z.sound set.law o call reply ws good answered_it
      (less_time z.iface.facts z.ask z.sound set.law (length ws) 0 (after z.iface.facts o call reply) (omega arith) later_time) s.let_in.none_by k.waiting

  pub good_all : IsLegalObject z.iface.facts z.sound (object_from z.iface.facts (after z.iface.facts (object_of z.iface.facts w.history) call reply) (held_in (length (b ∷ boots)) w.seats))
  good_all = good_later z.iface.facts z.ask z.sound set.law (after z.iface.facts o call reply) ws good_after later_time wait_after

  pub sound_all : IsSound z.iface.facts (object_from z.iface.facts (after z.iface.facts (object_of z.iface.facts w.history) call reply) (held_in (length (b ∷ boots)) w.seats))
  sound_all = set.law.keeps.general (object_from z.iface.facts (after z.iface.facts o call reply) ws) good_all.is_sound

  -- what is live after them all is live after the call
  pub live_all : (x : ℕ) → is_live (object_from z.iface.facts (after z.iface.facts (object_of z.iface.facts w.history) call reply) (held_in (length (b ∷ boots)) w.seats)).rows x ≡ true
      → is_live (after z.iface.facts (object_of z.iface.facts w.history) call reply).rows x ≡ true
  live_all x live =
      let found = row_of_live (object_from z.iface.facts (after z.iface.facts o call reply) ws).rows x live in
      fewer_later z.iface.facts z.ask z.sound set.law (after z.iface.facts o call reply) ws good_after later_time wait_after x found.0 found.1

  time_two : HasTime z.iface.facts (suc (suc (length (held_in (length (b ∷ boots)) w.seats)))) (object_of z.iface.facts w.history)
  time_two = less_time z.iface.facts z.ask z.sound set.law (2 + length ws) (suc (suc (length ws))) o (omega arith) (time_ws 2 (omega arith))

  -- the call may go before the held replies, or after them
  pub past : object_from z.iface.facts (after z.iface.facts (object_of z.iface.facts w.history) call reply) (held_in (length (b ∷ boots)) w.seats)
      ≡ after z.iface.facts (object_from z.iface.facts (object_of z.iface.facts w.history) (held_in (length (b ∷ boots)) w.seats)) call reply
  past = past_held z.iface z.ask z.sound z.walks stub.names stub.told stub.present o v ws set.law good k.waiting time_two up.in_recovery call s.let_in.passes s.let_in.none_by (needs_told z (standing w b boots (Some v)) stub call s.all) s.all.file reply s.replied.answered

  pub call_is : service_call item ≡ under_names stub.names call
  call_is = ap (λ n. record item.shown { desc = n }) s.replied.asked.real ∙ ap (λ (c : Call). record c { desc = named stub.names call.desc }) s.replied.asked.shown

  -- ---- the service after it

  -- its patch is that of the call at the object of the history, and it stands for the object after the call and the held replies
  pub record IsMoved (r p : Reply) : Type 0 where
    pub patch_is : patch_of z.iface.facts v (under_names stub.names call) p ≡ patch_of z.iface.facts (object_of z.iface.facts w.history) call r
    pub in_recovery : IsInRecovery z.iface z.walks (names_by z.iface.facts stub.names call r p) (told_by z.iface.facts call r stub.told) (present_with (patch_of z.iface.facts (object_of z.iface.facts w.history) call r) stub.present)
        (object_from z.iface.facts (after z.iface.facts (object_of z.iface.facts w.history) call r) (held_in (length (b ∷ boots)) w.seats)) (after z.iface.facts v (under_names stub.names call) p)

  moved_by : (r p : Reply) → z.ask o call ≡ Some r → z.ask v (under_names stub.names call) ≡ Some p → SameReply stub.names (fun_at z.iface.facts.funs call.fun).creation (Some r) (Some p) → IsMoved r p
  moved_by (Ok g) (Ok h) is is_v same =
      let words : (h.words ≡ g.words) = (same_words stub.names (fun_at z.iface.facts.funs call.fun).creation g h same).0 in
      record {
        patch_is = same_patch_h z.iface z.ask z.sound z.walks stub.names stub.told stub.present o v ws set.law good k.waiting time_two up.in_recovery call s.let_in.passes s.let_in.none_by (needs_told z (standing w b boots (Some v)) stub call s.all) s.all.file g h is is_v words;
        in_recovery = under_served z.iface z.ask z.sound z.walks stub.names stub.told stub.present o v ws set.law good k.waiting time_two up.in_recovery call s.let_in.passes s.let_in.none_by (needs_told z (standing w b boots (Some v)) stub call s.all) s.all.file g h is is_v words;
      }
  moved_by (Refused code) (Refused real_code) is is_v same = record { patch_is = refl; in_recovery = up.in_recovery }
  moved_by (Ok g) (Refused code) is is_v same = absurd (apart_ok stub.names (fun_at z.iface.facts.funs call.fun).creation g code same)
  moved_by (Refused code) (Ok h) is is_v same = absurd (apart_refused stub.names (fun_at z.iface.facts.funs call.fun).creation code h same)

  pub moved : IsMoved reply other
  moved = moved_by reply other s.replied.answered s.replied.answered_there s.replied.same

  by_table : IsByTable z.iface.facts z.ask v (under_names stub.names call) (Replied other patch)
  by_table = subst (λ x. IsByTable z.iface.facts z.ask v (under_names stub.names call) x) s.replied.outcome (subst (λ c. IsByTable z.iface.facts z.ask v c item.outcome) call_is s.replied.asked.table)

  -- the item's patch is the call's
  pub patch_it : patch ≡ patch_of z.iface.facts (object_of z.iface.facts w.history) call reply
  patch_it = by_table.1 ∙ moved.patch_is
