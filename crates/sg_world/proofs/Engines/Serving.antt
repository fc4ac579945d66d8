-- An engine may serve a call that is let in and finds what it needs, and what it tells is the answer at the object of the history.
use Rattle.std.proofs.Common.{◌≡◌, ℕ, ◌+◌, ◌≤◌, Bool, List, Some, refl, ap, subst, arith}
use Rattle.std.specs.declared.option.Option.{Option}
use Rattle.sg_facts.specs.sg_base.declared.call.Call.{Call}
use Rattle.sg_facts.specs.sg_base.declared.reply.Reply.{Reply}
use Rattle.sg_replay.specs.sg_boot.Invoking.{item_of_call}
use Rattle.sg_world_laws.specs.Committing.Serving.{IsServedCall}
use Rattle.sg_world_laws.specs.Committing.Telling.{IsToldBy}
use Rattle.sg_world_laws.proofs.Committing.Serving.{back_there, may_ask, next_there, replied_item}
use Rattle.sg_world.proofs.Engines.Looking.{back_by_engine, told_by_engine}
use Rattle.sg_facts.specs.declared.outcome.Outcome.TheVariants.{Replied}
use Rattle.sg_facts.specs.declared.outcome.Patch.{Patch}
use Rattle.sg_facts.specs.declared.trace.Tag.TheVariants.{Client}
use Rattle.sg_facts.specs.Facts.{fun_at}
use Rattle.sg_facts.specs.Invoke.{Points}
use Rattle.sg_facts.specs.Object.{Object, object_of}
use Rattle.sg_facts.specs.Trace.{Boot}
use Rattle.sg_world_laws.specs.sg_recovery_laws.Midway.Progress.{Told}
use Rattle.sg_replay.specs.Engined.{AreGiven, Engined}
use Rattle.sg_replay.specs.Serving.{MayServe, TellsReply, pairs_of, real_call}
use Rattle.sg_clients.specs.WorldView.{WorldView}
use Rattle.sg_world_laws.specs.Keeping.{KeepsPromise, Stub, standing}
use Rattle.sg_world_laws.specs.Setting.{IsSetting, Setting}
use Rattle.sg_world_laws.specs.Turns.{HasAll, IsLetIn}
use Rattle.sg_world_laws.proofs.Orders.{far_now}

module _ (z : Setting) (set : IsSetting z) (w : WorldView) (b : Boot) (boots : List Boot) (v : Object) (e : Engined) (told : ℕ → Told) (present : List ℕ → Bool)
    (k : KeepsPromise z (standing w b boots (Some v)) (record { names = pairs_of e.names.known; told = told; present = present })) (call : Call) (let_in : IsLetIn z (standing w b boots (Some v)) call)
    (all : HasAll z (standing w b boots (Some v)) (record { names = pairs_of e.names.known; told = told; present = present }) call) (given : e.tracked.given ≡ (object_of z.iface.facts w.history).given) where
  abbrev stub : Stub
  stub = record { names = pairs_of e.names.known; told = told; present = present }

  -- it may serve the call
  pub may_serve : e.cell.running ≡ Some v → 1 ≤ e.cell.room → 1 ≤ e.names.spare
      → MayServe z.iface.facts z.ask e call
  may_serve up room name_room = record {
    held = v;
    up = up;
    may = may_ask z set w b boots v stub k call let_in all;
    room = room;
    name_room = name_room;
    ids = let far = far_now z set w b boots (Some v) stub k in let most = k.object.given in omega (arith, far, most, given);
    next = next_there z set w b boots v stub k call let_in all;
    back = λ good is makes. back_by_engine e.names.known good.desc (back_there z set w b boots v stub k call let_in all good is makes);
  }

  -- and where it replied, the call is served
  pub served : AreGiven (Some v) e.names.known → (points later : Points) (reply : Reply) (patch : Option Patch) (new : Engined) → (t : TellsReply z.iface.facts z.ask z.parts v e call points reply patch new later)
      → IsServedCall z (standing w b boots (Some v)) (record { names = pairs_of e.names.known; told = told; present = present }) v call
      (item_of_call (Client call.client call.seq) call (real_call e call).desc later.asked (Replied t.reply patch)) reply t.reply patch
  served ids points later reply patch new t = record {
    let_in = let_in;
    all = all;
    replied = replied_item z set w b boots v stub k call let_in all (item_of_call (Client call.client call.seq) call (real_call e call).desc later.asked (Replied t.reply patch)) reply t.reply patch
        refl refl refl refl t.notes.answers.answered t.notes.answers.written
        (subst (λ n. IsToldBy (pairs_of e.names.known) (fun_at z.iface.facts.funs call.fun).creation n t.reply reply) (ap (λ n. n + 1) given)
        (told_by_engine e.names.known (fun_at z.iface.facts.funs call.fun).creation (e.tracked.given + 1) t.reply reply (λ id real is. (ids id real is).0) t.tells));
  }
