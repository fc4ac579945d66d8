-- A client's call that the service lets wait, or stops within: what its item owes, and what stands after it.
use Rattle.std.proofs.Common.{Bool, List, None, Some, [], ap, arith, false, length, refl, subst, suc, sym, true, ℕ, ◌&&◌, ◌||◌, ◌∙◌, ◌∷◌, ◌≡◌}
use Rattle.sg_facts.specs.sg_base.declared.call.Call.{Call}
use Rattle.sg_facts.specs.Alike.{named, under_names}
use Rattle.sg_facts.specs.Facts.{is_visible}
use Rattle.sg_facts.specs.Object.{Object, object_of}
use Rattle.sg_facts.specs.Trace.{Boot}
use Rattle.sg_facts.specs.declared.entry.Entry.{Entry}
use Rattle.sg_facts.specs.declared.outcome.Outcome.TheVariants.{Blocks}
use Rattle.sg_facts.specs.declared.trace.Item.{Item}
use Rattle.sg_recovery_laws.specs.sg_hist.Reading.{given_by, last_items, older_items, service_call}
use Rattle.sg_recovery_laws.specs.sg_hist.Inside.Reads.{after_item}
use Rattle.sg_recovery_laws.specs.sg_hist.Recovered.{IsByTable, is_clients, is_replied, is_visible_reply}
use Rattle.sg_recovery_laws.specs.sg_hist.Inside.Parts.{is_patch_at}
use Rattle.sg_recovery_laws.proofs.Midway.Served.{blocks_alike}
use Rattle.sg_clients.specs.WorldView.{WorldView, held_in, unanswered}
use Rattle.sg_world_laws.specs.Keeping.{KeepsPromise, Stands, Stub, standing}
use Rattle.sg_world_laws.specs.Setting.{IsSetting, Setting}
use Rattle.sg_world_laws.specs.Turns.{HasAll, IsAskedItem, IsLetIn}
use Rattle.sg_world_laws.proofs.Asked.{its_es, next_es, none_of}
use Rattle.sg_world_laws.proofs.Orders.{few_now, good_now, needs_told, time_now}
use Rattle.sg_world_laws.specs.Advancing.Advancing.{IsEverDue, StandsAfter}
use Rattle.sg_world_laws.proofs.Advancing.Plain.{stands_plain, waits_give_nothing}

module _ (z : Setting) (set : IsSetting z) (w : WorldView) (b : Boot) (boots : List Boot) (v : Object) (stub : Stub) (k : KeepsPromise z (standing w b boots (Some v)) stub)
    (call : Call) (let_in : IsLetIn z (standing w b boots (Some v)) call) (all : HasAll z (standing w b boots (Some v)) stub call) (item : Item) (asked : IsAskedItem z stub v call item) where
  abbrev ws : List Entry
  ws = held_in (length (b ∷ boots)) w.seats

  up : Stands z (standing w b boots (Some v)) stub v
  up = k.stands

  pub asked_due : IsEverDue z (standing w b boots (Some v)) item
  asked_due es drawn = record {
    none = none_of z set w b boots v stub k call let_in all item asked es drawn;
    next = next_es z set w b boots v stub k call let_in all item asked es drawn (unanswered (standing w b boots (Some v))) (its_es z set w b boots v stub k call let_in all item asked es drawn);
  }

  pub asked_as : service_call item ≡ under_names stub.names call
  asked_as = (let turn : ℕ → Call = λ n. record item.shown { desc = n } in ap turn asked.real) ∙ (let turn : Call → Call = λ x. record x { desc = named stub.names call.desc } in ap turn asked.shown)

  -- it is no visible reply, where the service didn't reply
  pub asked_hidden : is_replied item.outcome ≡ false → is_visible_reply z.iface.facts item ≡ false
  asked_hidden none = ap (λ t. is_clients item.tag && is_visible z.iface.facts item.shown.fun && t) none ∙ nothing (is_clients item.tag && is_visible z.iface.facts item.shown.fun)
    where
      nothing : (t : Bool) → (t && false) ≡ false
      nothing true = refl
      nothing false = refl

  module _ (waits : item.outcome ≡ Blocks) where
    -- it would wait at the object of the history
    pub waits_there : z.ask (object_of z.iface.facts w.history) call ≡ None
    waits_there =
        let few = few_now z set w b boots (Some v) stub k in
        blocks_alike z.iface z.ask z.sound z.walks stub.names stub.told stub.present (object_of z.iface.facts w.history) v ws set.law (good_now z set w b boots (Some v) stub k) k.waiting
        (time_now z set w b boots (Some v) stub k (suc (suc (length ws))) (omega (arith, few))) up.in_recovery call let_in.passes let_in.none_by
        (needs_told z (standing w b boots (Some v)) stub call all) all.file
        (ap (z.ask v) (sym asked_as) ∙ subst (IsByTable z.iface.facts z.ask v (service_call item)) waits asked.table)

    pub waits_makes : v ≡ after_item z.iface.facts v item
    waits_makes = sym (ap (given_by z.iface.facts v item.tag (service_call item)) waits ∙ ap (λ t. given_by z.iface.facts v t (service_call item) Blocks) asked.tag)

    pub waits_stands : StandsAfter z (standing w b boots (Some v)) item stub v
    waits_stands =
        stands_plain z w b boots v stub k item asked_due (waits_give_nothing z.iface.facts z.walks (older_items [] (b ∷ boots)) (last_items (b ∷ boots)) item call.client call.seq asked.tag waits)
        v stub.present (λ path. ap (λ x. stub.present path || is_patch_at path x) waits ∙ nothing (stub.present path)) up.numbers up.in_recovery
      where
        nothing : (t : Bool) → (t || false) ≡ t
        nothing true = refl
        nothing false = refl
