-- A call that is let in is admitted where an item is noted that is of no entry, whichever held replies are committed first.
use Rattle.std.proofs.Common.{List, None, Some, [], arith, length, true, ◌++◌, ◌<◌, ◌==◌, ◌∷◌, ◌≡◌}
use Rattle.std.proofs.lemmas.Bool.Decides.{nat_tests}
use Rattle.sg_facts.specs.sg_base.Lists.{Each}
use Rattle.sg_facts.specs.sg_base.declared.call.Call.{Call}
use Rattle.sg_facts.specs.Guard.{guard}
use Rattle.sg_facts.specs.Object.{Object, object_of}
use Rattle.sg_facts.specs.Inside.Rows.{object_from}
use Rattle.sg_facts.specs.Trace.{Boot}
use Rattle.sg_facts.specs.declared.entry.Entry.{Entry}
use Rattle.sg_facts.specs.declared.trace.Item.{Item}
use Rattle.sg_recovery_laws.specs.sg_hist.Recovered.{IsAdmitted}
use Rattle.sg_recovery_laws.specs.sg_hist.Growing.{IsOfNoEntry}
use Rattle.sg_recovery_laws.specs.sg_hist.Reading.{last_items, older_items, stands_before}
use Rattle.sg_recovery_laws.proofs.Lists.{each_map}
use Rattle.sg_recovery_laws.proofs.Objects.Apart.{Ascends}
use Rattle.sg_recovery_laws.proofs.Objects.Room.{guard_after}
use Rattle.sg_recovery_laws.proofs.Objects.Steady.{ascends}
use Rattle.sg_recovery_laws.specs.LastItem.LastPlace.{last_place}
use Rattle.sg_recovery_laws.specs.LastItem.Told.{IsKnown}
use Rattle.sg_recovery_laws.proofs.LastItem.Noting.{admitted_last}
use Rattle.sg_clients.specs.WorldView.{WorldView, held_in, unanswered}
use Rattle.sg_world_laws.specs.Keeping.{AreDrawn, KeepsPromise, Stub, standing}
use Rattle.sg_world_laws.specs.Setting.{IsSetting, Setting}
use Rattle.sg_world_laws.specs.Turns.{IsLetIn}
use Rattle.sg_world_laws.proofs.Orders.{above_es, call_es, good_now, known_es, none_es, time_es, wait_es}

module _ (z : Setting) (set : IsSetting z) (w : WorldView) (b : Boot) (boots : List Boot) (v : Object) (stub : Stub) (k : KeepsPromise z (standing w b boots (Some v)) stub)
    (call : Call) (let_in : IsLetIn z (standing w b boots (Some v)) call) (item : Item) (es : List Entry) (drawn : AreDrawn (held_in (length (b ∷ boots)) w.seats) es) (none : IsOfNoEntry item (w.history ++ es)) where
  pub known_item : IsKnown z.iface.facts z.walks (w.history ++ es) (older_items [] (b ∷ boots)) (last_items (b ∷ boots)) item stub.names stub.told stub.present (object_from z.iface.facts (object_of z.iface.facts w.history) es)
  known_item = known_es z set w b boots v stub k es drawn item none

  pub ascends_es : Ascends 0 (object_from z.iface.facts (object_of z.iface.facts w.history) es).given (object_from z.iface.facts (object_of z.iface.facts w.history) es).rows
  ascends_es = ascends z.iface.facts (object_from z.iface.facts (object_of z.iface.facts w.history) es) known_item.sound

  -- no earlier call of its client has a greater number
  pub seqs_es : Each (λ e. (e.call.client == call.client) ≡ true → e.call.seq < call.seq) (w.history ++ es)
  seqs_es =
      each_map (λ e. e.call.client ≡ call.client → e.call.seq < call.seq) (λ e. (e.call.client == call.client) ≡ true → e.call.seq < call.seq) (w.history ++ es) (λ e so test. so (grind (arith, nat_tests, test)))
      (above_es z set w b boots (Some v) stub k es drawn call let_in)

  -- the guard lets it pass there
  pub lets_es : guard z.iface (object_from z.iface.facts (object_of z.iface.facts w.history) es) call ≡ None
  lets_es =
      guard_after z.iface z.ask z.sound set.law (object_of z.iface.facts w.history) es call (good_now z set w b boots (Some v) stub k) (time_es z set w b boots (Some v) stub k es drawn)
      (wait_es z set w b boots (Some v) stub k es drawn) (none_es z set w b boots (Some v) stub k es drawn call let_in) let_in.passes.is_call.first let_in.passes.is_call.last let_in.guarded

  pub admitted_es : IsAdmitted z.iface (w.history ++ es) (unanswered (standing w b boots (Some v))) (stands_before (last_place (older_items [] (b ∷ boots)) (last_items (b ∷ boots)) item)) call.client call
  admitted_es =
      admitted_last z.iface z.walks (w.history ++ es) (unanswered (standing w b boots (Some v))) (older_items [] (b ∷ boots)) (last_items (b ∷ boots)) item stub.names stub.told stub.present
      (object_from z.iface.facts (object_of z.iface.facts w.history) es) known_item.object known_item.sound ascends_es none known_item.items known_item.read call.client call
      (call_es z set w b boots (Some v) stub k es drawn call let_in) seqs_es lets_es
