-- The counted words of the object after the held replies: its calls are a legal history.
use Rattle.std.proofs.Common.{List, None, Option, ap, arith, length, length-append, ◌++◌, ◌+◌, ◌≡◌, ◌≤◌}
use Rattle.sg_facts.specs.Counted.{most_counted}
use Rattle.sg_facts.specs.Guard.{guard}
use Rattle.sg_facts.specs.Laws.{slow}
use Rattle.sg_facts.specs.Object.{Object, empty_object, object_of}
use Rattle.sg_facts.specs.Inside.Rows.{object_from}
use Rattle.sg_facts.specs.Trace.{Boot}
use Rattle.sg_facts.specs.declared.entry.Entry.{Entry}
use Rattle.sg_recovery_laws.proofs.Lists.{each_append, each_map}
use Rattle.sg_recovery_laws.specs.LastItem.Asked.{IsComeTo}
use Rattle.sg_recovery_laws.specs.sg_hist.Clients.{IsClientsCall, MayBeMade}
use Rattle.sg_recovery_laws.proofs.LastItem.Sound.{come_to}
use Rattle.sg_clients.specs.WorldView.{WorldView, held_replies}
use Rattle.sg_world_laws.specs.Keeping.{KeepsPromise, MayEnter, Stub, standing}
use Rattle.sg_world_laws.specs.Setting.{IsSetting, Setting}
use Rattle.sg_world_laws.proofs.Drawn.{object_after}
use Rattle.sg_world_laws.proofs.Orders.{far_now, few_now, good_now, legal_append, legal_held, time_now}

module _ (z : Setting) (set : IsSetting z) (w : WorldView) (b : Boot) (boots : List Boot) (running : Option Object) (stub : Stub) (k : KeepsPromise z (standing w b boots running) stub) where
  abbrev o : Object
  o = object_of z.iface.facts w.history

  abbrev ws : List Entry
  ws = held_replies (standing w b boots running)

  come : IsComeTo z.iface.facts z.sound (length (w.history ++ held_replies (standing w b boots running))) (object_of z.iface.facts (w.history ++ held_replies (standing w b boots running)))
  come =
      let few = few_now z set w b boots running stub k in
      let far = far_now z set w b boots running stub k in
      let n : length (w.history ++ ws) ≡ length w.history + length ws = length-append w.history ws in
      let may = each_append (λ e. MayBeMade z.iface e.call) w.history ws k.calls (each_map (MayEnter z w.history) (λ e. MayBeMade z.iface e.call) ws (λ e enters. enters.may) k.enter) in
      let lets = each_map (MayEnter z w.history) (λ e. guard z.iface o e.call ≡ None) ws (λ e enters. enters.guarded) k.enter in
      come_to z.iface z.ask z.sound set.fits set.law.keeps set.law.counts (w.history ++ ws) (omega (arith, n, few, far))
      (each_map (λ e. MayBeMade z.iface e.call) (λ e. IsClientsCall z.iface.facts e.call) (w.history ++ ws) (λ e m. m.is_clients) may)
      (legal_append z.iface z.ask empty_object w.history ws k.legal (legal_held z set o ws (good_now z set w b boots running stub k) (time_now z set w b boots running stub k (length ws) (omega (arith, few))) k.waiting lets))

  pub counted_after : most_counted z.iface.facts (object_from z.iface.facts (object_of z.iface.facts w.history) (held_replies (standing w b boots running))).rows ≤ slow + length w.history + 128
  counted_after =
      let few = few_now z set w b boots running stub k in
      let n : length (w.history ++ ws) ≡ length w.history + length ws = length-append w.history ws in
      let same : most_counted z.iface.facts (object_of z.iface.facts (w.history ++ ws)).rows ≡ most_counted z.iface.facts (object_from z.iface.facts o ws).rows
      = ap (λ x. most_counted z.iface.facts x.rows) (object_after z.iface.facts empty_object w.history ws) in
      let most = come.counted in
      omega (arith, few, n, same, most)
