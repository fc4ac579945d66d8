-- The world keeps what it keeps where its seats, its withdrawn calls and its marks change, and nothing of a held reply: an offer, a reply
-- that is handed over, a reply that was lost, a withdrawal, and a client that leaves.
use Rattle.std.proofs.Common.{None, Option, Some, ap, length, refl, subst, sym, ◌++◌, ◌∙◌, ◌≡◌}
use Rattle.std.specs.List.{Contains}
use Rattle.sg_facts.specs.sg_base.Lists.{Each}
use Rattle.sg_facts.specs.sg_base.declared.call.Call.{Call}
use Rattle.sg_facts.specs.Object.{Object, object_of}
use Rattle.sg_facts.specs.Inside.Rows.{object_from}
use Rattle.sg_recovery_laws.specs.Midway.Numbers.{AreNumbers}
use Rattle.sg_recovery_laws.specs.Midway.Progress.{IsInRecovery}
use Rattle.sg_recovery_laws.specs.Objects.Waiting.{AreWaiting}
use Rattle.sg_recovery_laws.proofs.Onward.{made_stays}
use Rattle.sg_recovery_laws.specs.sg_hist.Growing.{IsInLast}
use Rattle.sg_clients.specs.WorldView.{WorldView, held_replies, unanswered}
use Rattle.sg_facts.proofs.Replaying.Above.{up}
use Rattle.sg_world_laws.proofs.Entering.{kept_all}
use Rattle.sg_world_laws.specs.Keeping.{AreDrawn, KeepsPromise, MayEnter, StandsIn, Stub}
use Rattle.sg_world_laws.specs.Seats.{HaveSeats}
use Rattle.sg_world_laws.specs.Setting.{Setting, stubs_of}

module _ (z : Setting) (w w' : WorldView) (stub : Stub) (history : w'.history ≡ w.history) (run : w'.run ≡ w.run) (running : w'.running ≡ w.running) (held : held_replies w' ≡ held_replies w)
    (seats : HaveSeats z w.history w'.withdrawn (length w.run.boots) w'.seats) (kept : (x : Call) → Contains (unanswered w) x → Contains (unanswered w') x) where
  -- the later world, spelt out by the earlier one
  abbrev later : WorldView
  later = record w' { history = w.history; run = w.run; running = w.running }

  same : w' ≡ later
  same =
      subst (λ h. w' ≡ record w' { history = h; run = w.run; running = w.running }) history
      (subst (λ r. w' ≡ record w' { run = r; running = w.running }) run (subst (λ s. w' ≡ record w' { running = s }) running refl))

  held_later : held_replies later ≡ held_replies w
  held_later = ap held_replies (sym same) ∙ held

  unanswered_later : unanswered later ≡ unanswered w'
  unanswered_later = refl

  stands_on : (r : Option Object) → StandsIn z (record w { running = r }) stub r → held_replies (record later { running = r }) ≡ held_replies (record w { running = r }) → StandsIn z (record later { running = r }) stub r
  stands_on None stands is = tt
  stands_on (Some v) up is = record {
    numbers = subst (λ l. AreNumbers z.iface.facts stub.told (length w.history) (object_from z.iface.facts (object_of z.iface.facts w.history) l) v) (sym is) up.numbers;
    named_live = up.named_live;
    in_recovery = subst (λ l. IsInRecovery z.iface z.walks stub.names stub.told stub.present (object_from z.iface.facts (object_of z.iface.facts w.history) l) v) (sym is) up.in_recovery;
    read = λ es drawn. up.read es (subst (λ l. AreDrawn l es) is drawn);
    unnamed = λ es drawn. up.unnamed es (subst (λ l. AreDrawn l es) is drawn);
    rebuilt = λ eager some. up.rebuilt eager (λ none. some (is ∙ none));
  }

  pub reseated : KeepsPromise z w stub → KeepsPromise z w' stub
  reseated k = subst (λ x. KeepsPromise z x stub) (sym same) (record {
    legal = k.legal;
    calls = k.calls;
    object = k.object;
    seats = seats;
    waiting = subst (AreWaiting z.iface.facts z.ask (object_of z.iface.facts w.history)) (sym held_later) k.waiting;
    enter = subst (Each (MayEnter z w.history)) (sym held_later) k.enter;
    items = k.items;
    held_items = subst (Each (IsInLast w.run)) (sym held_later) k.held_items;
    recovering = λ es drawn. made_stays (stubs_of z) (w.history ++ es) w.run (unanswered w) (unanswered later) (kept_all (w.history ++ es) (unanswered w) (unanswered later) kept)
        (k.recovering es (subst (λ l. AreDrawn l es) held_later drawn));
    cell = k.cell;
    stands = stands_on w.running k.stands held_later;
  })
