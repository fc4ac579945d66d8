-- A world keeps what it keeps where only the number of its points changes.
use Rattle.std.proofs.Common.{List, None, Option, Some, ℕ, ◌++◌}
use Rattle.sg_facts.specs.sg_base.declared.call.Call.{Call}
use Rattle.sg_facts.specs.Object.{Object}
use Rattle.sg_facts.specs.declared.entry.Entry.{Entry}
use Rattle.sg_recovery_laws.proofs.Lists.{each_map}
use Rattle.sg_recovery_laws.specs.sg_hist.Growing.{IsInLast, IsRecovering}
use Rattle.sg_clients.specs.WorldView.{WorldView, held_replies, unanswered, with_points}
use Rattle.sg_world_laws.specs.Keeping.{KeepsPromise, Stands, StandsIn, Stub}
use Rattle.sg_world_laws.specs.Setting.{Setting, stubs_of}

module _ (z : Setting) (w : WorldView) (stub : Stub) (n : ℕ) where
  stands_counted : (v : Object) → Stands z w stub v → Stands z (with_points w n) stub v
  stands_counted v up = record { numbers = up.numbers; named_live = up.named_live; in_recovery = up.in_recovery; read = up.read; unnamed = up.unnamed; rebuilt = up.rebuilt }

  stands_in_counted : (running : Option Object) → StandsIn z w stub running → StandsIn z (with_points w n) stub running
  stands_in_counted None stands = tt
  stands_in_counted (Some v) stands = stands_counted v stands

  recovering_counted : (h : List Entry) (u : List Call) → IsRecovering (stubs_of z) h w.run u → IsRecovering (stubs_of z) h (record { boots = w.run.boots; points = n }) u
  recovering_counted h u r = record {
    reboots = record { booted = r.reboots.booted; table = r.reboots.table; stopped = r.reboots.stopped; last = r.reboots.last };
    served = record { calls = r.served.calls; items = r.served.items; committed = r.served.committed; order = r.served.order };
    walks = r.walks;
    on_demand = r.on_demand;
    tracked_state = r.tracked_state;
  }

  pub with_points_keeps : KeepsPromise z w stub → KeepsPromise z (with_points w n) stub
  with_points_keeps k = record {
    legal = k.legal;
    calls = k.calls;
    object = k.object;
    seats = k.seats;
    waiting = k.waiting;
    enter = k.enter;
    items = k.items;
    held_items = each_map (IsInLast w.run) (IsInLast (record { boots = w.run.boots; points = n })) (held_replies w) (λ e is. record { place = is.place; its = is.its; older = is.older }) k.held_items;
    recovering = λ es drawn. recovering_counted (w.history ++ es) (unanswered w) (k.recovering es drawn);
    cell = k.cell;
    stands = stands_in_counted w.running k.stands;
  }
