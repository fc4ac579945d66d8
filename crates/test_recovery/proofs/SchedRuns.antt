-- The runs of the sched service, computed.
use Rattle.std.proofs.Common.{arith, inr, refl, true}
use Rattle.test_histories.specs.sg_facts.sg_base.Lists.{Each}
use Rattle.test_recovery.specs.SchedRuns.{sched_stubs, ranks_kept, ranks_kept_ends, ranks_kept_history, one_walk_two_clients, one_walk_two_clients_ends, one_walk_two_clients_history}
use Rattle.sg_recovery_laws.specs.sg_hist.Reading.{places_of}
use Rattle.sg_recovery_laws.specs.sg_hist.Recovered.{ArePointsOf, IsRebooted, IsRecovered, IsServed, waiting}
use Rattle.sg_recovery_laws.specs.sg_hist.Inside.Parts.{IsDemanded, IsTrackedAt, IsWalked}
use Rattle.test_recovery.specs.Written.{bare_call}

ranks_kept-reboots : IsRebooted sched_stubs.interface.facts sched_stubs.ask ranks_kept
ranks_kept-reboots = record {
  booted = λ is. absurd (cc is);
  table = ((refl, refl), ((refl, refl), ((refl, refl), ((refl, refl), ((refl, refl), ((refl, refl), ((refl, refl), ((refl, refl), ((refl, refl), ((refl, refl), tt))))))))));
  stopped = (refl, tt);
  last = (tt, (tt, (tt, (tt, (tt, (tt, (tt, (tt, (tt, (tt, tt))))))))));
}

ranks_kept-served : IsServed sched_stubs.interface.facts ranks_kept_history ranks_kept (waiting ranks_kept_ends)
ranks_kept-served = record {
  calls = ((record { its = refl; made = (0, omega arith, refl) }, refl), ((record { its = refl; made = (1, omega arith, refl) }, refl), ((record { its = refl; made = (2, omega arith, refl) }, refl), ((record { its = refl; made = (3, omega arith, refl) }, refl), ((record { its = refl; made = (4, omega arith, refl) }, refl), (tt, (tt, (tt, (tt, ((record { its = refl; made = (5, omega arith, refl) }, refl), tt))))))))));
  items = ((refl, (refl, refl, refl)), ((refl, (refl, refl, refl)), ((refl, (refl, refl, refl)), ((refl, (refl, refl, refl)), ((refl, (refl, refl, refl)), ((refl, (refl, refl, refl)), tt))))));
  committed = (refl, (refl, (refl, (refl, (refl, (tt, (tt, (tt, (tt, (refl, tt))))))))));
  order = (refl, (refl, (refl, (refl, (refl, (refl, tt))))));
}

ranks_kept-walks : Each (λ p. IsWalked sched_stubs.interface.facts sched_stubs.walks ranks_kept_history p p.item.tag) (places_of ranks_kept)
ranks_kept-walks = (tt, (tt, (tt, (tt, (tt, (record { unmade = refl; next = refl; parent = refl; call = refl; real = refl; outcome = tt }, (record { unmade = refl; next = refl; parent = refl; call = refl; real = refl; outcome = tt }, (record { unmade = refl; next = refl; parent = refl; call = refl; real = refl; outcome = tt }, (record { unmade = refl; next = refl; parent = refl; call = refl; real = refl; outcome = tt }, (tt, tt))))))))))

ranks_kept-demanded : Each (λ p. IsDemanded sched_stubs.interface sched_stubs.walks ranks_kept_history (waiting ranks_kept_ends) p p.item.tag) (places_of ranks_kept)
ranks_kept-demanded = (record { under_way = record { its = record { its = refl; made = (0, omega arith, refl) }; above = refl; first = refl }; guarded = refl }, (record { under_way = record { its = record { its = refl; made = (1, omega arith, refl) }; above = refl; first = refl }; guarded = refl }, (record { under_way = record { its = record { its = refl; made = (2, omega arith, refl) }; above = refl; first = refl }; guarded = refl }, (record { under_way = record { its = record { its = refl; made = (3, omega arith, refl) }; above = refl; first = refl }; guarded = refl }, (record { under_way = record { its = record { its = refl; made = (4, omega arith, refl) }; above = refl; first = refl }; guarded = refl }, (record { call = bare_call 1 6 6 0; admitted = record { under_way = record { its = record { its = refl; made = (5, omega arith, refl) }; above = refl; first = refl }; guarded = refl }; least = refl }, (record { call = bare_call 1 6 6 0; admitted = record { under_way = record { its = record { its = refl; made = (5, omega arith, refl) }; above = refl; first = refl }; guarded = refl }; least = refl }, (record { call = bare_call 1 6 6 0; admitted = record { under_way = record { its = record { its = refl; made = (5, omega arith, refl) }; above = refl; first = refl }; guarded = refl }; least = refl }, (record { call = bare_call 1 6 6 0; admitted = record { under_way = record { its = record { its = refl; made = (5, omega arith, refl) }; above = refl; first = refl }; guarded = refl }; least = refl }, (record { under_way = record { its = record { its = refl; made = (5, omega arith, refl) }; above = refl; first = refl }; guarded = refl }, tt))))))))))

ranks_kept-tracked : Each (λ p. IsTrackedAt sched_stubs.interface sched_stubs.walks ranks_kept_history p p.item.tag) (places_of ranks_kept)
ranks_kept-tracked = (record { whole = refl; rows = tt; real = refl; file = tt }, (record { whole = refl; rows = (record { id = refl; made = refl; parent = refl; state = refl; fields = refl }, tt); real = refl; file = tt }, (record { whole = refl; rows = (record { id = refl; made = refl; parent = refl; state = refl; fields = refl }, (record { id = refl; made = refl; parent = refl; state = refl; fields = refl }, tt)); real = refl; file = tt }, (record { whole = refl; rows = (record { id = refl; made = refl; parent = refl; state = refl; fields = refl }, tt); real = refl; file = tt }, (record { whole = refl; rows = (record { id = refl; made = refl; parent = refl; state = refl; fields = refl }, (record { id = refl; made = refl; parent = refl; state = refl; fields = refl }, tt)); real = refl; file = tt }, (tt, (tt, (tt, (tt, (record { whole = refl; rows = (record { id = refl; made = refl; parent = refl; state = refl; fields = refl }, (record { id = refl; made = refl; parent = refl; state = refl; fields = refl }, tt)); real = refl; file = tt }, tt))))))))))

ranks_kept-points : ArePointsOf true sched_stubs.interface.facts sched_stubs.ask sched_stubs.parts 0 ranks_kept.boots ranks_kept.points
ranks_kept-points = ((refl, (refl, (refl, (refl, (refl, tt))))), inr (refl, refl), ((refl, (refl, (refl, (refl, (refl, tt))))), refl, refl))

pub ranks_kept-recovered : IsRecovered sched_stubs ranks_kept_history ranks_kept (waiting ranks_kept_ends)
ranks_kept-recovered = record {
  reboots = ranks_kept-reboots;
  served = ranks_kept-served;
  walks = ranks_kept-walks;
  on_demand = ranks_kept-demanded;
  tracked_state = ranks_kept-tracked;
  points = ranks_kept-points;
  held = (omega arith, (omega arith, (omega arith, (omega arith, (omega arith, (omega arith, tt))))));
}

one_walk_two_clients-reboots : IsRebooted sched_stubs.interface.facts sched_stubs.ask one_walk_two_clients
one_walk_two_clients-reboots = record {
  booted = λ is. absurd (cc is);
  table = ((refl, refl), ((refl, refl), (refl, ((refl, refl), ((refl, refl), ((refl, refl), ((refl, refl), ((refl, refl), tt))))))));
  stopped = (refl, tt);
  last = (tt, (tt, (tt, (tt, (tt, (tt, (tt, (tt, tt))))))));
}

one_walk_two_clients-served : IsServed sched_stubs.interface.facts one_walk_two_clients_history one_walk_two_clients (waiting one_walk_two_clients_ends)
one_walk_two_clients-served = record {
  calls = ((record { its = refl; made = (0, omega arith, refl) }, refl), ((record { its = refl; made = (1, omega arith, refl) }, refl), ((record { its = refl; made = (3, omega arith, refl) }, refl), (tt, (tt, (tt, ((record { its = refl; made = (2, omega arith, refl) }, refl), ((record { its = refl; made = (3, omega arith, refl) }, refl), tt))))))));
  items = ((refl, (refl, refl, refl)), ((refl, (refl, refl, refl)), ((refl, (refl, refl, refl)), ((refl, (refl, refl, refl)), tt))));
  committed = (refl, (refl, (tt, (tt, (tt, (tt, (refl, (refl, tt))))))));
  order = (refl, (refl, (refl, (refl, tt))));
}

one_walk_two_clients-walks : Each (λ p. IsWalked sched_stubs.interface.facts sched_stubs.walks one_walk_two_clients_history p p.item.tag) (places_of one_walk_two_clients)
one_walk_two_clients-walks = (tt, (tt, (tt, (record { unmade = refl; next = refl; parent = refl; call = refl; real = refl; outcome = tt }, (record { unmade = refl; next = refl; parent = refl; call = refl; real = refl; outcome = tt }, (record { unmade = refl; next = refl; parent = refl; call = refl; real = refl; outcome = tt }, (tt, (tt, tt))))))))

one_walk_two_clients-demanded : Each (λ p. IsDemanded sched_stubs.interface sched_stubs.walks one_walk_two_clients_history (waiting one_walk_two_clients_ends) p p.item.tag) (places_of one_walk_two_clients)
one_walk_two_clients-demanded = (record { under_way = record { its = record { its = refl; made = (0, omega arith, refl) }; above = refl; first = refl }; guarded = refl }, (record { under_way = record { its = record { its = refl; made = (1, omega arith, refl) }; above = refl; first = refl }; guarded = refl }, (record { under_way = record { its = record { its = refl; made = (3, omega arith, refl) }; above = refl; first = refl }; guarded = refl }, (record { call = bare_call 1 3 5 1; admitted = record { under_way = record { its = record { its = refl; made = (3, omega arith, refl) }; above = refl; first = refl }; guarded = refl }; least = refl }, (record { call = bare_call 2 1 4 1; admitted = record { under_way = record { its = record { its = refl; made = (2, omega arith, refl) }; above = refl; first = refl }; guarded = refl }; least = refl }, (record { call = bare_call 1 3 5 1; admitted = record { under_way = record { its = record { its = refl; made = (3, omega arith, refl) }; above = refl; first = refl }; guarded = refl }; least = refl }, (record { under_way = record { its = record { its = refl; made = (2, omega arith, refl) }; above = refl; first = refl }; guarded = refl }, (record { under_way = record { its = record { its = refl; made = (3, omega arith, refl) }; above = refl; first = refl }; guarded = refl }, tt))))))))

one_walk_two_clients-tracked : Each (λ p. IsTrackedAt sched_stubs.interface sched_stubs.walks one_walk_two_clients_history p p.item.tag) (places_of one_walk_two_clients)
one_walk_two_clients-tracked = (record { whole = refl; rows = tt; real = refl; file = tt }, (record { whole = refl; rows = (record { id = refl; made = refl; parent = refl; state = refl; fields = refl }, tt); real = refl; file = tt }, (record { whole = refl; rows = (record { id = refl; made = refl; parent = refl; state = refl; fields = refl }, tt); real = refl; file = tt }, (tt, (tt, (tt, (record { whole = refl; rows = (record { id = refl; made = refl; parent = refl; state = refl; fields = refl }, tt); real = refl; file = tt }, (record { whole = refl; rows = (record { id = refl; made = refl; parent = refl; state = refl; fields = refl }, tt); real = refl; file = tt }, tt))))))))

one_walk_two_clients-points : ArePointsOf true sched_stubs.interface.facts sched_stubs.ask sched_stubs.parts 0 one_walk_two_clients.boots one_walk_two_clients.points
one_walk_two_clients-points = ((refl, (refl, (refl, tt))), inr (refl, refl), ((refl, (refl, (refl, (refl, (refl, tt))))), refl, refl))

pub one_walk_two_clients-recovered : IsRecovered sched_stubs one_walk_two_clients_history one_walk_two_clients (waiting one_walk_two_clients_ends)
one_walk_two_clients-recovered = record {
  reboots = one_walk_two_clients-reboots;
  served = one_walk_two_clients-served;
  walks = one_walk_two_clients-walks;
  on_demand = one_walk_two_clients-demanded;
  tracked_state = one_walk_two_clients-tracked;
  points = one_walk_two_clients-points;
  held = (omega arith, (omega arith, (omega arith, (omega arith, tt))));
}
