-- The runs of the lock service, computed.
use Rattle.std.proofs.Common.{inl, refl, arith, true}
use Rattle.test_histories.specs.sg_facts.sg_base.Lists.{Each}
use Rattle.test_recovery.specs.LockRuns.{lock_stubs, stop_after_take, stop_after_take_ends, stop_after_take_history, stop_before_storage, stop_before_storage_ends, stop_before_storage_history, stop_in_walk, stop_in_walk_ends, stop_in_walk_history}
use Rattle.sg_recovery_laws.specs.sg_hist.Reading.{places_of}
use Rattle.sg_recovery_laws.specs.sg_hist.Recovered.{ArePointsOf, IsRebooted, IsRecovered, IsServed, waiting}
use Rattle.sg_recovery_laws.specs.sg_hist.Inside.Parts.{IsDemanded, IsTrackedAt, IsWalked}
use Rattle.test_recovery.specs.Written.{bare_call}

stop_after_take-reboots : IsRebooted lock_stubs.interface.facts lock_stubs.ask stop_after_take
stop_after_take-reboots = record {
  booted = λ is. absurd (cc is);
  table = ((refl, refl), ((refl, refl), ((refl, refl), ((refl, refl), ((refl, refl), ((refl, refl), tt))))));
  stopped = (refl, tt);
  last = (tt, (tt, (tt, (tt, (tt, (tt, tt))))));
}

stop_after_take-served : IsServed lock_stubs.interface.facts stop_after_take_history stop_after_take (waiting stop_after_take_ends)
stop_after_take-served = record {
  calls = ((record { its = refl; made = (0, omega arith, refl) }, refl), ((record { its = refl; made = (1, omega arith, refl) }, refl), (tt, (tt, ((record { its = refl; made = (2, omega arith, refl) }, refl), ((record { its = refl; made = (3, omega arith, refl) }, refl), tt))))));
  items = ((refl, (refl, refl, refl)), ((refl, (refl, refl, refl)), ((refl, (refl, refl, refl)), ((refl, (refl, refl, refl)), tt))));
  committed = (refl, (refl, (tt, (tt, (refl, (refl, tt))))));
  order = (refl, (refl, (refl, (refl, tt))));
}

stop_after_take-walks : Each (λ p. IsWalked lock_stubs.interface.facts lock_stubs.walks stop_after_take_history p p.item.tag) (places_of stop_after_take)
stop_after_take-walks = (tt, (tt, (record { unmade = refl; next = refl; parent = refl; call = refl; real = refl; outcome = tt }, (record { unmade = refl; next = refl; parent = refl; call = refl; real = refl; outcome = tt }, (tt, (tt, tt))))))

stop_after_take-demanded : Each (λ p. IsDemanded lock_stubs.interface lock_stubs.walks stop_after_take_history (waiting stop_after_take_ends) p p.item.tag) (places_of stop_after_take)
stop_after_take-demanded = (record { under_way = record { its = record { its = refl; made = (0, omega arith, refl) }; above = refl; first = refl }; guarded = refl }, (record { under_way = record { its = record { its = refl; made = (1, omega arith, refl) }; above = refl; first = refl }; guarded = refl }, (record { call = bare_call 1 3 3 1; admitted = record { under_way = record { its = record { its = refl; made = (2, omega arith, refl) }; above = refl; first = refl }; guarded = refl }; least = refl }, (record { call = bare_call 1 3 3 1; admitted = record { under_way = record { its = record { its = refl; made = (2, omega arith, refl) }; above = refl; first = refl }; guarded = refl }; least = refl }, (record { under_way = record { its = record { its = refl; made = (2, omega arith, refl) }; above = refl; first = refl }; guarded = refl }, (record { under_way = record { its = record { its = refl; made = (3, omega arith, refl) }; above = refl; first = refl }; guarded = refl }, tt))))))

stop_after_take-tracked : Each (λ p. IsTrackedAt lock_stubs.interface lock_stubs.walks stop_after_take_history p p.item.tag) (places_of stop_after_take)
stop_after_take-tracked = (record { whole = refl; rows = tt; real = refl; file = tt }, (record { whole = refl; rows = (record { id = refl; made = refl; parent = refl; state = refl; fields = refl }, tt); real = refl; file = tt }, (tt, (tt, (record { whole = refl; rows = (record { id = refl; made = refl; parent = refl; state = refl; fields = refl }, tt); real = refl; file = tt }, (record { whole = refl; rows = (record { id = refl; made = refl; parent = refl; state = refl; fields = refl }, tt); real = refl; file = tt }, tt))))))

stop_after_take-points : ArePointsOf true lock_stubs.interface.facts lock_stubs.ask lock_stubs.parts 0 stop_after_take.boots stop_after_take.points
stop_after_take-points = ((refl, (refl, tt)), inl (refl, refl), ((refl, (refl, (refl, (refl, tt)))), refl, refl))

pub stop_after_take-recovered : IsRecovered lock_stubs stop_after_take_history stop_after_take (waiting stop_after_take_ends)
stop_after_take-recovered = record {
  reboots = stop_after_take-reboots;
  served = stop_after_take-served;
  walks = stop_after_take-walks;
  on_demand = stop_after_take-demanded;
  tracked_state = stop_after_take-tracked;
  points = stop_after_take-points;
  held = (omega arith, (omega arith, (omega arith, (omega arith, tt))));
}

stop_before_storage-reboots : IsRebooted lock_stubs.interface.facts lock_stubs.ask stop_before_storage
stop_before_storage-reboots = record {
  booted = λ is. absurd (cc is);
  table = ((refl, refl), (refl, ((refl, refl), ((refl, refl), ((refl, refl), ((refl, refl), tt))))));
  stopped = (refl, tt);
  last = (tt, (refl, (tt, (tt, (tt, (tt, tt))))));
}

stop_before_storage-served : IsServed lock_stubs.interface.facts stop_before_storage_history stop_before_storage (waiting stop_before_storage_ends)
stop_before_storage-served = record {
  calls = ((record { its = refl; made = (0, omega arith, refl) }, refl), ((record { its = refl; made = (1, omega arith, refl) }, refl), (tt, ((record { its = refl; made = (1, omega arith, refl) }, refl), ((record { its = refl; made = (2, omega arith, refl) }, refl), ((record { its = refl; made = (3, omega arith, refl) }, refl), tt))))));
  items = ((refl, (refl, refl, refl)), ((refl, (refl, refl, refl)), ((refl, (refl, refl, refl)), ((refl, (refl, refl, refl)), tt))));
  committed = (refl, (tt, (tt, (refl, (refl, (refl, tt))))));
  order = (refl, (refl, (refl, (refl, tt))));
}

stop_before_storage-walks : Each (λ p. IsWalked lock_stubs.interface.facts lock_stubs.walks stop_before_storage_history p p.item.tag) (places_of stop_before_storage)
stop_before_storage-walks = (tt, (tt, (record { unmade = refl; next = refl; parent = refl; call = refl; real = refl; outcome = tt }, (tt, (tt, (tt, tt))))))

stop_before_storage-demanded : Each (λ p. IsDemanded lock_stubs.interface lock_stubs.walks stop_before_storage_history (waiting stop_before_storage_ends) p p.item.tag) (places_of stop_before_storage)
stop_before_storage-demanded = (record { under_way = record { its = record { its = refl; made = (0, omega arith, refl) }; above = refl; first = refl }; guarded = refl }, (record { under_way = record { its = record { its = refl; made = (1, omega arith, refl) }; above = refl; first = refl }; guarded = refl }, (record { call = bare_call 1 2 2 1; admitted = record { under_way = record { its = record { its = refl; made = (1, omega arith, refl) }; above = refl; first = refl }; guarded = refl }; least = refl }, (record { under_way = record { its = record { its = refl; made = (1, omega arith, refl) }; above = refl; first = refl }; guarded = refl }, (record { under_way = record { its = record { its = refl; made = (2, omega arith, refl) }; above = refl; first = refl }; guarded = refl }, (record { under_way = record { its = record { its = refl; made = (3, omega arith, refl) }; above = refl; first = refl }; guarded = refl }, tt))))))

stop_before_storage-tracked : Each (λ p. IsTrackedAt lock_stubs.interface lock_stubs.walks stop_before_storage_history p p.item.tag) (places_of stop_before_storage)
stop_before_storage-tracked = (record { whole = refl; rows = tt; real = refl; file = tt }, (record { whole = refl; rows = (record { id = refl; made = refl; parent = refl; state = refl; fields = refl }, tt); real = refl; file = tt }, (tt, (record { whole = refl; rows = (record { id = refl; made = refl; parent = refl; state = refl; fields = refl }, tt); real = refl; file = tt }, (record { whole = refl; rows = (record { id = refl; made = refl; parent = refl; state = refl; fields = refl }, tt); real = refl; file = tt }, (record { whole = refl; rows = (record { id = refl; made = refl; parent = refl; state = refl; fields = refl }, tt); real = refl; file = tt }, tt))))))

stop_before_storage-points : ArePointsOf true lock_stubs.interface.facts lock_stubs.ask lock_stubs.parts 0 stop_before_storage.boots stop_before_storage.points
stop_before_storage-points = ((refl, ((omega arith, omega arith), tt)), inl (refl, refl), ((refl, (refl, (refl, (refl, tt)))), refl, refl))

pub stop_before_storage-recovered : IsRecovered lock_stubs stop_before_storage_history stop_before_storage (waiting stop_before_storage_ends)
stop_before_storage-recovered = record {
  reboots = stop_before_storage-reboots;
  served = stop_before_storage-served;
  walks = stop_before_storage-walks;
  on_demand = stop_before_storage-demanded;
  tracked_state = stop_before_storage-tracked;
  points = stop_before_storage-points;
  held = (omega arith, (omega arith, (omega arith, (omega arith, tt))));
}

stop_in_walk-reboots : IsRebooted lock_stubs.interface.facts lock_stubs.ask stop_in_walk
stop_in_walk-reboots = record {
  booted = λ is. absurd (cc is);
  table = ((refl, refl), ((refl, refl), ((refl, refl), (refl, ((refl, refl), ((refl, refl), ((refl, refl), ((refl, refl), tt))))))));
  stopped = (refl, (refl, tt));
  last = (tt, (tt, (tt, (refl, (tt, (tt, (tt, (tt, tt))))))));
}

stop_in_walk-served : IsServed lock_stubs.interface.facts stop_in_walk_history stop_in_walk (waiting stop_in_walk_ends)
stop_in_walk-served = record {
  calls = ((record { its = refl; made = (0, omega arith, refl) }, refl), ((record { its = refl; made = (1, omega arith, refl) }, refl), (tt, (tt, (tt, (tt, ((record { its = refl; made = (2, omega arith, refl) }, refl), ((record { its = refl; made = (3, omega arith, refl) }, refl), tt))))))));
  items = ((refl, (refl, refl, refl)), ((refl, (refl, refl, refl)), ((refl, (refl, refl, refl)), ((refl, (refl, refl, refl)), tt))));
  committed = (refl, (refl, (tt, (tt, (tt, (tt, (refl, (refl, tt))))))));
  order = (refl, (refl, (refl, (refl, tt))));
}

stop_in_walk-walks : Each (λ p. IsWalked lock_stubs.interface.facts lock_stubs.walks stop_in_walk_history p p.item.tag) (places_of stop_in_walk)
stop_in_walk-walks = (tt, (tt, (record { unmade = refl; next = refl; parent = refl; call = refl; real = refl; outcome = tt }, (record { unmade = refl; next = refl; parent = refl; call = refl; real = refl; outcome = tt }, (record { unmade = refl; next = refl; parent = refl; call = refl; real = refl; outcome = tt }, (record { unmade = refl; next = refl; parent = refl; call = refl; real = refl; outcome = tt }, (tt, (tt, tt))))))))

stop_in_walk-demanded : Each (λ p. IsDemanded lock_stubs.interface lock_stubs.walks stop_in_walk_history (waiting stop_in_walk_ends) p p.item.tag) (places_of stop_in_walk)
stop_in_walk-demanded = (record { under_way = record { its = record { its = refl; made = (0, omega arith, refl) }; above = refl; first = refl }; guarded = refl }, (record { under_way = record { its = record { its = refl; made = (1, omega arith, refl) }; above = refl; first = refl }; guarded = refl }, (record { call = bare_call 1 3 3 1; admitted = record { under_way = record { its = record { its = refl; made = (2, omega arith, refl) }; above = refl; first = refl }; guarded = refl }; least = refl }, (record { call = bare_call 1 3 3 1; admitted = record { under_way = record { its = record { its = refl; made = (2, omega arith, refl) }; above = refl; first = refl }; guarded = refl }; least = refl }, (record { call = bare_call 1 3 3 1; admitted = record { under_way = record { its = record { its = refl; made = (2, omega arith, refl) }; above = refl; first = refl }; guarded = refl }; least = refl }, (record { call = bare_call 1 3 3 1; admitted = record { under_way = record { its = record { its = refl; made = (2, omega arith, refl) }; above = refl; first = refl }; guarded = refl }; least = refl }, (record { under_way = record { its = record { its = refl; made = (2, omega arith, refl) }; above = refl; first = refl }; guarded = refl }, (record { under_way = record { its = record { its = refl; made = (3, omega arith, refl) }; above = refl; first = refl }; guarded = refl }, tt))))))))

stop_in_walk-tracked : Each (λ p. IsTrackedAt lock_stubs.interface lock_stubs.walks stop_in_walk_history p p.item.tag) (places_of stop_in_walk)
stop_in_walk-tracked = (record { whole = refl; rows = tt; real = refl; file = tt }, (record { whole = refl; rows = (record { id = refl; made = refl; parent = refl; state = refl; fields = refl }, tt); real = refl; file = tt }, (tt, (tt, (tt, (tt, (record { whole = refl; rows = (record { id = refl; made = refl; parent = refl; state = refl; fields = refl }, tt); real = refl; file = tt }, (record { whole = refl; rows = (record { id = refl; made = refl; parent = refl; state = refl; fields = refl }, tt); real = refl; file = tt }, tt))))))))

stop_in_walk-points : ArePointsOf true lock_stubs.interface.facts lock_stubs.ask lock_stubs.parts 0 stop_in_walk.boots stop_in_walk.points
stop_in_walk-points = ((refl, (refl, tt)), inl (refl, refl), ((refl, ((omega arith, omega arith), tt)), inl (refl, refl), ((refl, (refl, (refl, (refl, tt)))), refl, refl)))

pub stop_in_walk-recovered : IsRecovered lock_stubs stop_in_walk_history stop_in_walk (waiting stop_in_walk_ends)
stop_in_walk-recovered = record {
  reboots = stop_in_walk-reboots;
  served = stop_in_walk-served;
  walks = stop_in_walk-walks;
  on_demand = stop_in_walk-demanded;
  tracked_state = stop_in_walk-tracked;
  points = stop_in_walk-points;
  held = (omega arith, (omega arith, (omega arith, (omega arith, tt))));
}
