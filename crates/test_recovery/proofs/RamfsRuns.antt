-- The runs of the ramfs service, computed.
use Rattle.std.proofs.Common.{arith, inl, inr, refl, true}
use Rattle.test_histories.specs.sg_facts.sg_base.Lists.{Each}
use Rattle.std.specs.Prelude.{[], ◌∷◌}
use Rattle.test_recovery.specs.RamfsRuns.{ramfs_stubs, file_loaded, file_loaded_ends, file_loaded_history, held_late, held_late_ends, held_late_history, held_lost, held_lost_ends, held_lost_history}
use Rattle.sg_recovery_laws.specs.sg_hist.Reading.{places_of}
use Rattle.sg_recovery_laws.specs.sg_hist.Recovered.{ArePointsOf, IsRebooted, IsRecovered, IsServed, waiting}
use Rattle.sg_recovery_laws.specs.sg_hist.Inside.Parts.{IsDemanded, IsTrackedAt, IsWalked}
use Rattle.test_recovery.specs.Written.{call_with, word}

file_loaded-reboots : IsRebooted ramfs_stubs.interface.facts ramfs_stubs.ask file_loaded
file_loaded-reboots = record {
  booted = λ is. absurd (cc is);
  table = ((refl, refl), ((refl, refl), ((refl, refl), (tt, ((refl, refl), ((refl, refl), ((refl, refl), ((refl, refl), ((refl, refl), tt)))))))));
  stopped = (refl, tt);
  last = (tt, (tt, (tt, (tt, (tt, (tt, (tt, (tt, (tt, tt)))))))));
}

file_loaded-served : IsServed ramfs_stubs.interface.facts file_loaded_history file_loaded (waiting file_loaded_ends)
file_loaded-served = record {
  calls = ((record { its = refl; made = (0, omega arith, refl) }, refl), ((record { its = refl; made = (1, omega arith, refl) }, refl), ((record { its = refl; made = (2, omega arith, refl) }, refl), (tt, ((record { its = refl; made = (3, omega arith, refl) }, refl), (tt, (tt, ((record { its = refl; made = (4, omega arith, refl) }, refl), ((record { its = refl; made = (5, omega arith, refl) }, refl), tt)))))))));
  items = ((refl, (refl, refl, refl)), ((refl, (refl, refl, refl)), ((refl, (refl, refl, refl)), ((refl, (refl, refl, refl)), ((refl, (refl, refl, refl)), ((refl, refl), tt))))));
  committed = (refl, (refl, (refl, (tt, (refl, (tt, (tt, (tt, (refl, tt)))))))));
  order = (refl, (refl, (refl, (refl, (tt, (refl, tt))))));
}

file_loaded-walks : Each (λ p. IsWalked ramfs_stubs.interface.facts ramfs_stubs.walks file_loaded_history p p.item.tag) (places_of file_loaded)
file_loaded-walks = (tt, (tt, (tt, (tt, (tt, (record { unmade = refl; next = refl; parent = refl; call = refl; real = refl; outcome = tt }, (record { unmade = refl; next = refl; parent = refl; call = refl; real = refl; outcome = tt }, (tt, (tt, tt)))))))))

file_loaded-demanded : Each (λ p. IsDemanded ramfs_stubs.interface ramfs_stubs.walks file_loaded_history (waiting file_loaded_ends) p p.item.tag) (places_of file_loaded)
file_loaded-demanded = (record { under_way = record { its = record { its = refl; made = (0, omega arith, refl) }; above = refl; first = refl }; guarded = refl }, (record { under_way = record { its = record { its = refl; made = (1, omega arith, refl) }; above = refl; first = refl }; guarded = refl }, (record { under_way = record { its = record { its = refl; made = (2, omega arith, refl) }; above = refl; first = refl }; guarded = refl }, (record { call = call_with 2 2 2 2 ((word 16) ∷ []); admitted = record { under_way = record { its = record { its = refl; made = (3, omega arith, refl) }; above = refl; first = refl }; guarded = refl }; rows = refl; file = refl; absent = refl; some = λ none. cc none; load = refl }, (record { under_way = record { its = record { its = refl; made = (3, omega arith, refl) }; above = refl; first = refl }; guarded = refl }, (record { call = call_with 1 3 4 1 ((word 9) ∷ []); admitted = record { under_way = record { its = record { its = refl; made = (4, omega arith, refl) }; above = refl; first = refl }; guarded = refl }; least = refl }, (record { call = call_with 1 3 4 1 ((word 9) ∷ []); admitted = record { under_way = record { its = record { its = refl; made = (4, omega arith, refl) }; above = refl; first = refl }; guarded = refl }; least = refl }, (record { under_way = record { its = record { its = refl; made = (4, omega arith, refl) }; above = refl; first = refl }; guarded = refl }, (record { under_way = record { its = record { its = refl; made = (5, omega arith, refl) }; above = refl; first = refl }; guarded = refl }, tt)))))))))

file_loaded-tracked : Each (λ p. IsTrackedAt ramfs_stubs.interface ramfs_stubs.walks file_loaded_history p p.item.tag) (places_of file_loaded)
file_loaded-tracked = (record { whole = refl; rows = tt; real = refl; file = tt }, (record { whole = refl; rows = (record { id = refl; made = refl; parent = refl; state = refl; fields = refl }, tt); real = refl; file = (refl, refl) }, (record { whole = refl; rows = tt; real = refl; file = tt }, (tt, (record { whole = refl; rows = (record { id = refl; made = refl; parent = refl; state = refl; fields = refl }, tt); real = refl; file = (refl, refl) }, (tt, (tt, (record { whole = refl; rows = (record { id = refl; made = refl; parent = refl; state = refl; fields = refl }, tt); real = refl; file = tt }, (record { whole = refl; rows = (record { id = refl; made = refl; parent = refl; state = refl; fields = refl }, tt); real = refl; file = (refl, refl) }, tt)))))))))

file_loaded-points : ArePointsOf true ramfs_stubs.interface.facts ramfs_stubs.ask ramfs_stubs.parts 0 file_loaded.boots file_loaded.points
file_loaded-points = ((refl, (refl, tt)), inl (refl, refl), ((refl, (refl, (refl, (refl, (refl, (refl, (refl, tt))))))), refl, refl))

pub file_loaded-recovered : IsRecovered ramfs_stubs file_loaded_history file_loaded (waiting file_loaded_ends)
file_loaded-recovered = record {
  reboots = file_loaded-reboots;
  served = file_loaded-served;
  walks = file_loaded-walks;
  on_demand = file_loaded-demanded;
  tracked_state = file_loaded-tracked;
  points = file_loaded-points;
  held = (omega arith, (omega arith, (omega arith, (omega arith, (omega arith, (omega arith, tt))))));
}

held_lost-reboots : IsRebooted ramfs_stubs.interface.facts ramfs_stubs.ask held_lost
held_lost-reboots = record {
  booted = λ is. absurd (cc is);
  table = ((refl, refl), ((refl, refl), ((refl, refl), ((refl, refl), ((refl, refl), ((refl, refl), tt))))));
  stopped = (refl, tt);
  last = (tt, (tt, (tt, (tt, (tt, (tt, tt))))));
}

held_lost-served : IsServed ramfs_stubs.interface.facts held_lost_history held_lost (waiting held_lost_ends)
held_lost-served = record {
  calls = ((record { its = refl; made = (0, omega arith, refl) }, refl), ((record { its = refl; made = (3, omega arith, refl) }, refl), (tt, ((record { its = refl; made = (2, omega arith, refl) }, refl), ((record { its = refl; made = (3, omega arith, refl) }, refl), ((record { its = refl; made = (4, omega arith, refl) }, refl), tt))))));
  items = ((refl, (refl, refl, refl)), (tt, ((refl, (refl, refl, refl)), ((refl, (refl, refl, refl)), ((refl, (refl, refl, refl)), tt)))));
  committed = (refl, (tt, (tt, (refl, (tt, (refl, tt))))));
  order = (refl, (tt, (refl, (tt, (refl, tt)))));
}

held_lost-walks : Each (λ p. IsWalked ramfs_stubs.interface.facts ramfs_stubs.walks held_lost_history p p.item.tag) (places_of held_lost)
held_lost-walks = (tt, (tt, (record { unmade = refl; next = refl; parent = refl; call = refl; real = refl; outcome = tt }, (tt, (tt, (tt, tt))))))

held_lost-demanded : Each (λ p. IsDemanded ramfs_stubs.interface ramfs_stubs.walks held_lost_history (waiting held_lost_ends) p p.item.tag) (places_of held_lost)
held_lost-demanded = (record { under_way = record { its = record { its = refl; made = (0, omega arith, refl) }; above = refl; first = refl }; guarded = refl }, (record { under_way = record { its = record { its = refl; made = (3, omega arith, refl) }; above = refl; first = refl }; guarded = refl }, (record { call = call_with 1 2 4 1 ((word 4) ∷ []); admitted = record { under_way = record { its = record { its = refl; made = (3, omega arith, refl) }; above = refl; first = refl }; guarded = refl }; least = refl }, (record { under_way = record { its = record { its = refl; made = (2, omega arith, refl) }; above = refl; first = refl }; guarded = refl }, (record { under_way = record { its = record { its = refl; made = (3, omega arith, refl) }; above = refl; first = refl }; guarded = refl }, (record { under_way = record { its = record { its = refl; made = (4, omega arith, refl) }; above = refl; first = refl }; guarded = refl }, tt))))))

held_lost-tracked : Each (λ p. IsTrackedAt ramfs_stubs.interface ramfs_stubs.walks held_lost_history p p.item.tag) (places_of held_lost)
held_lost-tracked = (record { whole = refl; rows = tt; real = refl; file = tt }, (record { whole = refl; rows = (record { id = refl; made = refl; parent = refl; state = refl; fields = refl }, tt); real = refl; file = tt }, (tt, (record { whole = refl; rows = tt; real = refl; file = tt }, (record { whole = refl; rows = (record { id = refl; made = refl; parent = refl; state = refl; fields = refl }, tt); real = refl; file = tt }, (record { whole = refl; rows = (record { id = refl; made = refl; parent = refl; state = refl; fields = refl }, tt); real = refl; file = (refl, refl) }, tt))))))

held_lost-points : ArePointsOf true ramfs_stubs.interface.facts ramfs_stubs.ask ramfs_stubs.parts 0 held_lost.boots held_lost.points
held_lost-points = ((refl, (refl, tt)), inr (refl, refl), ((refl, (refl, (refl, (refl, tt)))), refl, refl))

pub held_lost-recovered : IsRecovered ramfs_stubs held_lost_history held_lost (waiting held_lost_ends)
held_lost-recovered = record {
  reboots = held_lost-reboots;
  served = held_lost-served;
  walks = held_lost-walks;
  on_demand = held_lost-demanded;
  tracked_state = held_lost-tracked;
  points = held_lost-points;
  held = (omega arith, (omega arith, (omega arith, (omega arith, (omega arith, tt)))));
}

held_late-reboots : IsRebooted ramfs_stubs.interface.facts ramfs_stubs.ask held_late
held_late-reboots = record {
  booted = λ is. absurd (cc is);
  table = ((refl, refl), ((refl, refl), ((refl, refl), ((refl, refl), tt))));
  stopped = tt;
  last = (tt, (tt, (tt, (tt, tt))));
}

held_late-served : IsServed ramfs_stubs.interface.facts held_late_history held_late (waiting held_late_ends)
held_late-served = record {
  calls = ((record { its = refl; made = (0, omega arith, refl) }, refl), ((record { its = refl; made = (2, omega arith, refl) }, refl), ((record { its = refl; made = (1, omega arith, refl) }, refl), ((record { its = refl; made = (3, omega arith, refl) }, refl), tt))));
  items = ((refl, (refl, refl, refl)), ((refl, (refl, refl, refl)), ((refl, (refl, refl, refl)), ((refl, (refl, refl, refl)), tt))));
  committed = (refl, (tt, (refl, (refl, tt))));
  order = (refl, (refl, (tt, (refl, tt))));
}

held_late-walks : Each (λ p. IsWalked ramfs_stubs.interface.facts ramfs_stubs.walks held_late_history p p.item.tag) (places_of held_late)
held_late-walks = (tt, (tt, (tt, (tt, tt))))

held_late-demanded : Each (λ p. IsDemanded ramfs_stubs.interface ramfs_stubs.walks held_late_history (waiting held_late_ends) p p.item.tag) (places_of held_late)
held_late-demanded = (record { under_way = record { its = record { its = refl; made = (0, omega arith, refl) }; above = refl; first = refl }; guarded = refl }, (record { under_way = record { its = record { its = refl; made = (2, omega arith, refl) }; above = refl; first = refl }; guarded = refl }, (record { under_way = record { its = record { its = refl; made = (1, omega arith, refl) }; above = refl; first = refl }; guarded = refl }, (record { under_way = record { its = record { its = refl; made = (3, omega arith, refl) }; above = refl; first = refl }; guarded = refl }, tt))))

held_late-tracked : Each (λ p. IsTrackedAt ramfs_stubs.interface ramfs_stubs.walks held_late_history p p.item.tag) (places_of held_late)
held_late-tracked = (record { whole = refl; rows = tt; real = refl; file = tt }, (record { whole = refl; rows = (record { id = refl; made = refl; parent = refl; state = refl; fields = refl }, tt); real = refl; file = tt }, (record { whole = refl; rows = tt; real = refl; file = tt }, (record { whole = refl; rows = (record { id = refl; made = refl; parent = refl; state = refl; fields = refl }, tt); real = refl; file = (refl, refl) }, tt))))

held_late-points : ArePointsOf true ramfs_stubs.interface.facts ramfs_stubs.ask ramfs_stubs.parts 0 held_late.boots held_late.points
held_late-points = ((refl, (refl, (refl, (refl, tt)))), refl, refl)

pub held_late-recovered : IsRecovered ramfs_stubs held_late_history held_late (waiting held_late_ends)
held_late-recovered = record {
  reboots = held_late-reboots;
  served = held_late-served;
  walks = held_late-walks;
  on_demand = held_late-demanded;
  tracked_state = held_late-tracked;
  points = held_late-points;
  held = (omega arith, (omega arith, (omega arith, (omega arith, tt))));
}
