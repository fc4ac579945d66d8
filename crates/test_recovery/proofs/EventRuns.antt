-- The runs of the event service, computed.
use Rattle.std.proofs.Common.{arith, inl, inr, refl, true}
use Rattle.test_histories.specs.sg_facts.sg_base.Lists.{Each}
use Rattle.test_recovery.specs.EventRuns.{event_stubs, trigger_not_twice, trigger_not_twice_ends, trigger_not_twice_history, present_value, present_value_ends, present_value_history, blocked_redone, blocked_redone_ends, blocked_redone_history}
use Rattle.sg_recovery_laws.specs.sg_hist.Reading.{places_of}
use Rattle.sg_recovery_laws.specs.sg_hist.Recovered.{ArePointsOf, IsRebooted, IsRecovered, IsServed, waiting}
use Rattle.sg_recovery_laws.specs.sg_hist.Inside.Parts.{IsDemanded, IsTrackedAt, IsWalked}
use Rattle.test_recovery.specs.Written.{bare_call}

trigger_not_twice-reboots : IsRebooted event_stubs.interface.facts event_stubs.ask trigger_not_twice
trigger_not_twice-reboots = record {
  booted = λ is. absurd (cc is);
  table = ((refl, refl), ((refl, refl), ((refl, refl), ((refl, refl), ((refl, refl), (refl, tt))))));
  stopped = (refl, tt);
  last = (tt, (tt, (tt, (tt, (tt, (tt, tt))))));
}

trigger_not_twice-served : IsServed event_stubs.interface.facts trigger_not_twice_history trigger_not_twice (waiting trigger_not_twice_ends)
trigger_not_twice-served = record {
  calls = ((record { its = refl; made = (0, omega arith, refl) }, refl), ((record { its = refl; made = (1, omega arith, refl) }, refl), (tt, (tt, ((record { its = refl; made = (2, omega arith, refl) }, refl), ((record { its = refl; made = (3, omega arith, refl) }, refl), tt))))));
  items = ((refl, (refl, refl, refl)), ((refl, (refl, refl, refl)), ((refl, (refl, refl, refl)), tt)));
  committed = (refl, (refl, (tt, (tt, (refl, (tt, tt))))));
  order = (refl, (refl, (refl, tt)));
}

trigger_not_twice-walks : Each (λ p. IsWalked event_stubs.interface.facts event_stubs.walks trigger_not_twice_history p p.item.tag) (places_of trigger_not_twice)
trigger_not_twice-walks = (tt, (tt, (record { unmade = refl; next = refl; parent = refl; call = refl; real = refl; outcome = tt }, (record { unmade = refl; next = refl; parent = refl; call = refl; real = refl; outcome = tt }, (tt, (tt, tt))))))

trigger_not_twice-demanded : Each (λ p. IsDemanded event_stubs.interface event_stubs.walks trigger_not_twice_history (waiting trigger_not_twice_ends) p p.item.tag) (places_of trigger_not_twice)
trigger_not_twice-demanded = (record { under_way = record { its = record { its = refl; made = (0, omega arith, refl) }; above = refl; first = refl }; guarded = refl }, (record { under_way = record { its = record { its = refl; made = (1, omega arith, refl) }; above = refl; first = refl }; guarded = refl }, (record { call = bare_call 2 1 2 1; admitted = record { under_way = record { its = record { its = refl; made = (2, omega arith, refl) }; above = refl; first = refl }; guarded = refl }; least = refl }, (record { call = bare_call 2 1 2 1; admitted = record { under_way = record { its = record { its = refl; made = (2, omega arith, refl) }; above = refl; first = refl }; guarded = refl }; least = refl }, (record { under_way = record { its = record { its = refl; made = (2, omega arith, refl) }; above = refl; first = refl }; guarded = refl }, (record { under_way = record { its = record { its = refl; made = (3, omega arith, refl) }; above = refl; first = refl }; guarded = refl }, tt))))))

trigger_not_twice-tracked : Each (λ p. IsTrackedAt event_stubs.interface event_stubs.walks trigger_not_twice_history p p.item.tag) (places_of trigger_not_twice)
trigger_not_twice-tracked = (record { whole = refl; rows = tt; real = refl; file = tt }, (record { whole = refl; rows = (record { id = refl; made = refl; parent = refl; state = refl; fields = refl }, tt); real = refl; file = tt }, (tt, (tt, (record { whole = refl; rows = (record { id = refl; made = refl; parent = refl; state = refl; fields = refl }, tt); real = refl; file = tt }, (record { whole = refl; rows = (record { id = refl; made = refl; parent = refl; state = refl; fields = refl }, tt); real = refl; file = tt }, tt))))))

trigger_not_twice-points : ArePointsOf true event_stubs.interface.facts event_stubs.ask event_stubs.parts 0 trigger_not_twice.boots trigger_not_twice.points
trigger_not_twice-points = ((refl, (refl, tt)), inl (refl, refl), ((refl, (refl, (refl, (refl, tt)))), refl, refl))

pub trigger_not_twice-recovered : IsRecovered event_stubs trigger_not_twice_history trigger_not_twice (waiting trigger_not_twice_ends)
trigger_not_twice-recovered = record {
  reboots = trigger_not_twice-reboots;
  served = trigger_not_twice-served;
  walks = trigger_not_twice-walks;
  on_demand = trigger_not_twice-demanded;
  tracked_state = trigger_not_twice-tracked;
  points = trigger_not_twice-points;
  held = (omega arith, (omega arith, (omega arith, tt)));
}

present_value-reboots : IsRebooted event_stubs.interface.facts event_stubs.ask present_value
present_value-reboots = record {
  booted = λ is. absurd (cc is);
  table = ((refl, refl), ((refl, refl), ((refl, refl), ((refl, refl), ((refl, refl), ((refl, refl), ((refl, refl), tt)))))));
  stopped = (refl, tt);
  last = (tt, (tt, (tt, (tt, (tt, (tt, (tt, tt)))))));
}

present_value-served : IsServed event_stubs.interface.facts present_value_history present_value (waiting present_value_ends)
present_value-served = record {
  calls = ((record { its = refl; made = (0, omega arith, refl) }, refl), ((record { its = refl; made = (1, omega arith, refl) }, refl), ((record { its = refl; made = (2, omega arith, refl) }, refl), ((record { its = refl; made = (3, omega arith, refl) }, refl), (tt, (tt, ((record { its = refl; made = (4, omega arith, refl) }, refl), tt)))))));
  items = ((refl, (refl, refl, refl)), ((refl, (refl, refl, refl)), ((refl, (refl, refl, refl)), ((refl, (refl, refl, refl)), ((refl, (refl, refl, refl)), tt)))));
  committed = (refl, (refl, (refl, (refl, (tt, (tt, (refl, tt)))))));
  order = (refl, (refl, (refl, (refl, (refl, tt)))));
}

present_value-walks : Each (λ p. IsWalked event_stubs.interface.facts event_stubs.walks present_value_history p p.item.tag) (places_of present_value)
present_value-walks = (tt, (tt, (tt, (tt, (record { unmade = refl; next = refl; parent = refl; call = refl; real = refl; outcome = tt }, (record { unmade = refl; next = refl; parent = refl; call = refl; real = refl; outcome = tt }, (tt, tt)))))))

present_value-demanded : Each (λ p. IsDemanded event_stubs.interface event_stubs.walks present_value_history (waiting present_value_ends) p p.item.tag) (places_of present_value)
present_value-demanded = (record { under_way = record { its = record { its = refl; made = (0, omega arith, refl) }; above = refl; first = refl }; guarded = refl }, (record { under_way = record { its = record { its = refl; made = (1, omega arith, refl) }; above = refl; first = refl }; guarded = refl }, (record { under_way = record { its = record { its = refl; made = (2, omega arith, refl) }; above = refl; first = refl }; guarded = refl }, (record { under_way = record { its = record { its = refl; made = (3, omega arith, refl) }; above = refl; first = refl }; guarded = refl }, (record { call = bare_call 1 5 2 1; admitted = record { under_way = record { its = record { its = refl; made = (4, omega arith, refl) }; above = refl; first = refl }; guarded = refl }; least = refl }, (record { call = bare_call 1 5 2 1; admitted = record { under_way = record { its = record { its = refl; made = (4, omega arith, refl) }; above = refl; first = refl }; guarded = refl }; least = refl }, (record { under_way = record { its = record { its = refl; made = (4, omega arith, refl) }; above = refl; first = refl }; guarded = refl }, tt)))))))

present_value-tracked : Each (λ p. IsTrackedAt event_stubs.interface event_stubs.walks present_value_history p p.item.tag) (places_of present_value)
present_value-tracked = (record { whole = refl; rows = tt; real = refl; file = tt }, (record { whole = refl; rows = (record { id = refl; made = refl; parent = refl; state = refl; fields = refl }, tt); real = refl; file = tt }, (record { whole = refl; rows = (record { id = refl; made = refl; parent = refl; state = refl; fields = refl }, tt); real = refl; file = tt }, (record { whole = refl; rows = (record { id = refl; made = refl; parent = refl; state = refl; fields = refl }, tt); real = refl; file = tt }, (tt, (tt, (record { whole = refl; rows = (record { id = refl; made = refl; parent = refl; state = refl; fields = refl }, tt); real = refl; file = tt }, tt)))))))

present_value-points : ArePointsOf true event_stubs.interface.facts event_stubs.ask event_stubs.parts 0 present_value.boots present_value.points
present_value-points = ((refl, (refl, (refl, (refl, tt)))), inr (refl, refl), ((refl, (refl, (refl, tt))), refl, refl))

pub present_value-recovered : IsRecovered event_stubs present_value_history present_value (waiting present_value_ends)
present_value-recovered = record {
  reboots = present_value-reboots;
  served = present_value-served;
  walks = present_value-walks;
  on_demand = present_value-demanded;
  tracked_state = present_value-tracked;
  points = present_value-points;
  held = (omega arith, (omega arith, (omega arith, (omega arith, (omega arith, tt)))));
}

blocked_redone-reboots : IsRebooted event_stubs.interface.facts event_stubs.ask blocked_redone
blocked_redone-reboots = record {
  booted = λ is. absurd (cc is);
  table = ((refl, refl), (refl, ((refl, refl), ((refl, refl), ((refl, refl), tt)))));
  stopped = (refl, tt);
  last = (tt, (tt, (tt, (tt, (tt, tt)))));
}

blocked_redone-served : IsServed event_stubs.interface.facts blocked_redone_history blocked_redone (waiting blocked_redone_ends)
blocked_redone-served = record {
  calls = ((record { its = refl; made = (0, omega arith, refl) }, refl), ((record { its = refl; made = (2, omega arith, refl) }, refl), (tt, ((record { its = refl; made = (1, omega arith, refl) }, refl), ((record { its = refl; made = (2, omega arith, refl) }, refl), tt)))));
  items = ((refl, (refl, refl, refl)), ((refl, (refl, refl, refl)), ((refl, (refl, refl, refl)), tt)));
  committed = (refl, (tt, (tt, (refl, (refl, tt)))));
  order = (refl, (refl, (refl, tt)));
}

blocked_redone-walks : Each (λ p. IsWalked event_stubs.interface.facts event_stubs.walks blocked_redone_history p p.item.tag) (places_of blocked_redone)
blocked_redone-walks = (tt, (tt, (record { unmade = refl; next = refl; parent = refl; call = refl; real = refl; outcome = tt }, (tt, (tt, tt)))))

blocked_redone-demanded : Each (λ p. IsDemanded event_stubs.interface event_stubs.walks blocked_redone_history (waiting blocked_redone_ends) p p.item.tag) (places_of blocked_redone)
blocked_redone-demanded = (record { under_way = record { its = record { its = refl; made = (0, omega arith, refl) }; above = refl; first = refl }; guarded = refl }, (record { under_way = record { its = record { its = refl; made = (2, omega arith, refl) }; above = refl; first = refl }; guarded = refl }, (record { call = bare_call 2 1 2 1; admitted = record { under_way = record { its = record { its = refl; made = (2, omega arith, refl) }; above = refl; first = refl }; guarded = refl }; least = refl }, (record { under_way = record { its = record { its = refl; made = (1, omega arith, refl) }; above = refl; first = refl }; guarded = refl }, (record { under_way = record { its = record { its = refl; made = (2, omega arith, refl) }; above = refl; first = refl }; guarded = refl }, tt)))))

blocked_redone-tracked : Each (λ p. IsTrackedAt event_stubs.interface event_stubs.walks blocked_redone_history p p.item.tag) (places_of blocked_redone)
blocked_redone-tracked = (record { whole = refl; rows = tt; real = refl; file = tt }, (record { whole = refl; rows = (record { id = refl; made = refl; parent = refl; state = refl; fields = refl }, tt); real = refl; file = tt }, (tt, (record { whole = refl; rows = (record { id = refl; made = refl; parent = refl; state = refl; fields = refl }, tt); real = refl; file = tt }, (record { whole = refl; rows = (record { id = refl; made = refl; parent = refl; state = refl; fields = refl }, tt); real = refl; file = tt }, tt)))))

blocked_redone-points : ArePointsOf true event_stubs.interface.facts event_stubs.ask event_stubs.parts 0 blocked_redone.boots blocked_redone.points
blocked_redone-points = ((refl, (refl, tt)), inr (refl, refl), ((refl, (refl, (refl, tt))), refl, refl))

pub blocked_redone-recovered : IsRecovered event_stubs blocked_redone_history blocked_redone (waiting blocked_redone_ends)
blocked_redone-recovered = record {
  reboots = blocked_redone-reboots;
  served = blocked_redone-served;
  walks = blocked_redone-walks;
  on_demand = blocked_redone-demanded;
  tracked_state = blocked_redone-tracked;
  points = blocked_redone-points;
  held = (omega arith, (omega arith, (omega arith, tt)));
}
