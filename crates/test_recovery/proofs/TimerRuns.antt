-- The runs of the timer service, computed.
use Rattle.std.proofs.Common.{arith, inr, refl, true}
use Rattle.test_histories.specs.sg_facts.sg_base.Lists.{Each}
use Rattle.test_recovery.specs.TimerRuns.{timer_stubs, time_kept, time_kept_ends, time_kept_history}
use Rattle.sg_recovery_laws.specs.sg_hist.Reading.{places_of}
use Rattle.sg_recovery_laws.specs.sg_hist.Recovered.{ArePointsOf, IsRebooted, IsRecovered, IsServed, waiting}
use Rattle.sg_recovery_laws.specs.sg_hist.Inside.Parts.{IsDemanded, IsTrackedAt, IsWalked}
use Rattle.test_recovery.specs.Written.{bare_call}

time_kept-reboots : IsRebooted timer_stubs.interface.facts timer_stubs.ask time_kept
time_kept-reboots = record {
  booted = λ is. absurd (cc is);
  table = ((refl, refl), ((refl, refl), ((refl, refl), ((refl, refl), ((refl, refl), ((refl, refl), tt))))));
  stopped = (refl, tt);
  last = (tt, (tt, (tt, (tt, (tt, (tt, tt))))));
}

time_kept-served : IsServed timer_stubs.interface.facts time_kept_history time_kept (waiting time_kept_ends)
time_kept-served = record {
  calls = ((record { its = refl; made = (0, omega arith, refl) }, refl), ((record { its = refl; made = (1, omega arith, refl) }, refl), (tt, (tt, (tt, ((record { its = refl; made = (2, omega arith, refl) }, refl), tt))))));
  items = ((refl, (refl, refl, refl)), ((refl, (refl, refl, refl)), ((refl, (refl, refl, refl)), tt)));
  committed = (refl, (refl, (tt, (tt, (tt, (refl, tt))))));
  order = (refl, (refl, (refl, tt)));
}

time_kept-walks : Each (λ p. IsWalked timer_stubs.interface.facts timer_stubs.walks time_kept_history p p.item.tag) (places_of time_kept)
time_kept-walks = (tt, (tt, (record { unmade = refl; next = refl; parent = refl; call = refl; real = refl; outcome = tt }, (record { unmade = refl; next = refl; parent = refl; call = refl; real = refl; outcome = tt }, (record { unmade = refl; next = refl; parent = refl; call = refl; real = refl; outcome = tt }, (tt, tt))))))

time_kept-demanded : Each (λ p. IsDemanded timer_stubs.interface timer_stubs.walks time_kept_history (waiting time_kept_ends) p p.item.tag) (places_of time_kept)
time_kept-demanded = (record { under_way = record { its = record { its = refl; made = (0, omega arith, refl) }; above = refl; first = refl }; guarded = refl }, (record { under_way = record { its = record { its = refl; made = (1, omega arith, refl) }; above = refl; first = refl }; guarded = refl }, (record { call = bare_call 1 3 3 1; admitted = record { under_way = record { its = record { its = refl; made = (2, omega arith, refl) }; above = refl; first = refl }; guarded = refl }; least = refl }, (record { call = bare_call 1 3 3 1; admitted = record { under_way = record { its = record { its = refl; made = (2, omega arith, refl) }; above = refl; first = refl }; guarded = refl }; least = refl }, (record { call = bare_call 1 3 3 1; admitted = record { under_way = record { its = record { its = refl; made = (2, omega arith, refl) }; above = refl; first = refl }; guarded = refl }; least = refl }, (record { under_way = record { its = record { its = refl; made = (2, omega arith, refl) }; above = refl; first = refl }; guarded = refl }, tt))))))

time_kept-tracked : Each (λ p. IsTrackedAt timer_stubs.interface timer_stubs.walks time_kept_history p p.item.tag) (places_of time_kept)
time_kept-tracked = (record { whole = refl; rows = tt; real = refl; file = tt }, (record { whole = refl; rows = (record { id = refl; made = refl; parent = refl; state = refl; fields = refl }, tt); real = refl; file = tt }, (tt, (tt, (tt, (record { whole = refl; rows = (record { id = refl; made = refl; parent = refl; state = refl; fields = refl }, tt); real = refl; file = tt }, tt))))))

time_kept-points : ArePointsOf true timer_stubs.interface.facts timer_stubs.ask timer_stubs.parts 0 time_kept.boots time_kept.points
time_kept-points = ((refl, (refl, tt)), inr (refl, refl), ((refl, (refl, (refl, (refl, tt)))), refl, refl))

pub time_kept-recovered : IsRecovered timer_stubs time_kept_history time_kept (waiting time_kept_ends)
time_kept-recovered = record {
  reboots = time_kept-reboots;
  served = time_kept-served;
  walks = time_kept-walks;
  on_demand = time_kept-demanded;
  tracked_state = time_kept-tracked;
  points = time_kept-points;
  held = (omega arith, (omega arith, (omega arith, tt)));
}
