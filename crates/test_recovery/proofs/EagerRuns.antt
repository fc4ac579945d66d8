-- The runs under an interface that rebuilds every lock first, computed.
use Rattle.std.proofs.Common.{◌≡◌, ap, inl, refl, arith, true}
use Rattle.test_histories.specs.sg_facts.sg_base.Lists.{Each}
use Rattle.sg_recovery_laws.specs.sg_hist.Reading.{places_of}
use Rattle.sg_recovery_laws.specs.sg_hist.Recovered.{ArePointsOf, IsRebooted, IsRecovered, IsServed, waiting}
use Rattle.sg_recovery_laws.specs.sg_hist.Inside.Parts.{IsDemanded, IsTrackedAt, IsWalked}
use Rattle.test_recovery.specs.EagerRuns.{both_rebuilt, eager_ends, eager_history, eager_stubs, one_rebuilt, second_first}
use Rattle.test_recovery.specs.LockRuns.{lock_stubs}
use Rattle.test_recovery.specs.Written.{bare_call}
use Rattle.test_recovery.proofs.Apart.{false_true, id_in}

both_rebuilt-reboots : IsRebooted eager_stubs.interface.facts eager_stubs.ask both_rebuilt
both_rebuilt-reboots = record {
  booted = λ is. absurd (cc is);
  table = ((refl, refl), ((refl, refl), ((refl, refl), ((refl, refl), ((refl, refl), ((refl, refl), ((refl, refl), tt)))))));
  stopped = (refl, tt);
  last = (tt, (tt, (tt, (tt, (tt, (tt, (tt, tt)))))));
}

both_rebuilt-served : IsServed eager_stubs.interface.facts eager_history both_rebuilt (waiting eager_ends)
both_rebuilt-served = record {
  calls = ((record { its = refl; made = (0, omega arith, refl) }, refl), ((record { its = refl; made = (1, omega arith, refl) }, refl), ((record { its = refl; made = (2, omega arith, refl) }, refl), (tt, (tt, (tt, ((record { its = refl; made = (3, omega arith, refl) }, refl), tt)))))));
  items = ((refl, (refl, refl, refl)), ((refl, (refl, refl, refl)), ((refl, (refl, refl, refl)), ((refl, (refl, refl, refl)), tt))));
  committed = (refl, (refl, (refl, (tt, (tt, (tt, (refl, tt)))))));
  order = (refl, (refl, (refl, (refl, tt))));
}

both_rebuilt-walks : Each (λ p. IsWalked eager_stubs.interface.facts eager_stubs.walks eager_history p p.item.tag) (places_of both_rebuilt)
both_rebuilt-walks = (tt, (tt, (tt, (record { unmade = refl; next = refl; parent = refl; call = refl; real = refl; outcome = tt }, (record { unmade = refl; next = refl; parent = refl; call = refl; real = refl; outcome = tt }, (record { unmade = refl; next = refl; parent = refl; call = refl; real = refl; outcome = tt }, (tt, tt)))))))

both_rebuilt-demanded : Each (λ p. IsDemanded eager_stubs.interface eager_stubs.walks eager_history (waiting eager_ends) p p.item.tag) (places_of both_rebuilt)
both_rebuilt-demanded = (record { under_way = record { its = record { its = refl; made = (0, omega arith, refl) }; above = refl; first = refl }; guarded = refl }, (record { under_way = record { its = record { its = refl; made = (1, omega arith, refl) }; above = refl; first = refl }; guarded = refl }, (record { under_way = record { its = record { its = refl; made = (2, omega arith, refl) }; above = refl; first = refl }; guarded = refl }, (record { call = bare_call 1 4 3 1; admitted = record { under_way = record { its = record { its = refl; made = (3, omega arith, refl) }; above = refl; first = refl }; guarded = refl }; least = refl }, (record { call = bare_call 1 4 3 1; admitted = record { under_way = record { its = record { its = refl; made = (3, omega arith, refl) }; above = refl; first = refl }; guarded = refl }; least = refl }, (record { call = bare_call 1 4 3 1; admitted = record { under_way = record { its = record { its = refl; made = (3, omega arith, refl) }; above = refl; first = refl }; guarded = refl }; least = refl }, (record { under_way = record { its = record { its = refl; made = (3, omega arith, refl) }; above = refl; first = refl }; guarded = refl }, tt)))))))

both_rebuilt-tracked : Each (λ p. IsTrackedAt eager_stubs.interface eager_stubs.walks eager_history p p.item.tag) (places_of both_rebuilt)
both_rebuilt-tracked = (record { whole = refl; rows = tt; real = refl; file = tt }, (record { whole = refl; rows = tt; real = refl; file = tt }, (record { whole = refl; rows = (record { id = refl; made = refl; parent = refl; state = refl; fields = refl }, tt); real = refl; file = tt }, (tt, (tt, (tt, (record { whole = refl; rows = (record { id = refl; made = refl; parent = refl; state = refl; fields = refl }, tt); real = refl; file = tt }, tt)))))))

both_rebuilt-points : ArePointsOf true eager_stubs.interface.facts eager_stubs.ask eager_stubs.parts 0 both_rebuilt.boots both_rebuilt.points
both_rebuilt-points = ((refl, (refl, (refl, tt))), inl (refl, refl), ((refl, (refl, (refl, (refl, tt)))), refl, refl))

pub both_rebuilt-recovered : IsRecovered eager_stubs eager_history both_rebuilt (waiting eager_ends)
both_rebuilt-recovered = record {
  reboots = both_rebuilt-reboots;
  served = both_rebuilt-served;
  walks = both_rebuilt-walks;
  on_demand = both_rebuilt-demanded;
  tracked_state = both_rebuilt-tracked;
  points = both_rebuilt-points;
  held = (omega arith, (omega arith, (omega arith, (omega arith, tt))));
}

-- the second lock isn't whole when the release reaches the service
pub one_rebuilt-wrong : IsRecovered eager_stubs eager_history one_rebuilt (waiting eager_ends) → ⊥
one_rebuilt-wrong r = false_true r.tracked_state.1.1.1.1.1.0.whole

one_rebuilt-reboots : IsRebooted lock_stubs.interface.facts lock_stubs.ask one_rebuilt
one_rebuilt-reboots = record {
  booted = λ is. absurd (cc is);
  table = ((refl, refl), ((refl, refl), ((refl, refl), ((refl, refl), ((refl, refl), ((refl, refl), tt))))));
  stopped = (refl, tt);
  last = (tt, (tt, (tt, (tt, (tt, (tt, tt))))));
}

one_rebuilt-served : IsServed lock_stubs.interface.facts eager_history one_rebuilt (waiting eager_ends)
one_rebuilt-served = record {
  calls = ((record { its = refl; made = (0, omega arith, refl) }, refl), ((record { its = refl; made = (1, omega arith, refl) }, refl), ((record { its = refl; made = (2, omega arith, refl) }, refl), (tt, (tt, ((record { its = refl; made = (3, omega arith, refl) }, refl), tt))))));
  items = ((refl, (refl, refl, refl)), ((refl, (refl, refl, refl)), ((refl, (refl, refl, refl)), ((refl, (refl, refl, refl)), tt))));
  committed = (refl, (refl, (refl, (tt, (tt, (refl, tt))))));
  order = (refl, (refl, (refl, (refl, tt))));
}

one_rebuilt-walks : Each (λ p. IsWalked lock_stubs.interface.facts lock_stubs.walks eager_history p p.item.tag) (places_of one_rebuilt)
one_rebuilt-walks = (tt, (tt, (tt, (record { unmade = refl; next = refl; parent = refl; call = refl; real = refl; outcome = tt }, (record { unmade = refl; next = refl; parent = refl; call = refl; real = refl; outcome = tt }, (tt, tt))))))

one_rebuilt-demanded : Each (λ p. IsDemanded lock_stubs.interface lock_stubs.walks eager_history (waiting eager_ends) p p.item.tag) (places_of one_rebuilt)
one_rebuilt-demanded = (record { under_way = record { its = record { its = refl; made = (0, omega arith, refl) }; above = refl; first = refl }; guarded = refl }, (record { under_way = record { its = record { its = refl; made = (1, omega arith, refl) }; above = refl; first = refl }; guarded = refl }, (record { under_way = record { its = record { its = refl; made = (2, omega arith, refl) }; above = refl; first = refl }; guarded = refl }, (record { call = bare_call 1 4 3 1; admitted = record { under_way = record { its = record { its = refl; made = (3, omega arith, refl) }; above = refl; first = refl }; guarded = refl }; least = refl }, (record { call = bare_call 1 4 3 1; admitted = record { under_way = record { its = record { its = refl; made = (3, omega arith, refl) }; above = refl; first = refl }; guarded = refl }; least = refl }, (record { under_way = record { its = record { its = refl; made = (3, omega arith, refl) }; above = refl; first = refl }; guarded = refl }, tt))))))

one_rebuilt-tracked : Each (λ p. IsTrackedAt lock_stubs.interface lock_stubs.walks eager_history p p.item.tag) (places_of one_rebuilt)
one_rebuilt-tracked = (record { whole = refl; rows = tt; real = refl; file = tt }, (record { whole = refl; rows = tt; real = refl; file = tt }, (record { whole = refl; rows = (record { id = refl; made = refl; parent = refl; state = refl; fields = refl }, tt); real = refl; file = tt }, (tt, (tt, (record { whole = refl; rows = (record { id = refl; made = refl; parent = refl; state = refl; fields = refl }, tt); real = refl; file = tt }, tt))))))

one_rebuilt-points : ArePointsOf true lock_stubs.interface.facts lock_stubs.ask lock_stubs.parts 0 one_rebuilt.boots one_rebuilt.points
one_rebuilt-points = ((refl, (refl, (refl, tt))), inl (refl, refl), ((refl, (refl, (refl, tt))), refl, refl))

pub one_rebuilt-recovered : IsRecovered lock_stubs eager_history one_rebuilt (waiting eager_ends)
one_rebuilt-recovered = record {
  reboots = one_rebuilt-reboots;
  served = one_rebuilt-served;
  walks = one_rebuilt-walks;
  on_demand = one_rebuilt-demanded;
  tracked_state = one_rebuilt-tracked;
  points = one_rebuilt-points;
  held = (omega arith, (omega arith, (omega arith, (omega arith, tt))));
}

-- the least that isn't whole is the first lock, whichever call it is wanted for
pub second_first-wrong : IsRecovered eager_stubs eager_history second_first (waiting eager_ends) → ⊥
second_first-wrong r = let e : 1 ≡ 2 = ap id_in r.on_demand.1.1.1.0.least in omega (arith, e)
