-- The runs of the event service that do not recover: what each of them lacks.
use Rattle.std.proofs.Common.{◌≡◌, ap, arith}
use Rattle.test_recovery.specs.EventRuns.{event_stubs, earlier_value, present_value_ends, present_value_history}
use Rattle.sg_recovery_laws.specs.sg_hist.Recovered.{IsRecovered, waiting}
use Rattle.test_recovery.proofs.Apart.{first_in}

pub earlier_value-wrong : IsRecovered event_stubs present_value_history earlier_value (waiting present_value_ends) → ⊥
earlier_value-wrong r = let e : 3 ≡ 5 = ap first_in r.walks.1.1.1.1.1.0.call in omega (arith, e)
