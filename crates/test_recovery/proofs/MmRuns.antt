-- The runs of the mm service, computed.
use Rattle.std.proofs.Common.{arith, inr, refl, true}
use Rattle.test_histories.specs.sg_facts.sg_base.Lists.{Each}
use Rattle.std.specs.Prelude.{[], ◌∷◌}
use Rattle.test_recovery.specs.MmRuns.{mm_stubs, parent_first, parent_first_ends, parent_first_history, occupied_after_stop, occupied_after_stop_ends, occupied_after_stop_history, subtree, subtree_ends, subtree_history}
use Rattle.sg_recovery_laws.specs.sg_hist.Reading.{places_of}
use Rattle.sg_recovery_laws.specs.sg_hist.Recovered.{ArePointsOf, IsRebooted, IsRecovered, IsServed, waiting}
use Rattle.sg_recovery_laws.specs.sg_hist.Inside.Parts.{IsDemanded, IsTrackedAt, IsWalked}
use Rattle.test_recovery.specs.Written.{bare_call, call_with, word}

parent_first-reboots : IsRebooted mm_stubs.interface.facts mm_stubs.ask parent_first
parent_first-reboots = record {
  booted = λ is. absurd (cc is);
  table = ((refl, refl), ((refl, refl), ((refl, refl), ((refl, refl), ((refl, refl), tt)))));
  stopped = (refl, tt);
  last = (tt, (tt, (tt, (tt, (tt, tt)))));
}

parent_first-served : IsServed mm_stubs.interface.facts parent_first_history parent_first (waiting parent_first_ends)
parent_first-served = record {
  calls = ((record { its = refl; made = (0, omega arith, refl) }, refl), ((record { its = refl; made = (1, omega arith, refl) }, refl), (tt, (tt, ((record { its = refl; made = (2, omega arith, refl) }, refl), tt)))));
  items = ((refl, (refl, refl, refl)), ((refl, (refl, refl, refl)), ((refl, (refl, refl, refl)), tt)));
  committed = (refl, (refl, (tt, (tt, (refl, tt)))));
  order = (refl, (refl, (refl, tt)));
}

parent_first-walks : Each (λ p. IsWalked mm_stubs.interface.facts mm_stubs.walks parent_first_history p p.item.tag) (places_of parent_first)
parent_first-walks = (tt, (tt, (record { unmade = refl; next = refl; parent = refl; call = refl; real = refl; outcome = tt }, (record { unmade = refl; next = refl; parent = refl; call = refl; real = refl; outcome = tt }, (tt, tt)))))

parent_first-demanded : Each (λ p. IsDemanded mm_stubs.interface mm_stubs.walks parent_first_history (waiting parent_first_ends) p p.item.tag) (places_of parent_first)
parent_first-demanded = (record { under_way = record { its = record { its = refl; made = (0, omega arith, refl) }; above = refl; first = refl }; guarded = refl }, (record { under_way = record { its = record { its = refl; made = (1, omega arith, refl) }; above = refl; first = refl }; guarded = refl }, (record { call = bare_call 2 2 3 2; admitted = record { under_way = record { its = record { its = refl; made = (2, omega arith, refl) }; above = refl; first = refl }; guarded = refl }; least = refl }, (record { call = bare_call 2 2 3 2; admitted = record { under_way = record { its = record { its = refl; made = (2, omega arith, refl) }; above = refl; first = refl }; guarded = refl }; least = refl }, (record { under_way = record { its = record { its = refl; made = (2, omega arith, refl) }; above = refl; first = refl }; guarded = refl }, tt)))))

parent_first-tracked : Each (λ p. IsTrackedAt mm_stubs.interface mm_stubs.walks parent_first_history p p.item.tag) (places_of parent_first)
parent_first-tracked = (record { whole = refl; rows = tt; real = refl; file = tt }, (record { whole = refl; rows = (record { id = refl; made = refl; parent = refl; state = refl; fields = refl }, tt); real = refl; file = tt }, (tt, (tt, (record { whole = refl; rows = (record { id = refl; made = refl; parent = refl; state = refl; fields = refl }, (record { id = refl; made = refl; parent = refl; state = refl; fields = refl }, tt)); real = refl; file = tt }, tt)))))

parent_first-points : ArePointsOf true mm_stubs.interface.facts mm_stubs.ask mm_stubs.parts 0 parent_first.boots parent_first.points
parent_first-points = ((refl, (refl, tt)), inr (refl, refl), ((refl, (refl, (refl, tt))), refl, refl))

pub parent_first-recovered : IsRecovered mm_stubs parent_first_history parent_first (waiting parent_first_ends)
parent_first-recovered = record {
  reboots = parent_first-reboots;
  served = parent_first-served;
  walks = parent_first-walks;
  on_demand = parent_first-demanded;
  tracked_state = parent_first-tracked;
  points = parent_first-points;
  held = (omega arith, (omega arith, (omega arith, tt)));
}

occupied_after_stop-reboots : IsRebooted mm_stubs.interface.facts mm_stubs.ask occupied_after_stop
occupied_after_stop-reboots = record {
  booted = λ is. absurd (cc is);
  table = ((refl, refl), ((refl, refl), ((refl, refl), tt)));
  stopped = (refl, tt);
  last = (tt, (tt, (tt, tt)));
}

occupied_after_stop-served : IsServed mm_stubs.interface.facts occupied_after_stop_history occupied_after_stop (waiting occupied_after_stop_ends)
occupied_after_stop-served = record {
  calls = ((record { its = refl; made = (0, omega arith, refl) }, refl), (tt, ((record { its = refl; made = (1, omega arith, refl) }, refl), tt)));
  items = ((refl, (refl, refl, refl)), ((refl, refl), tt));
  committed = (refl, (tt, (refl, tt)));
  order = (refl, (refl, tt));
}

occupied_after_stop-walks : Each (λ p. IsWalked mm_stubs.interface.facts mm_stubs.walks occupied_after_stop_history p p.item.tag) (places_of occupied_after_stop)
occupied_after_stop-walks = (tt, (record { unmade = refl; next = refl; parent = refl; call = refl; real = refl; outcome = tt }, (tt, tt)))

occupied_after_stop-demanded : Each (λ p. IsDemanded mm_stubs.interface mm_stubs.walks occupied_after_stop_history (waiting occupied_after_stop_ends) p p.item.tag) (places_of occupied_after_stop)
occupied_after_stop-demanded = (record { under_way = record { its = record { its = refl; made = (0, omega arith, refl) }; above = refl; first = refl }; guarded = refl }, (record { call = call_with 1 2 1 0 ((word 4096) ∷ []); admitted = record { under_way = record { its = record { its = refl; made = (1, omega arith, refl) }; above = refl; first = refl }; guarded = refl }; least = refl }, (record { under_way = record { its = record { its = refl; made = (1, omega arith, refl) }; above = refl; first = refl }; guarded = refl }, tt)))

occupied_after_stop-tracked : Each (λ p. IsTrackedAt mm_stubs.interface mm_stubs.walks occupied_after_stop_history p p.item.tag) (places_of occupied_after_stop)
occupied_after_stop-tracked = (record { whole = refl; rows = tt; real = refl; file = tt }, (tt, (record { whole = refl; rows = (record { id = refl; made = refl; parent = refl; state = refl; fields = refl }, tt); real = refl; file = tt }, tt)))

occupied_after_stop-points : ArePointsOf true mm_stubs.interface.facts mm_stubs.ask mm_stubs.parts 0 occupied_after_stop.boots occupied_after_stop.points
occupied_after_stop-points = ((refl, tt), inr (refl, refl), ((refl, (refl, tt)), refl, refl))

pub occupied_after_stop-recovered : IsRecovered mm_stubs occupied_after_stop_history occupied_after_stop (waiting occupied_after_stop_ends)
occupied_after_stop-recovered = record {
  reboots = occupied_after_stop-reboots;
  served = occupied_after_stop-served;
  walks = occupied_after_stop-walks;
  on_demand = occupied_after_stop-demanded;
  tracked_state = occupied_after_stop-tracked;
  points = occupied_after_stop-points;
  held = (omega arith, (omega arith, tt));
}

subtree-reboots : IsRebooted mm_stubs.interface.facts mm_stubs.ask subtree
subtree-reboots = record {
  booted = λ is. absurd (cc is);
  table = ((refl, refl), ((refl, refl), ((refl, refl), ((refl, refl), ((refl, refl), ((refl, refl), ((refl, refl), tt)))))));
  stopped = (refl, tt);
  last = (tt, (tt, (tt, (tt, (tt, (tt, (tt, tt)))))));
}

subtree-served : IsServed mm_stubs.interface.facts subtree_history subtree (waiting subtree_ends)
subtree-served = record {
  calls = ((record { its = refl; made = (0, omega arith, refl) }, refl), ((record { its = refl; made = (1, omega arith, refl) }, refl), ((record { its = refl; made = (2, omega arith, refl) }, refl), (tt, (tt, ((record { its = refl; made = (3, omega arith, refl) }, refl), ((record { its = refl; made = (4, omega arith, refl) }, refl), tt)))))));
  items = ((refl, (refl, refl, refl)), ((refl, (refl, refl, refl)), ((refl, (refl, refl, refl)), ((refl, (refl, refl, refl)), ((refl, refl), (tt, (tt, tt)))))));
  committed = (refl, (refl, (refl, (tt, (tt, (refl, (refl, tt)))))));
  order = (refl, (refl, (refl, (refl, (refl, (tt, (tt, tt)))))));
}

subtree-walks : Each (λ p. IsWalked mm_stubs.interface.facts mm_stubs.walks subtree_history p p.item.tag) (places_of subtree)
subtree-walks = (tt, (tt, (tt, (record { unmade = refl; next = refl; parent = refl; call = refl; real = refl; outcome = tt }, (record { unmade = refl; next = refl; parent = refl; call = refl; real = refl; outcome = tt }, (tt, (tt, tt)))))))

subtree-demanded : Each (λ p. IsDemanded mm_stubs.interface mm_stubs.walks subtree_history (waiting subtree_ends) p p.item.tag) (places_of subtree)
subtree-demanded = (record { under_way = record { its = record { its = refl; made = (0, omega arith, refl) }; above = refl; first = refl }; guarded = refl }, (record { under_way = record { its = record { its = refl; made = (1, omega arith, refl) }; above = refl; first = refl }; guarded = refl }, (record { under_way = record { its = record { its = refl; made = (2, omega arith, refl) }; above = refl; first = refl }; guarded = refl }, (record { call = call_with 2 1 4 0 ((word 1) ∷ (word 8192) ∷ []); admitted = record { under_way = record { its = record { its = refl; made = (4, omega arith, refl) }; above = refl; first = refl }; guarded = refl }; least = refl }, (record { call = call_with 2 1 4 0 ((word 1) ∷ (word 8192) ∷ []); admitted = record { under_way = record { its = record { its = refl; made = (4, omega arith, refl) }; above = refl; first = refl }; guarded = refl }; least = refl }, (record { under_way = record { its = record { its = refl; made = (3, omega arith, refl) }; above = refl; first = refl }; guarded = refl }, (record { under_way = record { its = record { its = refl; made = (4, omega arith, refl) }; above = refl; first = refl }; guarded = refl }, tt)))))))

subtree-tracked : Each (λ p. IsTrackedAt mm_stubs.interface mm_stubs.walks subtree_history p p.item.tag) (places_of subtree)
subtree-tracked = (record { whole = refl; rows = tt; real = refl; file = tt }, (record { whole = refl; rows = (record { id = refl; made = refl; parent = refl; state = refl; fields = refl }, tt); real = refl; file = tt }, (record { whole = refl; rows = (record { id = refl; made = refl; parent = refl; state = refl; fields = refl }, (record { id = refl; made = refl; parent = refl; state = refl; fields = refl }, tt)); real = refl; file = tt }, (tt, (tt, (record { whole = refl; rows = (record { id = refl; made = refl; parent = refl; state = refl; fields = refl }, tt); real = refl; file = tt }, (record { whole = refl; rows = tt; real = refl; file = tt }, tt)))))))

subtree-points : ArePointsOf true mm_stubs.interface.facts mm_stubs.ask mm_stubs.parts 0 subtree.boots subtree.points
subtree-points = ((refl, (refl, (refl, tt))), inr (refl, refl), ((refl, (refl, (refl, (refl, tt)))), refl, refl))

pub subtree-recovered : IsRecovered mm_stubs subtree_history subtree (waiting subtree_ends)
subtree-recovered = record {
  reboots = subtree-reboots;
  served = subtree-served;
  walks = subtree-walks;
  on_demand = subtree-demanded;
  tracked_state = subtree-tracked;
  points = subtree-points;
  held = (omega arith, (omega arith, (omega arith, (omega arith, (omega arith, (omega arith, (omega arith, tt)))))));
}
