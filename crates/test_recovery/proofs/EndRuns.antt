-- Runs that end as none may, or whose calls are under way at the wrong time: what each of them lacks.
use Rattle.std.proofs.Common.{◌≡◌, ℕ, zero, suc, ◌<◌, ◌≤◌, ◌-◌, true, ap, arith, inl, inr, refl, subst, sym}
use Rattle.std.specs.Prelude.{[], ◌∷◌, slice_index_or}
use Rattle.test_histories.specs.sg_facts.sg_base.Counts.{last_count}
use Rattle.test_histories.specs.sg_facts.sg_base.declared.call.Call.{Call}
use Rattle.sg_recovery_laws.specs.sg_hist.Recovered.{ArePointsOf, IsRecovered, waiting}
use Rattle.sg_recovery_laws.specs.sg_hist.Ending.{AreLost, AsksAfter, HasRecovered}
use Rattle.test_recovery.specs.LockRuns.{lock_stubs}
use Rattle.test_recovery.specs.RamfsRuns.{held_late, held_late_history, held_lost, held_lost_history, ramfs_stubs}
use Rattle.test_recovery.specs.EndRuns.{asked_early, asked_late, both_opened, counted_for_nothing, held_asked_twice, held_seek, load_shows_a_call, made_at_the_end, other_waits, refused_early, refused_late, slept_over_reboot, sought_and_read, sought_at_last, sought_ends, stopped_after, stopped_idle, stopped_unasked, stopped_unused, take_after_refusal, taken_and_held, until_wait, waits_again, waits_asked, waits_once_more, waits_unasked, written_and_read}
use Rattle.test_recovery.specs.StrictRuns.{alloc, one_made, one_made_ends, one_taken, other_take}
use Rattle.test_recovery.specs.Written.{bare_call}
use Rattle.test_recovery.proofs.Apart.{false_true}
use Rattle.test_recovery.proofs.LockTables.{lock_tables}

-- ---- who waits

pub waits_unasked-wrong : HasRecovered lock_stubs one_taken waits_unasked other_waits → ⊥
waits_unasked-wrong r = false_true r.blocked.0

pub waits_unasked-recovered : IsRecovered lock_stubs one_taken waits_unasked (waiting other_waits)
waits_unasked-recovered = record {
  reboots = record { booted = λ is. absurd (cc is); table = ((refl, refl), ((refl, refl), tt)); stopped = tt; last = (tt, (tt, tt)) };
  served = record {
    calls = ((record { its = refl; made = (0, omega arith, refl) }, refl), ((record { its = refl; made = (1, omega arith, refl) }, refl), tt));
    items = ((refl, (refl, refl, refl)), ((refl, (refl, refl, refl)), tt));
    committed = (refl, (refl, tt));
    order = (refl, (refl, tt));
  };
  walks = (tt, (tt, tt));
  on_demand = (
    record { under_way = record { its = record { its = refl; made = (0, omega arith, refl) }; above = refl; first = refl }; guarded = refl },
    (record { under_way = record { its = record { its = refl; made = (1, omega arith, refl) }; above = refl; first = refl }; guarded = refl }, tt),
  );
  tracked_state = (
    record { whole = refl; rows = tt; real = refl; file = tt },
    (record { whole = refl; rows = (record { id = refl; made = refl; parent = refl; state = refl; fields = refl }, tt); real = refl; file = tt }, tt),
  );
  points = ((refl, (refl, tt)), refl, refl);
  held = (omega arith, (omega arith, tt));
}

-- where it was asked, the run ends well
pub waits_asked-recovered : HasRecovered lock_stubs one_taken waits_asked other_waits
waits_asked-recovered = record {
  tables = lock_tables;
  recovered = record {
    reboots = record { booted = λ is. absurd (cc is); table = ((refl, refl), ((refl, refl), (refl, tt))); stopped = tt; last = (tt, (tt, (tt, tt))) };
    served = record {
      calls = (
        (record { its = refl; made = (0, omega arith, refl) }, refl),
        ((record { its = refl; made = (1, omega arith, refl) }, refl), ((record { its = refl; made = (2, omega arith, refl) }, refl), tt)),
      );
      items = ((refl, (refl, refl, refl)), ((refl, (refl, refl, refl)), tt));
      committed = (refl, (refl, (tt, tt)));
      order = (refl, (refl, tt));
    };
    walks = (tt, (tt, (tt, tt)));
    on_demand = (
      record { under_way = record { its = record { its = refl; made = (0, omega arith, refl) }; above = refl; first = refl }; guarded = refl },
      (
        record { under_way = record { its = record { its = refl; made = (1, omega arith, refl) }; above = refl; first = refl }; guarded = refl },
        (record { under_way = record { its = record { its = refl; made = (2, omega arith, refl) }; above = refl; first = refl }; guarded = refl }, tt),
      ),
    );
    tracked_state = (
      record { whole = refl; rows = tt; real = refl; file = tt },
      (
        record { whole = refl; rows = (record { id = refl; made = refl; parent = refl; state = refl; fields = refl }, tt); real = refl; file = tt },
        (record { whole = refl; rows = (record { id = refl; made = refl; parent = refl; state = refl; fields = refl }, tt); real = refl; file = tt }, tt),
      ),
    );
    points = ((refl, (refl, (refl, tt))), refl, refl);
    held = (omega arith, (omega arith, tt));
  };
  blocked = (refl, tt);
  used = λ few. let two : 2 ≤ 1 = few in absurd (omega (arith, two));
  asked = (tt, tt);
  lost = ((tt, (tt, (tt, tt))), tt);
}

pub slept_over_reboot-wrong : HasRecovered lock_stubs taken_and_held slept_over_reboot other_waits → ⊥
slept_over_reboot-wrong r = false_true r.blocked.0

-- ---- stops

pub waits_again-recovered : IsRecovered lock_stubs one_taken waits_again (waiting other_waits)
waits_again-recovered = record {
  reboots = record { booted = λ is. absurd (cc is); table = ((refl, refl), ((refl, refl), (refl, ((refl, refl), ((refl, refl), (refl, tt)))))); stopped = (refl, tt); last = (tt, (tt, (tt, (tt, (tt, (tt, tt)))))) };
  served = record {
    calls = ((record { its = refl; made = (0, omega arith, refl) }, refl), ((record { its = refl; made = (1, omega arith, refl) }, refl), ((record { its = refl; made = (2, omega arith, refl) }, refl), (tt, (tt, ((record { its = refl; made = (2, omega arith, refl) }, refl), tt))))));
    items = ((refl, (refl, refl, refl)), ((refl, (refl, refl, refl)), tt));
    committed = (refl, (refl, (tt, (tt, (tt, (tt, tt))))));
    order = (refl, (refl, tt));
  };
  walks = (tt, (tt, (tt, (record { unmade = refl; next = refl; parent = refl; call = refl; real = refl; outcome = tt }, (record { unmade = refl; next = refl; parent = refl; call = refl; real = refl; outcome = tt }, (tt, tt))))));
  on_demand = (record { under_way = record { its = record { its = refl; made = (0, omega arith, refl) }; above = refl; first = refl }; guarded = refl }, (record { under_way = record { its = record { its = refl; made = (1, omega arith, refl) }; above = refl; first = refl }; guarded = refl }, (record { under_way = record { its = record { its = refl; made = (2, omega arith, refl) }; above = refl; first = refl }; guarded = refl }, (record { call = bare_call 2 1 2 1; admitted = record { under_way = record { its = record { its = refl; made = (2, omega arith, refl) }; above = refl; first = refl }; guarded = refl }; least = refl }, (record { call = bare_call 2 1 2 1; admitted = record { under_way = record { its = record { its = refl; made = (2, omega arith, refl) }; above = refl; first = refl }; guarded = refl }; least = refl }, (record { under_way = record { its = record { its = refl; made = (2, omega arith, refl) }; above = refl; first = refl }; guarded = refl }, tt))))));
  tracked_state = (record { whole = refl; rows = tt; real = refl; file = tt }, (record { whole = refl; rows = (record { id = refl; made = refl; parent = refl; state = refl; fields = refl }, tt); real = refl; file = tt }, (record { whole = refl; rows = (record { id = refl; made = refl; parent = refl; state = refl; fields = refl }, tt); real = refl; file = tt }, (tt, (tt, (record { whole = refl; rows = (record { id = refl; made = refl; parent = refl; state = refl; fields = refl }, tt); real = refl; file = tt }, tt))))));
  points = ((refl, (refl, (refl, tt))), inr (refl, refl), ((refl, (refl, (refl, tt))), refl, refl));
  held = (omega arith, (omega arith, tt));
}

abbrev AsksThen : Call → Type 0
AsksThen call = AsksAfter lock_stubs.interface one_taken (waiting other_waits) [] until_wait waits_once_more call

-- the calls of client 1 are answered as the service stops, and that of client 2 is left to wait
none_asks : (k : ℕ) (call : Call) → k < 3 → slice_index_or (alloc ∷ bare_call 1 2 2 1 ∷ other_take ∷ []) k call ≡ call → AsksThen call → ⊥
none_asks zero call less is asks = false_true (subst AsksThen (sym is) asks).admitted.under_way.above
none_asks (suc zero) call less is asks = false_true (subst AsksThen (sym is) asks).admitted.under_way.above
none_asks (suc (suc zero)) call less is asks = false_true (sym (subst AsksThen (sym is) asks).awake)
none_asks (suc (suc (suc k))) call less is asks = omega (arith, less)

pub waits_again-wrong : HasRecovered lock_stubs one_taken waits_again other_waits → ⊥
waits_again-wrong r = elim r.asked.0 [
  | inl commit ↦ false_true commit.0
  | inr later ↦ (let made = later.1.1.admitted.under_way.its.made in none_asks made.0 later.1.0 made.1 made.2 later.1.1)
]

-- where the service stops as it is about to be used for a call that goes on to wait, the run ends well
pub stopped_idle-recovered : HasRecovered lock_stubs one_taken stopped_idle other_waits
stopped_idle-recovered = record {
  tables = lock_tables;
  recovered = record {
    reboots = record { booted = λ is. absurd (cc is); table = ((refl, refl), ((refl, refl), ((refl, refl), ((refl, refl), (refl, tt))))); stopped = (refl, tt); last = (tt, (tt, (tt, (tt, (tt, tt))))) };
    served = record {
      calls = ((record { its = refl; made = (0, omega arith, refl) }, refl), ((record { its = refl; made = (1, omega arith, refl) }, refl), (tt, (tt, ((record { its = refl; made = (2, omega arith, refl) }, refl), tt)))));
      items = ((refl, (refl, refl, refl)), ((refl, (refl, refl, refl)), tt));
      committed = (refl, (refl, (tt, (tt, (tt, tt)))));
      order = (refl, (refl, tt));
    };
    walks = (tt, (tt, (record { unmade = refl; next = refl; parent = refl; call = refl; real = refl; outcome = tt }, (record { unmade = refl; next = refl; parent = refl; call = refl; real = refl; outcome = tt }, (tt, tt)))));
    on_demand = (record { under_way = record { its = record { its = refl; made = (0, omega arith, refl) }; above = refl; first = refl }; guarded = refl }, (record { under_way = record { its = record { its = refl; made = (1, omega arith, refl) }; above = refl; first = refl }; guarded = refl }, (record { call = bare_call 2 1 2 1; admitted = record { under_way = record { its = record { its = refl; made = (2, omega arith, refl) }; above = refl; first = refl }; guarded = refl }; least = refl }, (record { call = bare_call 2 1 2 1; admitted = record { under_way = record { its = record { its = refl; made = (2, omega arith, refl) }; above = refl; first = refl }; guarded = refl }; least = refl }, (record { under_way = record { its = record { its = refl; made = (2, omega arith, refl) }; above = refl; first = refl }; guarded = refl }, tt)))));
    tracked_state = (record { whole = refl; rows = tt; real = refl; file = tt }, (record { whole = refl; rows = (record { id = refl; made = refl; parent = refl; state = refl; fields = refl }, tt); real = refl; file = tt }, (tt, (tt, (record { whole = refl; rows = (record { id = refl; made = refl; parent = refl; state = refl; fields = refl }, tt); real = refl; file = tt }, tt)))));
    points = ((refl, (refl, tt)), inr (refl, refl), ((refl, (refl, (refl, tt))), refl, refl));
    held = (omega arith, (omega arith, tt));
  };
  blocked = (refl, tt);
  used = λ few is. absurd (cc is);
  asked = (
    inr (
      (λ is. cc is),
      (
        other_take,
        record {
          admitted = record { under_way = record { its = record { its = refl; made = (2, omega arith, refl) }; above = refl; first = refl }; guarded = refl };
          unreplied = refl;
          awake = refl;
        },
      ),
    ),
    (tt, tt),
  );
  lost = ((tt, (tt, tt)), ((tt, (tt, (tt, tt))), tt));
}

-- ---- the last boot

pub stopped_unasked-wrong : HasRecovered lock_stubs one_made stopped_unasked one_made_ends → ⊥
stopped_unasked-wrong r = elim r.asked.0 [ inl commit ↦ (let e : 6 ≡ 5 = commit.1 in omega (arith, e)) | inr later ↦ later.0 refl ]

pub stopped_unasked-recovered : IsRecovered lock_stubs one_made stopped_unasked []
stopped_unasked-recovered = record {
  reboots = record { booted = λ is. absurd (cc is); table = ((refl, refl), tt); stopped = tt; last = (tt, tt) };
  served = record {
    calls = ((record { its = refl; made = (0, omega arith, refl) }, refl), tt);
    items = ((refl, (refl, refl, refl)), tt);
    committed = (refl, tt);
    order = (refl, tt);
  };
  walks = (tt, tt);
  on_demand = (record { under_way = record { its = record { its = refl; made = (0, omega arith, refl) }; above = refl; first = refl }; guarded = refl }, tt);
  tracked_state = (record { whole = refl; rows = tt; real = refl; file = tt }, tt);
  points = ((refl, tt), inr (refl, refl), refl);
  held = (omega arith, tt);
}

pub stopped_unused-wrong : HasRecovered lock_stubs one_made stopped_unused one_made_ends → ⊥
stopped_unused-wrong r = r.used (omega arith) refl

-- ---- replies that were lost

pub held_asked_twice-wrong : HasRecovered ramfs_stubs sought_and_read held_asked_twice sought_ends → ⊥
held_asked_twice-wrong r = false_true r.lost.0.1.0.0

pub held_asked_twice-recovered : IsRecovered ramfs_stubs sought_and_read held_asked_twice (waiting sought_ends)
held_asked_twice-recovered = record {
  reboots = record {
    booted = λ is. absurd (cc is);
    table = ((refl, refl), ((refl, refl), ((refl, refl), ((refl, refl), tt))));
    stopped = tt;
    last = (tt, (tt, (tt, (tt, tt))));
  };
  served = record {
    calls = (
      (record { its = refl; made = (0, omega arith, refl) }, refl),
      ((record { its = refl; made = (1, omega arith, refl) }, refl), ((record { its = refl; made = (1, omega arith, refl) }, refl), ((record { its = refl; made = (2, omega arith, refl) }, refl), tt))),
    );
    items = ((refl, (refl, refl, refl)), ((refl, (refl, refl, refl)), ((refl, (refl, refl, refl)), tt)));
    committed = (refl, (tt, (tt, (refl, tt))));
    order = (refl, (tt, (refl, tt)));
  };
  walks = (tt, (tt, (tt, (tt, tt))));
  on_demand = (
    record { under_way = record { its = record { its = refl; made = (0, omega arith, refl) }; above = refl; first = refl }; guarded = refl },
    (
      record { under_way = record { its = record { its = refl; made = (1, omega arith, refl) }; above = refl; first = refl }; guarded = refl },
      (
        record { under_way = record { its = record { its = refl; made = (1, omega arith, refl) }; above = refl; first = refl }; guarded = refl },
        (record { under_way = record { its = record { its = refl; made = (2, omega arith, refl) }; above = refl; first = refl }; guarded = refl }, tt),
      ),
    ),
  );
  tracked_state = (
    record { whole = refl; rows = tt; real = refl; file = tt },
    (
      record { whole = refl; rows = (record { id = refl; made = refl; parent = refl; state = refl; fields = refl }, tt); real = refl; file = tt },
      (
        record { whole = refl; rows = (record { id = refl; made = refl; parent = refl; state = refl; fields = refl }, tt); real = refl; file = tt },
        (record { whole = refl; rows = (record { id = refl; made = refl; parent = refl; state = refl; fields = refl }, tt); real = refl; file = (refl, refl) }, tt),
      ),
    ),
  );
  points = ((refl, (refl, (refl, (refl, tt)))), refl, refl);
  held = (omega arith, (omega arith, (omega arith, tt)));
}

-- the stop took the reply, so that no entry after it may be of its boot
pub committed_after_stop-wrong : IsRecovered ramfs_stubs sought_at_last stopped_after [] → ⊥
committed_after_stop-wrong r = let e : 1 ≤ 0 = r.held.1.1.0 in omega (arith, e)

-- where it is lost, the run recovers
pub committed_after_stop-recovered : IsRecovered ramfs_stubs both_opened stopped_after (held_seek ∷ [])
committed_after_stop-recovered = record {
  reboots = record { booted = λ is. absurd (cc is); table = ((refl, refl), ((refl, refl), ((refl, refl), tt))); stopped = tt; last = (tt, (tt, (tt, tt))) };
  served = record {
    calls = (
      (record { its = refl; made = (0, omega arith, refl) }, refl),
      ((record { its = refl; made = (2, omega arith, refl) }, refl), ((record { its = refl; made = (1, omega arith, refl) }, refl), tt)),
    );
    items = ((refl, (refl, refl, refl)), ((refl, (refl, refl, refl)), tt));
    committed = (refl, (tt, (refl, tt)));
    order = (refl, (refl, tt));
  };
  walks = (tt, (tt, (tt, tt)));
  on_demand = (
    record { under_way = record { its = record { its = refl; made = (0, omega arith, refl) }; above = refl; first = refl }; guarded = refl },
    (
      record { under_way = record { its = record { its = refl; made = (2, omega arith, refl) }; above = refl; first = refl }; guarded = refl },
      (record { under_way = record { its = record { its = refl; made = (1, omega arith, refl) }; above = refl; first = refl }; guarded = refl }, tt),
    ),
  );
  tracked_state = (
    record { whole = refl; rows = tt; real = refl; file = tt },
    (
      record { whole = refl; rows = (record { id = refl; made = refl; parent = refl; state = refl; fields = refl }, tt); real = refl; file = tt },
      (record { whole = refl; rows = tt; real = refl; file = tt }, tt),
    ),
  );
  points = ((refl, (refl, (refl, tt))), inl (refl, refl), refl);
  held = (omega arith, (omega arith, tt));
}

pub committed_after_stop-lost : AreLost both_opened [] stopped_after.boots
committed_after_stop-lost = ((tt, ((refl, refl), (tt, tt))), tt)

-- a reply that a stop took, and one that was held until its entry, are as they may be
pub held_lost-lost : AreLost held_lost_history [] held_lost.boots
held_lost-lost = ((tt, ((refl, refl), tt)), ((tt, (tt, (tt, (tt, tt)))), tt))

pub held_late-lost : AreLost held_late_history [] held_late.boots
held_late-lost = ((tt, (tt, (tt, (tt, tt)))), tt)

-- ---- the end of the count of points

pub counted_for_nothing-wrong : IsRecovered lock_stubs [] counted_for_nothing [] → ⊥
counted_for_nothing-wrong r = let e : last_count ≡ 0 = r.points.2 in omega (arith, e)

pub made_at_the_end-counted : ArePointsOf true lock_stubs.interface.facts lock_stubs.ask lock_stubs.parts (last_count - 1) made_at_the_end last_count
made_at_the_end-counted = ((refl, tt), refl, refl)

-- ---- refusals by the guard

pub asked_late-wrong : IsRecovered lock_stubs refused_early asked_late [] → ⊥
asked_late-wrong r = false_true r.on_demand.1.0.under_way.above

pub asked_early-wrong : IsRecovered lock_stubs refused_late asked_early (take_after_refusal ∷ []) → ⊥
asked_early-wrong r = false_true r.on_demand.1.0.under_way.first

-- ---- loads

pub load_shows_a_call-wrong : IsRecovered ramfs_stubs written_and_read load_shows_a_call [] → ⊥
load_shows_a_call-wrong r = let e : 1 ≡ 0 = ap (λ i. i.real) r.on_demand.1.1.1.1.0.load in omega (arith, e)
