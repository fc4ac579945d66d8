-- Runs that one part alone refuses: what each of them lacks.
use Rattle.std.proofs.Common.{◌≡◌, ◌≤◌, arith, inl, refl, subst, sym}
use Rattle.std.specs.Prelude.{ℕ, ◌&&◌, ◌<◌, None, [], ◌∷◌, nat_lt, true}
use Rattle.std.proofs.lemmas.Bool.Decides.{nat_tests}
use Rattle.test_histories.specs.sg_facts.sg_base.Lists.{Each}
use Rattle.test_histories.specs.sg_facts.Guard.{guard}
use Rattle.sg_recovery_laws.specs.sg_hist.Reading.{Position, object_before}
use Rattle.sg_recovery_laws.specs.sg_hist.Recovered.{IsRebuiltFor, IsRecovered}
use Rattle.sg_recovery_laws.specs.sg_hist.Inside.Parts.{calls_made}
use Rattle.sg_recovery_laws.specs.sg_hist.Ending.{HasRecovered}
use Rattle.sg_recovery_laws.proofs.Lists.{each_contains}
use Rattle.test_histories.specs.Written.{ok_at}
use Rattle.test_recovery.specs.EventRuns.{event_stubs}
use Rattle.test_recovery.specs.LockRuns.{lock_stubs}
use Rattle.test_recovery.specs.RamfsRuns.{ramfs_stubs}
use Rattle.test_recovery.specs.StrictRuns.{alloc, double_stubs, empty_boot_more, first_wait, free_of_taken, free_released, free_stopped_late, late_read, late_read_history, late_seek, late_seek_history, long_stubs, made_and_stopped, no_boot, one_event, one_made, one_made_ends, one_taken, other_take, rebuilt_for_refused, refusal_stopped_late, refused_at_once, refused_was_asked, second_take, seek_before_write, seek_then_write, stopped_where_blocked, two_boots_more, wait_stopped, write_before_seek, write_then_seek}
use Rattle.test_recovery.specs.Written.{bare_call, called, replied, walked}
use Rattle.test_recovery.proofs.Apart.{false_true, some_none}
use Rattle.test_recovery.proofs.LockTables.{lock_tables}

-- ---- a client's own order

pub seek_before_write-wrong : IsRecovered ramfs_stubs write_then_seek seek_before_write [] → ⊥
seek_before_write-wrong r = false_true r.on_demand.1.1.0.under_way.first

pub write_before_seek-wrong : IsRecovered ramfs_stubs seek_then_write write_before_seek [] → ⊥
write_before_seek-wrong r = false_true r.on_demand.1.1.0.under_way.first

-- ---- the guard

pub refused_was_asked-wrong : IsRecovered lock_stubs free_released refused_was_asked [] → ⊥
refused_was_asked-wrong r = some_none r.on_demand.1.0.guarded

abbrev place : Position
place = record {
  older = called alloc 0 4 (replied (ok_at 1)) ∷ [];
  front = [];
  item = walked 1 1 1 (bare_call 1 0 1 0) 0 9 (replied (ok_at 1));
  rest = [];
  newer = [];
}

second : (seq : ℕ) → nat_lt 1 seq && true ≡ true → 1 < seq
second seq above = grind (arith, nat_tests, above)

-- the release alone may be under way
own : Each (λ c. 1 < c.seq → c ≡ bare_call 1 2 3 1) (calls_made free_released [])
own = ((λ e. absurd (omega (arith, e))), ((λ e. refl), tt))

not_admitted : IsRebuiltFor lock_stubs.interface lock_stubs.walks free_released [] place 1 1 → ⊥
not_admitted d =
    let call : bare_call 1 2 3 1 ≡ d.call = sym (each_contains (λ c. 1 < c.seq → c ≡ bare_call 1 2 3 1) (calls_made free_released []) d.call own d.admitted.under_way.its.made (second d.call.seq d.admitted.under_way.above)) in
    some_none (subst (λ c. guard lock_stubs.interface (object_before lock_stubs.interface.facts free_released place) c ≡ None) (sym call) d.admitted.guarded)

pub rebuilt_for_refused-wrong : IsRecovered lock_stubs free_released rebuilt_for_refused [] → ⊥
rebuilt_for_refused-wrong r = not_admitted r.on_demand.1.0

-- ---- a call that would have been answered, and its points

pub stopped_where_blocked-wrong : IsRecovered lock_stubs one_taken stopped_where_blocked (other_take ∷ []) → ⊥
stopped_where_blocked-wrong r = false_true r.reboots.table.1.1.0

pub wait_stopped-wrong : IsRecovered event_stubs one_event wait_stopped (first_wait ∷ []) → ⊥
wait_stopped-wrong r = false_true r.reboots.table.1.0

pub refusal_stopped_late-wrong : IsRecovered lock_stubs one_taken refusal_stopped_late (second_take ∷ []) → ⊥
refusal_stopped_late-wrong r = let e : 12 ≡ 11 = r.points.0.1.1.0 in omega (arith, e)

pub free_stopped_late-wrong : IsRecovered lock_stubs one_taken free_stopped_late (free_of_taken ∷ []) → ⊥
free_stopped_late-wrong r = let e : 12 ≡ 11 = r.points.0.1.1.0 in omega (arith, e)

-- ---- the boot of a held reply

pub late_seek-wrong : IsRecovered ramfs_stubs late_seek_history late_seek [] → ⊥
late_seek-wrong r = omega (arith, r.held.1.1.1.1.0)

pub late_read-wrong : IsRecovered ramfs_stubs late_read_history late_read [] → ⊥
late_read-wrong r = omega (arith, r.held.1.1.1.1.0)

-- ---- boots

pub no_boot-wrong : IsRecovered lock_stubs [] no_boot [] → ⊥
no_boot-wrong r = r.reboots.booted refl

pub no_boot_for_a_refusal-wrong : IsRecovered lock_stubs refused_at_once no_boot [] → ⊥
no_boot_for_a_refusal-wrong r = r.reboots.booted refl

pub empty_boot_more-recovered : IsRecovered lock_stubs one_made empty_boot_more []
empty_boot_more-recovered = record {
  reboots = record { booted = λ is. absurd (cc is); table = ((refl, refl), tt); stopped = (refl, tt); last = (tt, tt) };
  served = record {
    calls = ((record { its = refl; made = (0, omega arith, refl) }, refl), tt);
    items = ((refl, (refl, refl, refl)), tt);
    committed = (refl, tt);
    order = (refl, tt);
  };
  walks = (tt, tt);
  on_demand = (record { under_way = record { its = record { its = refl; made = (0, omega arith, refl) }; above = refl; first = refl }; guarded = refl }, tt);
  tracked_state = (record { whole = refl; rows = tt; real = refl; file = tt }, tt);
  points = ((refl, tt), inl (refl, refl), (tt, refl, refl));
  held = (omega arith, tt);
}

pub empty_boot_more-wrong : HasRecovered lock_stubs one_made empty_boot_more one_made_ends → ⊥
empty_boot_more-wrong r = r.used (omega arith) refl

pub two_boots_more-wrong : HasRecovered lock_stubs one_made two_boots_more one_made_ends → ⊥
two_boots_more-wrong r = r.used (omega arith) refl

-- ---- walks of other tables

pub long_stubs-wrong : HasRecovered long_stubs one_made made_and_stopped one_made_ends → ⊥
long_stubs-wrong r = let line = r.tables.each (record { made = 1; state = 1; mask = 0; walk = 1 ∷ 2 ∷ 3 ∷ [] }) (0, omega arith, refl) in false_true line.3.restored

pub double_stubs-wrong : HasRecovered double_stubs one_made made_and_stopped one_made_ends → ⊥
double_stubs-wrong r =
    let same = r.tables.ascending 0 1 (record { made = 1; state = 1; mask = 0; walk = [] }) (omega arith) (omega arith) in
    absurd (cc same)

-- ---- a run that ended, and has recovered

pub made_and_stopped-recovered : HasRecovered lock_stubs one_made made_and_stopped one_made_ends
made_and_stopped-recovered = record {
  tables = lock_tables;
  recovered = record {
    reboots = record { booted = λ is. absurd (cc is); table = ((refl, refl), tt); stopped = tt; last = (tt, tt) };
    served = record {
      calls = ((record { its = refl; made = (0, omega arith, refl) }, refl), tt);
      items = ((refl, (refl, refl, refl)), tt);
      committed = (refl, tt);
      order = (refl, tt);
    };
    walks = (tt, tt);
    on_demand = (record { under_way = record { its = record { its = refl; made = (0, omega arith, refl) }; above = refl; first = refl }; guarded = refl }, tt);
    tracked_state = (record { whole = refl; rows = tt; real = refl; file = tt }, tt);
    points = ((refl, tt), inl (refl, refl), refl);
    held = (omega arith, tt);
  };
  blocked = tt;
  used = λ few. let two : 2 ≤ 1 = few in absurd (omega (arith, two));
  asked = (inl (refl, refl), tt);
  lost = ((tt, tt), tt);
}
