-- Runs of the lock service. Its functions: 1 lock_alloc, 2 lock_take, 3 lock_release, 4 lock_free.
use Rattle.std.specs.Prelude.{ℕ, List, [], ◌∷◌, None, Some}
use Rattle.test_histories.specs.sg_facts.declared.entry.Entry.{Entry}
use Rattle.test_histories.specs.sg_facts.declared.outcome.Outcome.TheVariants.{Stopped}
use Rattle.test_histories.specs.sg_facts.declared.tables.WalkLine.{WalkLine}
use Rattle.test_histories.specs.sg_facts.Laws.{whole}
use Rattle.test_histories.specs.sg_facts.Trace.{Run}
use Rattle.sg_recovery_laws.specs.sg_hist.declared.ended.End.{End}
use Rattle.sg_recovery_laws.specs.sg_hist.declared.ended.End.TheVariants.{Done}
use Rattle.test_histories.specs.sg_lock.LockFacts.{lock_facts}
use Rattle.test_histories.specs.sg_lock.LockTable.{lock_parts, lock_table}
use Rattle.sg_recovery_laws.specs.sg_hist.Recovered.{Stubs}
use Rattle.test_histories.specs.Written.{entry, ok, ok_at}
use Rattle.test_recovery.specs.Written.{boot, bare_call, called, replied, walked}

-- the walks of its tables
abbrev pub lock_walks : List WalkLine
lock_walks =
    record { made = 1; state = 1; mask = 0; walk = 1 ∷ [] }
    ∷ record { made = 1; state = 2; mask = 1; walk = 1 ∷ 2 ∷ [] }
    ∷ []

abbrev pub lock_stubs : Stubs
lock_stubs = record { interface = whole lock_facts; ask = lock_table; parts = lock_parts; walks = lock_walks }

-- the service stops once a take is committed: the lock is made and taken again before its release
abbrev pub stop_after_take_history : List Entry
stop_after_take_history =
    entry (bare_call 1 1 1 0) (ok_at 1)
    ∷ entry (bare_call 1 2 2 1) ok
    ∷ entry (bare_call 1 3 3 1) ok
    ∷ entry (bare_call 1 4 4 1) ok
    ∷ []

abbrev pub stop_after_take_ends : List (ℕ × End)
stop_after_take_ends = (1, Done) ∷ []

abbrev pub stop_after_take : Run
stop_after_take = record {
  boots =
      boot (
      called (bare_call 1 1 1 0) 0 4 (replied (ok_at 1))
      ∷ called (bare_call 1 2 2 1) 1 8 (replied ok)
      ∷ []) (Some 9)
      ∷ boot (
      walked 1 1 1 (bare_call 1 0 1 0) 0 13 (replied (ok_at 1))
      ∷ walked 1 2 1 (bare_call 1 0 2 1) 1 16 (replied ok)
      ∷ called (bare_call 1 3 3 1) 1 19 (replied ok)
      ∷ called (bare_call 1 4 4 1) 1 23 (replied ok)
      ∷ []) None
      ∷ [];
  points = 24;
}

-- it stops before the take is committed: the lock is made again, and taken once
abbrev pub stop_before_storage_history : List Entry
stop_before_storage_history =
    entry (bare_call 1 1 1 0) (ok_at 1)
    ∷ entry (bare_call 1 2 2 1) ok
    ∷ entry (bare_call 1 3 3 1) ok
    ∷ entry (bare_call 1 4 4 1) ok
    ∷ []

abbrev pub stop_before_storage_ends : List (ℕ × End)
stop_before_storage_ends = (1, Done) ∷ []

abbrev pub stop_before_storage : Run
stop_before_storage = record {
  boots =
      boot (
      called (bare_call 1 1 1 0) 0 4 (replied (ok_at 1))
      ∷ called (bare_call 1 2 2 1) 1 8 Stopped
      ∷ []) (Some 8)
      ∷ boot (
      walked 1 1 1 (bare_call 1 0 1 0) 0 12 (replied (ok_at 1))
      ∷ called (bare_call 1 2 2 1) 1 15 (replied ok)
      ∷ called (bare_call 1 3 3 1) 1 19 (replied ok)
      ∷ called (bare_call 1 4 4 1) 1 23 (replied ok)
      ∷ []) None
      ∷ [];
  points = 24;
}

-- it stops again while the lock is rebuilt, and is rebuilt from the first call on
abbrev pub stop_in_walk_history : List Entry
stop_in_walk_history =
    entry (bare_call 1 1 1 0) (ok_at 1)
    ∷ entry (bare_call 1 2 2 1) ok
    ∷ entry (bare_call 1 3 3 1) ok
    ∷ entry (bare_call 1 4 4 1) ok
    ∷ []

abbrev pub stop_in_walk_ends : List (ℕ × End)
stop_in_walk_ends = (1, Done) ∷ []

abbrev pub stop_in_walk : Run
stop_in_walk = record {
  boots =
      boot (
      called (bare_call 1 1 1 0) 0 4 (replied (ok_at 1))
      ∷ called (bare_call 1 2 2 1) 1 8 (replied ok)
      ∷ []) (Some 9)
      ∷ boot (
      walked 1 1 1 (bare_call 1 0 1 0) 0 13 (replied (ok_at 1))
      ∷ walked 1 2 1 (bare_call 1 0 2 1) 1 15 Stopped
      ∷ []) (Some 15)
      ∷ boot (
      walked 1 1 1 (bare_call 1 0 1 0) 0 19 (replied (ok_at 1))
      ∷ walked 1 2 1 (bare_call 1 0 2 1) 1 22 (replied ok)
      ∷ called (bare_call 1 3 3 1) 1 25 (replied ok)
      ∷ called (bare_call 1 4 4 1) 1 29 (replied ok)
      ∷ []) None
      ∷ [];
  points = 30;
}

-- ---- runs that do not recover

-- client 1 makes two locks and takes the first
abbrev pub two_locks_history : List Entry
two_locks_history =
    entry (bare_call 1 1 1 0) (ok_at 1)
    ∷ entry (bare_call 1 2 1 0) (ok_at 2)
    ∷ entry (bare_call 1 3 2 1) ok
    ∷ []

abbrev pub two_locks_ends : List (ℕ × End)
two_locks_ends = (1, Done) ∷ []

-- the service says another id than its table gives
abbrev pub another_id : Run
another_id = record {
  boots =
      boot (
      called (bare_call 1 1 1 0) 0 4 (replied (ok_at 2))
      ∷ called (bare_call 1 2 2 1) 2 8 (replied ok)
      ∷ []) (Some 9)
      ∷ boot (
      walked 1 1 1 (bare_call 1 0 1 0) 0 13 (replied (ok_at 1))
      ∷ walked 1 2 1 (bare_call 1 0 2 1) 1 16 (replied ok)
      ∷ called (bare_call 1 3 3 1) 1 19 (replied ok)
      ∷ called (bare_call 1 4 4 1) 1 23 (replied ok)
      ∷ []) None
      ∷ [];
  points = 24;
}

-- the service is booted again, though it never stopped
abbrev pub boot_without_a_stop : Run
boot_without_a_stop = record {
  boots =
      boot (
      called (bare_call 1 1 1 0) 0 4 (replied (ok_at 1))
      ∷ called (bare_call 1 2 2 1) 1 8 (replied ok)
      ∷ []) None
      ∷ boot (
      walked 1 1 1 (bare_call 1 0 1 0) 0 13 (replied (ok_at 1))
      ∷ walked 1 2 1 (bare_call 1 0 2 1) 1 16 (replied ok)
      ∷ called (bare_call 1 3 3 1) 1 19 (replied ok)
      ∷ called (bare_call 1 4 4 1) 1 23 (replied ok)
      ∷ []) None
      ∷ [];
  points = 24;
}

-- the service is asked though it has stopped
abbrev pub asked_after_a_stop : Run
asked_after_a_stop = record {
  boots =
      boot (
      called (bare_call 1 1 1 0) 0 4 (replied (ok_at 1))
      ∷ called (bare_call 1 2 2 1) 1 8 Stopped
      ∷ called (bare_call 1 2 2 1) 1 11 (replied ok)
      ∷ []) (Some 8)
      ∷ boot (
      walked 1 1 1 (bare_call 1 0 1 0) 0 12 (replied (ok_at 1))
      ∷ called (bare_call 1 3 3 1) 1 15 (replied ok)
      ∷ called (bare_call 1 4 4 1) 1 19 (replied ok)
      ∷ []) None
      ∷ [];
  points = 24;
}

-- the last reply was given without the service
abbrev pub reply_without_an_item : Run
reply_without_an_item = record {
  boots =
      boot (
      called (bare_call 1 1 1 0) 0 4 (replied (ok_at 1))
      ∷ called (bare_call 1 2 2 1) 1 8 (replied ok)
      ∷ []) (Some 9)
      ∷ boot (
      walked 1 1 1 (bare_call 1 0 1 0) 0 13 (replied (ok_at 1))
      ∷ walked 1 2 1 (bare_call 1 0 2 1) 1 16 (replied ok)
      ∷ called (bare_call 1 3 3 1) 1 19 (replied ok)
      ∷ []) None
      ∷ [];
  points = 20;
}

-- a take that was committed is served again
abbrev pub taken_twice : Run
taken_twice = record {
  boots =
      boot (
      called (bare_call 1 1 1 0) 0 4 (replied (ok_at 1))
      ∷ called (bare_call 1 2 2 1) 1 8 (replied ok)
      ∷ []) (Some 9)
      ∷ boot (
      walked 1 1 1 (bare_call 1 0 1 0) 0 13 (replied (ok_at 1))
      ∷ called (bare_call 1 2 2 1) 1 16 (replied ok)
      ∷ called (bare_call 1 3 3 1) 1 20 (replied ok)
      ∷ called (bare_call 1 4 4 1) 1 24 (replied ok)
      ∷ []) None
      ∷ [];
  points = 24;
}

-- a lock is taken again without being made
abbrev pub walk_from_its_middle : Run
walk_from_its_middle = record {
  boots =
      boot (
      called (bare_call 1 1 1 0) 0 4 (replied (ok_at 1))
      ∷ called (bare_call 1 2 2 1) 1 8 (replied ok)
      ∷ []) (Some 9)
      ∷ boot (
      walked 1 2 1 (bare_call 1 0 2 1) 1 12 (replied ok)
      ∷ called (bare_call 1 3 3 1) 1 15 (replied ok)
      ∷ called (bare_call 1 4 4 1) 1 19 (replied ok)
      ∷ []) None
      ∷ [];
  points = 20;
}

-- a lock is made again for another owner
abbrev pub walk_by_another : Run
walk_by_another = record {
  boots =
      boot (
      called (bare_call 1 1 1 0) 0 4 (replied (ok_at 1))
      ∷ called (bare_call 1 2 2 1) 1 8 (replied ok)
      ∷ []) (Some 9)
      ∷ boot (
      walked 1 1 1 (bare_call 1 0 1 0) 0 13 (replied (ok_at 1))
      ∷ walked 1 2 1 (bare_call 2 0 2 1) 1 16 (replied ok)
      ∷ called (bare_call 1 3 3 1) 1 19 (replied ok)
      ∷ called (bare_call 1 4 4 1) 1 23 (replied ok)
      ∷ []) None
      ∷ [];
  points = 24;
}

-- a lock that is whole is taken once more
abbrev pub walk_too_long : Run
walk_too_long = record {
  boots =
      boot (
      called (bare_call 1 1 1 0) 0 4 (replied (ok_at 1))
      ∷ called (bare_call 1 2 2 1) 1 8 (replied ok)
      ∷ []) (Some 9)
      ∷ boot (
      walked 1 1 1 (bare_call 1 0 1 0) 0 13 (replied (ok_at 1))
      ∷ walked 1 2 1 (bare_call 1 0 2 1) 1 16 (replied ok)
      ∷ walked 1 3 1 (bare_call 1 0 2 1) 1 19 (replied ok)
      ∷ called (bare_call 1 3 3 1) 1 22 (replied ok)
      ∷ called (bare_call 1 4 4 1) 1 26 (replied ok)
      ∷ []) None
      ∷ [];
  points = 27;
}

-- a lock is rebuilt for a client that has no call
abbrev pub rebuilt_for_nobody : Run
rebuilt_for_nobody = record {
  boots =
      boot (
      called (bare_call 1 1 1 0) 0 4 (replied (ok_at 1))
      ∷ called (bare_call 1 2 2 1) 1 8 (replied ok)
      ∷ []) (Some 9)
      ∷ boot (
      walked 1 1 2 (bare_call 1 0 1 0) 0 13 (replied (ok_at 1))
      ∷ walked 1 2 1 (bare_call 1 0 2 1) 1 16 (replied ok)
      ∷ called (bare_call 1 3 3 1) 1 19 (replied ok)
      ∷ called (bare_call 1 4 4 1) 1 23 (replied ok)
      ∷ []) None
      ∷ [];
  points = 24;
}

-- a lock is rebuilt once nobody needs it any more
abbrev pub rebuilt_too_late : Run
rebuilt_too_late = record {
  boots =
      boot (
      called (bare_call 1 1 1 0) 0 4 (replied (ok_at 1))
      ∷ called (bare_call 1 2 2 1) 1 8 (replied ok)
      ∷ []) (Some 9)
      ∷ boot (
      walked 1 1 1 (bare_call 1 0 1 0) 0 13 (replied (ok_at 1))
      ∷ walked 1 2 1 (bare_call 1 0 2 1) 1 16 (replied ok)
      ∷ called (bare_call 1 3 3 1) 1 19 (replied ok)
      ∷ called (bare_call 1 4 4 1) 1 23 (replied ok)
      ∷ walked 1 1 1 (bare_call 1 0 1 0) 0 28 (replied (ok_at 2))
      ∷ []) None
      ∷ [];
  points = 28;
}

-- a release reaches a service that hasn't the lock
abbrev pub served_without_a_walk : Run
served_without_a_walk = record {
  boots =
      boot (
      called (bare_call 1 1 1 0) 0 4 (replied (ok_at 1))
      ∷ called (bare_call 1 2 2 1) 1 8 (replied ok)
      ∷ []) (Some 9)
      ∷ boot (
      called (bare_call 1 3 3 1) 1 12 (replied ok)
      ∷ called (bare_call 1 4 4 1) 1 16 (replied ok)
      ∷ []) None
      ∷ [];
  points = 17;
}

-- a release reaches a lock that was made and not taken
abbrev pub half_a_walk : Run
half_a_walk = record {
  boots =
      boot (
      called (bare_call 1 1 1 0) 0 4 (replied (ok_at 1))
      ∷ called (bare_call 1 2 2 1) 1 8 (replied ok)
      ∷ []) (Some 9)
      ∷ boot (
      walked 1 1 1 (bare_call 1 0 1 0) 0 13 (replied (ok_at 1))
      ∷ called (bare_call 1 3 3 1) 1 16 (replied ok)
      ∷ called (bare_call 1 4 4 1) 1 20 (replied ok)
      ∷ []) None
      ∷ [];
  points = 21;
}

-- the first boot ends at a point that wasn't asked
abbrev pub stop_at_another_number : Run
stop_at_another_number = record {
  boots =
      boot (
      called (bare_call 1 1 1 0) 0 4 (replied (ok_at 1))
      ∷ called (bare_call 1 2 2 1) 1 8 (replied ok)
      ∷ []) (Some 11)
      ∷ boot (
      walked 1 1 1 (bare_call 1 0 1 0) 0 15 (replied (ok_at 1))
      ∷ walked 1 2 1 (bare_call 1 0 2 1) 1 18 (replied ok)
      ∷ called (bare_call 1 3 3 1) 1 21 (replied ok)
      ∷ called (bare_call 1 4 4 1) 1 25 (replied ok)
      ∷ []) None
      ∷ [];
  points = 26;
}

-- an item has fewer points than its parts
abbrev pub point_left_out : Run
point_left_out = record {
  boots =
      boot (
      called (bare_call 1 1 1 0) 0 3 (replied (ok_at 1))
      ∷ called (bare_call 1 2 2 1) 1 8 (replied ok)
      ∷ []) (Some 9)
      ∷ boot (
      walked 1 1 1 (bare_call 1 0 1 0) 0 13 (replied (ok_at 1))
      ∷ walked 1 2 1 (bare_call 1 0 2 1) 1 16 (replied ok)
      ∷ called (bare_call 1 3 3 1) 1 19 (replied ok)
      ∷ called (bare_call 1 4 4 1) 1 23 (replied ok)
      ∷ []) None
      ∷ [];
  points = 24;
}

-- before the take a point was asked in vain, by a step that got no memory
abbrev pub point_asked_in_vain : Run
point_asked_in_vain = record {
  boots =
      boot (
      called (bare_call 1 1 1 0) 0 4 (replied (ok_at 1))
      ∷ called (bare_call 1 2 2 1) 1 9 (replied ok)
      ∷ []) (Some 10)
      ∷ boot (
      walked 1 1 1 (bare_call 1 0 1 0) 0 14 (replied (ok_at 1))
      ∷ walked 1 2 1 (bare_call 1 0 2 1) 1 17 (replied ok)
      ∷ called (bare_call 1 3 3 1) 1 20 (replied ok)
      ∷ called (bare_call 1 4 4 1) 1 24 (replied ok)
      ∷ []) None
      ∷ [];
  points = 25;
}

-- a lock is rebuilt that the call doesn't need
abbrev pub rebuilt_needlessly : Run
rebuilt_needlessly = record {
  boots =
      boot (
      called (bare_call 1 1 1 0) 0 4 (replied (ok_at 1))
      ∷ called (bare_call 1 2 1 0) 0 9 (replied (ok_at 2))
      ∷ []) (Some 11)
      ∷ boot (
      walked 2 1 1 (bare_call 1 0 1 0) 0 15 (replied (ok_at 1))
      ∷ walked 1 1 1 (bare_call 1 0 1 0) 0 19 (replied (ok_at 2))
      ∷ called (bare_call 1 3 2 1) 2 22 (replied ok)
      ∷ []) None
      ∷ [];
  points = 23;
}

-- two clients each make a lock, and the second is served first
abbrev pub two_makers_history : List Entry
two_makers_history = entry (bare_call 1 1 1 0) (ok_at 1) ∷ entry (bare_call 2 1 1 0) (ok_at 2) ∷ []

abbrev pub two_makers_ends : List (ℕ × End)
two_makers_ends = (1, Done) ∷ (2, Done) ∷ []

abbrev pub out_of_order : Run
out_of_order = record {
  boots =
      boot (
      called (bare_call 2 1 1 0) 0 4 (replied (ok_at 1))
      ∷ called (bare_call 1 1 1 0) 0 9 (replied (ok_at 2))
      ∷ []) None
      ∷ [];
  points = 10;
}

-- a lock was made, the service stopped and was booted again, and the lock is made again for a take
abbrev pub rebuilt_for_take : Run
rebuilt_for_take = record {
  boots =
      boot (called (bare_call 1 1 1 0) 0 4 (replied (ok_at 1)) ∷ []) (Some 5)
      ∷ boot (walked 1 1 1 (bare_call 1 0 1 0) 0 9 (replied (ok_at 1)) ∷ []) None
      ∷ [];
  points = 9;
}
