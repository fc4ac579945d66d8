-- Runs of the lock service under an interface that rebuilds every lock before any call is served. Its functions: 1 lock_alloc,
-- 2 lock_take, 3 lock_release, 4 lock_free.
use Rattle.std.specs.Prelude.{ℕ, true, List, [], ◌∷◌, None, Some}
use Rattle.test_histories.specs.sg_facts.declared.entry.Entry.{Entry}
use Rattle.test_histories.specs.sg_facts.Laws.{whole}
use Rattle.test_histories.specs.sg_facts.Trace.{Run}
use Rattle.sg_recovery_laws.specs.sg_hist.declared.ended.End.{End}
use Rattle.sg_recovery_laws.specs.sg_hist.declared.ended.End.TheVariants.{Done}
use Rattle.sg_recovery_laws.specs.sg_hist.Recovered.{Stubs}
use Rattle.test_histories.specs.sg_lock.LockFacts.{lock_facts}
use Rattle.test_histories.specs.Written.{entry, ok, ok_at}
use Rattle.test_recovery.specs.LockRuns.{lock_stubs}
use Rattle.test_recovery.specs.Written.{boot, bare_call, called, replied, walked}

-- the stubs of an interface of locks that rebuilds every lock before any call is served
abbrev pub eager_stubs : Stubs
eager_stubs = record lock_stubs { interface = record (whole lock_facts) { eager = true } }

-- client 1 makes two locks, takes the first, and releases it
abbrev pub eager_history : List Entry
eager_history =
    entry (bare_call 1 1 1 0) (ok_at 1)
    ∷ entry (bare_call 1 2 1 0) (ok_at 2)
    ∷ entry (bare_call 1 3 2 1) ok
    ∷ entry (bare_call 1 4 3 1) ok
    ∷ []

-- it has no call that isn't answered
abbrev pub eager_ends : List (ℕ × End)
eager_ends = (1, Done) ∷ []

-- the service stops once the take is committed, and both locks are rebuilt before the release is served
abbrev pub both_rebuilt : Run
both_rebuilt = record {
  boots =
      boot (
      called (bare_call 1 1 1 0) 0 4 (replied (ok_at 1))
      ∷ called (bare_call 1 2 1 0) 0 9 (replied (ok_at 2))
      ∷ called (bare_call 1 3 2 1) 1 13 (replied ok)
      ∷ []) (Some 14)
      ∷ boot (
      walked 1 1 1 (bare_call 1 0 1 0) 0 18 (replied (ok_at 1))
      ∷ walked 1 2 1 (bare_call 1 0 2 1) 1 21 (replied ok)
      ∷ walked 2 1 1 (bare_call 1 0 1 0) 0 25 (replied (ok_at 2))
      ∷ called (bare_call 1 4 3 1) 1 28 (replied ok)
      ∷ []) None
      ∷ [];
  points = 29;
}

-- the second lock is left out
abbrev pub one_rebuilt : Run
one_rebuilt = record {
  boots =
      boot (
      called (bare_call 1 1 1 0) 0 4 (replied (ok_at 1))
      ∷ called (bare_call 1 2 1 0) 0 9 (replied (ok_at 2))
      ∷ called (bare_call 1 3 2 1) 1 13 (replied ok)
      ∷ []) (Some 14)
      ∷ boot (
      walked 1 1 1 (bare_call 1 0 1 0) 0 18 (replied (ok_at 1))
      ∷ walked 1 2 1 (bare_call 1 0 2 1) 1 21 (replied ok)
      ∷ called (bare_call 1 4 3 1) 1 24 (replied ok)
      ∷ []) None
      ∷ [];
  points = 25;
}

-- the second lock is rebuilt before the first
abbrev pub second_first : Run
second_first = record {
  boots =
      boot (
      called (bare_call 1 1 1 0) 0 4 (replied (ok_at 1))
      ∷ called (bare_call 1 2 1 0) 0 9 (replied (ok_at 2))
      ∷ called (bare_call 1 3 2 1) 1 13 (replied ok)
      ∷ []) (Some 14)
      ∷ boot (
      walked 2 1 1 (bare_call 1 0 1 0) 0 18 (replied (ok_at 1))
      ∷ walked 1 1 1 (bare_call 1 0 1 0) 0 22 (replied (ok_at 2))
      ∷ walked 1 2 1 (bare_call 1 0 2 1) 2 25 (replied ok)
      ∷ called (bare_call 1 4 3 1) 2 28 (replied ok)
      ∷ []) None
      ∷ [];
  points = 29;
}
