-- Runs of the ramfs service. Its functions: 1 tsplit, 2 tread, 3 twrite, 4 tseek, 5 trelease.
use Rattle.std.specs.Prelude.{ℕ, List, [], ◌∷◌, None, Some, codes}
use Rattle.test_histories.specs.sg_facts.sg_base.declared.reply.Code.TheVariants.{Gap, NoDesc}
use Rattle.test_histories.specs.sg_facts.sg_base.declared.reply.Reply.TheVariants.{Refused}
use Rattle.test_histories.specs.sg_facts.declared.entry.Entry.{Entry}
use Rattle.test_histories.specs.sg_facts.declared.tables.WalkLine.{WalkLine}
use Rattle.test_histories.specs.sg_facts.Laws.{whole}
use Rattle.test_histories.specs.sg_facts.Trace.{Run}
use Rattle.sg_recovery_laws.specs.sg_hist.declared.ended.End.{End}
use Rattle.sg_recovery_laws.specs.sg_hist.declared.ended.End.TheVariants.{Done}
use Rattle.test_histories.specs.sg_ramfs.RamfsFacts.{ramfs_facts}
use Rattle.test_histories.specs.sg_ramfs.RamfsTable.{ramfs_parts, ramfs_table}
use Rattle.sg_recovery_laws.specs.sg_hist.Recovered.{Stubs}
use Rattle.test_histories.specs.Written.{entry, ok, ok_at, ok_bytes, ok_with}
use Rattle.test_recovery.specs.Written.{boot, brought, call_with, called, replied, text, walked, word, written}

-- the walks of its tables
abbrev pub ramfs_walks : List WalkLine
ramfs_walks =
    record { made = 1; state = 1; mask = 0; walk = 1 ∷ [] }
    ∷ record { made = 1; state = 1; mask = 1; walk = 1 ∷ [] }
    ∷ record { made = 1; state = 1; mask = 2; walk = 1 ∷ 4 ∷ [] }
    ∷ record { made = 1; state = 1; mask = 3; walk = 1 ∷ 4 ∷ [] }
    ∷ []

abbrev pub ramfs_stubs : Stubs
ramfs_stubs = record { interface = whole ramfs_facts; ask = ramfs_table; parts = ramfs_parts; walks = ramfs_walks }

-- a file that was written before the stop is loaded before it is read
abbrev pub file_loaded_history : List Entry
file_loaded_history =
    entry (call_with 1 1 1 0 ((text (codes "a")) ∷ [])) (ok_at 1)
    ∷ entry (call_with 1 2 3 1 ((text (codes "hello")) ∷ [])) (ok_with 0 5)
    ∷ entry (call_with 2 1 1 0 ((text (codes "a")) ∷ [])) (ok_at 2)
    ∷ entry (call_with 2 2 2 2 ((word 16) ∷ [])) (ok_bytes 5 (codes "hello"))
    ∷ entry (call_with 1 3 4 1 ((word 9) ∷ [])) ok
    ∷ entry (call_with 1 4 3 1 ((text (codes "x")) ∷ [])) (Refused Gap)
    ∷ []

abbrev pub file_loaded_ends : List (ℕ × End)
file_loaded_ends = (1, Done) ∷ (2, Done) ∷ []

abbrev pub file_loaded : Run
file_loaded = record {
  boots =
      boot (
      called (call_with 1 1 1 0 ((text (codes "a")) ∷ [])) 0 4 (replied (ok_at 1))
      ∷ called (call_with 1 2 3 1 ((text (codes "hello")) ∷ [])) 1 9 (written (ok_with 0 5) (codes "/a") 0 (codes "hello"))
      ∷ []) (Some 10)
      ∷ boot (
      called (call_with 2 1 1 0 ((text (codes "a")) ∷ [])) 0 14 (replied (ok_at 1))
      ∷ brought (codes "/a") 2 16 (written ok (codes "/a") 0 (codes "hello"))
      ∷ called (call_with 2 2 2 2 ((word 16) ∷ [])) 1 19 (replied (ok_bytes 5 (codes "hello")))
      ∷ walked 1 1 1 (call_with 1 0 1 0 ((text (codes "a")) ∷ [])) 0 24 (replied (ok_at 2))
      ∷ walked 1 2 1 (call_with 1 0 4 1 ((word 5) ∷ [])) 2 27 (replied ok)
      ∷ called (call_with 1 3 4 1 ((word 9) ∷ [])) 2 30 (replied ok)
      ∷ called (call_with 1 4 3 1 ((text (codes "x")) ∷ [])) 2 32 (replied (Refused Gap))
      ∷ []) None
      ∷ [];
  points = 33;
}

-- a reply that wasn't committed is lost with the service, and its call is done again
abbrev pub held_lost_history : List Entry
held_lost_history =
    entry (call_with 1 1 1 0 ((text (codes "a")) ∷ [])) (ok_at 1)
    ∷ entry (call_with 2 1 2 1 ((word 8) ∷ [])) (Refused NoDesc)
    ∷ entry (call_with 2 2 1 0 ((text (codes "b")) ∷ [])) (ok_at 2)
    ∷ entry (call_with 1 2 4 1 ((word 4) ∷ [])) ok
    ∷ entry (call_with 1 3 2 1 ((word 8) ∷ [])) (ok_with 0 0)
    ∷ []

abbrev pub held_lost_ends : List (ℕ × End)
held_lost_ends = (1, Done) ∷ (2, Done) ∷ []

abbrev pub held_lost : Run
held_lost = record {
  boots =
      boot (
      called (call_with 1 1 1 0 ((text (codes "a")) ∷ [])) 0 4 (replied (ok_at 1))
      ∷ called (call_with 1 2 4 1 ((word 4) ∷ [])) 1 8 (replied ok)
      ∷ []) (Some 9)
      ∷ boot (
      walked 1 1 1 (call_with 1 0 1 0 ((text (codes "a")) ∷ [])) 0 13 (replied (ok_at 1))
      ∷ called (call_with 2 2 1 0 ((text (codes "b")) ∷ [])) 0 17 (replied (ok_at 2))
      ∷ called (call_with 1 2 4 1 ((word 4) ∷ [])) 1 21 (replied ok)
      ∷ called (call_with 1 3 2 1 ((word 8) ∷ [])) 1 24 (replied (ok_with 0 0))
      ∷ []) None
      ∷ [];
  points = 25;
}

-- a reply that others don't see is committed after a creation that was asked for later
abbrev pub held_late_history : List Entry
held_late_history =
    entry (call_with 1 1 1 0 ((text (codes "a")) ∷ [])) (ok_at 1)
    ∷ entry (call_with 2 1 1 0 ((text (codes "b")) ∷ [])) (ok_at 2)
    ∷ entry (call_with 1 2 4 1 ((word 0) ∷ [])) ok
    ∷ entry (call_with 1 3 2 1 ((word 8) ∷ [])) (ok_with 0 0)
    ∷ []

abbrev pub held_late_ends : List (ℕ × End)
held_late_ends = (1, Done) ∷ (2, Done) ∷ []

abbrev pub held_late : Run
held_late = record {
  boots =
      boot (
      called (call_with 1 1 1 0 ((text (codes "a")) ∷ [])) 0 4 (replied (ok_at 1))
      ∷ called (call_with 1 2 4 1 ((word 0) ∷ [])) 1 8 (replied ok)
      ∷ called (call_with 2 1 1 0 ((text (codes "b")) ∷ [])) 0 12 (replied (ok_at 2))
      ∷ called (call_with 1 3 2 1 ((word 8) ∷ [])) 1 16 (replied (ok_with 0 0))
      ∷ []) None
      ∷ [];
  points = 17;
}

-- ---- runs that do not recover

-- a file is loaded that was loaded in this boot
abbrev pub loaded_twice : Run
loaded_twice = record {
  boots =
      boot (
      called (call_with 1 1 1 0 ((text (codes "a")) ∷ [])) 0 4 (replied (ok_at 1))
      ∷ called (call_with 1 2 3 1 ((text (codes "hello")) ∷ [])) 1 9 (written (ok_with 0 5) (codes "/a") 0 (codes "hello"))
      ∷ []) (Some 10)
      ∷ boot (
      called (call_with 2 1 1 0 ((text (codes "a")) ∷ [])) 0 14 (replied (ok_at 1))
      ∷ brought (codes "/a") 2 16 (written ok (codes "/a") 0 (codes "hello"))
      ∷ brought (codes "/a") 2 17 (written ok (codes "/a") 0 (codes "hello"))
      ∷ called (call_with 2 2 2 2 ((word 16) ∷ [])) 1 20 (replied (ok_bytes 5 (codes "hello")))
      ∷ walked 1 1 1 (call_with 1 0 1 0 ((text (codes "a")) ∷ [])) 0 25 (replied (ok_at 2))
      ∷ walked 1 2 1 (call_with 1 0 4 1 ((word 5) ∷ [])) 2 28 (replied ok)
      ∷ called (call_with 1 3 4 1 ((word 9) ∷ [])) 2 31 (replied ok)
      ∷ called (call_with 1 4 3 1 ((text (codes "x")) ∷ [])) 2 33 (replied (Refused Gap))
      ∷ []) None
      ∷ [];
  points = 34;
}
