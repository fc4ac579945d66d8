-- Runs of the mm service. Its functions: 1 mman_get_page, 2 mman_alias_page, 3 mman_release_page, 4 mman_find.
use Rattle.std.specs.Prelude.{ℕ, List, [], ◌∷◌, None, Some}
use Rattle.test_histories.specs.sg_facts.sg_base.declared.reply.Code.TheVariants.{NoDesc, NotFound, Occupied}
use Rattle.test_histories.specs.sg_facts.sg_base.declared.reply.Reply.TheVariants.{Refused}
use Rattle.test_histories.specs.sg_facts.declared.entry.Entry.{Entry}
use Rattle.test_histories.specs.sg_facts.declared.tables.WalkLine.{WalkLine}
use Rattle.test_histories.specs.sg_facts.Laws.{whole}
use Rattle.test_histories.specs.sg_facts.Trace.{Run}
use Rattle.sg_recovery_laws.specs.sg_hist.declared.ended.End.{End}
use Rattle.sg_recovery_laws.specs.sg_hist.declared.ended.End.TheVariants.{Done}
use Rattle.test_histories.specs.sg_mm.MmFacts.{mm_facts}
use Rattle.test_histories.specs.sg_mm.MmTable.{mm_parts, mm_table}
use Rattle.sg_recovery_laws.specs.sg_hist.Recovered.{Stubs}
use Rattle.test_histories.specs.Written.{entry, ok, ok_at}
use Rattle.test_recovery.specs.Written.{boot, bare_call, call_with, called, replied, walked, word}

-- the walks of its tables
abbrev pub mm_walks : List WalkLine
mm_walks =
    record { made = 1; state = 1; mask = 1; walk = 1 ∷ [] }
    ∷ record { made = 1; state = 1; mask = 3; walk = 1 ∷ [] }
    ∷ record { made = 2; state = 2; mask = 0; walk = 2 ∷ [] }
    ∷ record { made = 2; state = 2; mask = 1; walk = 2 ∷ [] }
    ∷ record { made = 2; state = 2; mask = 2; walk = 2 ∷ [] }
    ∷ record { made = 2; state = 2; mask = 3; walk = 2 ∷ [] }
    ∷ []

abbrev pub mm_stubs : Stubs
mm_stubs = record { interface = whole mm_facts; ask = mm_table; parts = mm_parts; walks = mm_walks }

-- a page is rebuilt after the page that it was made from
abbrev pub parent_first_history : List Entry
parent_first_history =
    entry (call_with 1 1 1 0 ((word 4096) ∷ [])) (ok_at 1)
    ∷ entry (call_with 2 1 2 1 ((word 2) ∷ (word 8192) ∷ [])) (ok_at 2)
    ∷ entry (bare_call 2 2 3 2) ok
    ∷ []

abbrev pub parent_first_ends : List (ℕ × End)
parent_first_ends = (1, Done) ∷ (2, Done) ∷ []

abbrev pub parent_first : Run
parent_first = record {
  boots =
      boot (
      called (call_with 1 1 1 0 ((word 4096) ∷ [])) 0 4 (replied (ok_at 1))
      ∷ called (call_with 2 1 2 1 ((word 2) ∷ (word 8192) ∷ [])) 1 10 (replied (ok_at 2))
      ∷ []) (Some 12)
      ∷ boot (
      walked 1 1 2 (call_with 1 0 1 0 ((word 4096) ∷ [])) 0 16 (replied (ok_at 1))
      ∷ walked 2 1 2 (call_with 2 0 2 1 ((word 2) ∷ (word 8192) ∷ [])) 1 21 (replied (ok_at 2))
      ∷ called (bare_call 2 2 3 2) 2 25 (replied ok)
      ∷ []) None
      ∷ [];
  points = 26;
}

-- a page that the service lost still has its address
abbrev pub occupied_after_stop_history : List Entry
occupied_after_stop_history =
    entry (call_with 1 1 1 0 ((word 4096) ∷ [])) (ok_at 1)
    ∷ entry (call_with 1 2 1 0 ((word 4096) ∷ [])) (Refused Occupied)
    ∷ []

abbrev pub occupied_after_stop_ends : List (ℕ × End)
occupied_after_stop_ends = (1, Done) ∷ []

abbrev pub occupied_after_stop : Run
occupied_after_stop = record {
  boots =
      boot (
      called (call_with 1 1 1 0 ((word 4096) ∷ [])) 0 4 (replied (ok_at 1))
      ∷ []) (Some 6)
      ∷ boot (
      walked 1 1 1 (call_with 1 0 1 0 ((word 4096) ∷ [])) 0 10 (replied (ok_at 1))
      ∷ called (call_with 1 2 1 0 ((word 4096) ∷ [])) 0 12 (replied (Refused Occupied))
      ∷ []) None
      ∷ [];
  points = 13;
}

-- a page goes with the pages made from it, of which one was never rebuilt
abbrev pub subtree_history : List Entry
subtree_history =
    entry (call_with 1 1 1 0 ((word 4096) ∷ [])) (ok_at 1)
    ∷ entry (call_with 1 2 2 1 ((word 1) ∷ (word 8192) ∷ [])) (ok_at 2)
    ∷ entry (call_with 1 3 2 1 ((word 1) ∷ (word 12288) ∷ [])) (ok_at 3)
    ∷ entry (bare_call 1 4 3 1) ok
    ∷ entry (call_with 2 1 4 0 ((word 1) ∷ (word 8192) ∷ [])) (Refused NotFound)
    ∷ entry (bare_call 1 5 3 2) (Refused NoDesc)
    ∷ entry (bare_call 1 6 3 3) (Refused NoDesc)
    ∷ []

abbrev pub subtree_ends : List (ℕ × End)
subtree_ends = (1, Done) ∷ (2, Done) ∷ []

abbrev pub subtree : Run
subtree = record {
  boots =
      boot (
      called (call_with 1 1 1 0 ((word 4096) ∷ [])) 0 4 (replied (ok_at 1))
      ∷ called (call_with 1 2 2 1 ((word 1) ∷ (word 8192) ∷ [])) 1 10 (replied (ok_at 2))
      ∷ called (call_with 1 3 2 1 ((word 1) ∷ (word 12288) ∷ [])) 1 16 (replied (ok_at 3))
      ∷ []) (Some 18)
      ∷ boot (
      walked 1 1 2 (call_with 1 0 1 0 ((word 4096) ∷ [])) 0 22 (replied (ok_at 1))
      ∷ walked 2 1 2 (call_with 1 0 2 1 ((word 1) ∷ (word 8192) ∷ [])) 1 27 (replied (ok_at 2))
      ∷ called (bare_call 1 4 3 1) 1 31 (replied ok)
      ∷ called (call_with 2 1 4 0 ((word 1) ∷ (word 8192) ∷ [])) 0 34 (replied (Refused NotFound))
      ∷ []) None
      ∷ [];
  points = 35;
}

-- ---- runs that do not recover

-- a page is rebuilt before the page that it was made from
abbrev pub child_first : Run
child_first = record {
  boots =
      boot (
      called (call_with 1 1 1 0 ((word 4096) ∷ [])) 0 4 (replied (ok_at 1))
      ∷ called (call_with 2 1 2 1 ((word 2) ∷ (word 8192) ∷ [])) 1 10 (replied (ok_at 2))
      ∷ []) (Some 12)
      ∷ boot (
      walked 2 1 2 (call_with 2 0 2 1 ((word 2) ∷ (word 8192) ∷ [])) 0 17 (replied (ok_at 1))
      ∷ walked 1 1 2 (call_with 1 0 1 0 ((word 4096) ∷ [])) 0 21 (replied (ok_at 2))
      ∷ called (bare_call 2 2 3 2) 1 25 (replied ok)
      ∷ []) None
      ∷ [];
  points = 26;
}
