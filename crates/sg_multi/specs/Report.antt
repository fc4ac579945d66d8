-- The printed run of a play over several services.
use Rattle.std.specs.Prelude.{ℕ, ◌+◌, ◌-◌, Bool, if◌then◌else◌, List, [], ◌∷◌, ◌++◌, codes, length, map, slice_get, zip}
use Rattle.std.specs.Fmt.{decimal}
use Rattle.std.specs.List.{flat_map}
use Rattle.std.specs.Option.{option_map_or}
use Rattle.sg_facts.specs.Facts.{Facts}
use Rattle.sg_facts.specs.Trace.{Boot, run_of}
use Rattle.sg_facts.specs.Words.{line_end}
use Rattle.sg_facts.specs.declared.entry.Entry.{Entry}
use Rattle.sg_facts.specs.declared.trace.Item.{Item}
use Rattle.sg_facts.specs.declared.trace.Tag.{Tag}
use Rattle.sg_facts.specs.declared.trace.Tag.TheVariants.{Walk, Load, Client}
use Rattle.sg_report.specs.Report.{boots_lines, call_text, counts_text, entry_line}
use Rattle.sg_report.specs.sg_hist.declared.ended.Ended.{Ended}
use Rattle.sg_multi.specs.Merged.{MultiEntry, number_over_all, own_in}
use Rattle.sg_multi.specs.Played.{MultiCame}
use Rattle.sg_multi.specs.declared.ended.MultiEnd.{MultiEnd}
use Rattle.sg_multi.specs.declared.ended.MultiEnd.TheVariants.{Done, Blocked}

-- what is printed by the service of the member of a number, from 1; nothing where there is no such member
abbrev pub by_member : List Facts → ℕ → (Facts → List ℕ) → List ℕ
by_member services member print = option_map_or print (slice_get services (member - 1)) []

-- ---- the merged list, and how the clients ended

-- an entry under another number of its call
abbrev pub under_number : ℕ → Entry → Entry
under_number number e = record e { call = record e.call { seq = number } }

-- the line of an entry after others: its call is under its number over all members, one more than its client's entries before it
abbrev pub merged_line : List Facts → List MultiEntry → MultiEntry → List ℕ
merged_line services before e = by_member services e.member (λ facts. entry_line facts (under_number (length (own_in e.entry.call.client before) + 1) e.entry))

-- the lines of entries after others
abbrev pub merged_lines : List Facts → List MultiEntry → List MultiEntry → List ℕ
merged_lines services before [] = []
merged_lines services before (e ∷ merged) = merged_line services before e ++ merged_lines services (before ++ e ∷ []) merged

-- how a client ended
abbrev pub multi_end_text : List Facts → MultiEnd → List ℕ
multi_end_text services Done = codes " done"
multi_end_text services (Blocked member call) = codes " blocked " ++ by_member services member (λ facts. call_text facts call)

-- the line of a client
abbrev pub client_line : List Facts → ℕ × MultiEnd → List ℕ
client_line services e = codes "client " ++ decimal e.0 ++ multi_end_text services e.1 ++ line_end

-- ---- the members

-- the counts of a member's run
abbrev pub service_line : Facts → Ended → List ℕ
service_line facts ended = codes "service " ++ facts.name ++ codes ": " ++ counts_text ended.history.items (run_of ended.trace) ++ line_end

-- the counts of each member's run
abbrev pub services_lines : List Facts → List Ended → List ℕ
services_lines services members = flat_map (λ m. service_line m.0 m.1) (zip services members)

-- a tag, where a client's call is under another number, by its client and its own
abbrev pub renumbered : (ℕ → ℕ → ℕ) → Tag → Tag
renumbered number (Walk id k client) = Walk id k client
renumbered number (Load key client) = Load key client
renumbered number (Client client seq) = Client client (number client seq)

-- an item with such a tag, and a boot of such items
abbrev pub renumbered_item : (ℕ → ℕ → ℕ) → Item → Item
renumbered_item number item = record item { tag = renumbered number item.tag }

abbrev pub renumbered_boot : (ℕ → ℕ → ℕ) → Boot → Boot
renumbered_boot number b = record b { items = map (renumbered_item number) b.items }

-- the trace of a member, where clients' calls are under other numbers
abbrev pub trace_lines : (ℕ → ℕ → ℕ) → Facts → Ended → List ℕ
trace_lines number facts ended =
    codes "trace " ++ facts.name ++ line_end
    ++ boots_lines facts 1 (map (renumbered_boot number) (run_of ended.trace).boots)
    ++ codes "points " ++ decimal (run_of ended.trace).points ++ line_end

-- the traces of members, numbered from this one on, where clients' calls are under other numbers, by member
abbrev pub traces_lines : (ℕ → ℕ → ℕ → ℕ) → ℕ → List Facts → List Ended → List ℕ
traces_lines number member [] members = []
traces_lines number member (facts ∷ services) [] = []
traces_lines number member (facts ∷ services) (ended ∷ members) =
    trace_lines (number member) facts ended ++ traces_lines number (member + 1) services members

-- ---- the run

-- a line for each entry of the merged list, a line for each client that has a call, the counts of each member, and each member's trace where
-- it is asked for
abbrev pub multi_text_of : List Facts → List MultiEntry → MultiCame → Bool → List ℕ
multi_text_of services merged came with_trace =
    merged_lines services [] merged
    ++ flat_map (client_line services) came.ends
    ++ services_lines services came.members
    ++ (if with_trace then traces_lines (number_over_all merged) 1 services came.members else [])
