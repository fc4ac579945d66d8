-- The printed run.
use Rattle.std.specs.Prelude.{ℕ, ◌+◌, ◌==◌, Bool, true, false, ◌&&◌, ◌||◌, if◌then◌else◌, List, [], ◌∷◌, ◌++◌, None, Some, length, filter, min, codes}
use Rattle.std.specs.Fmt.{decimal}
use Rattle.std.specs.List.{flat_map}
use Rattle.sg_facts.specs.sg_base.Counts.{last_count}
use Rattle.sg_facts.specs.sg_base.declared.call.Call.{Call}
use Rattle.sg_facts.specs.sg_base.declared.reply.Reply.{Reply}
use Rattle.sg_facts.specs.sg_base.declared.reply.Reply.TheVariants.{Ok, Refused}
use Rattle.sg_facts.specs.sg_base.declared.value.Value.{Value}
use Rattle.sg_facts.specs.sg_base.declared.value.Value.TheVariants.{Word, Text}
use Rattle.sg_facts.specs.Words.{line_end}
use Rattle.sg_facts.specs.declared.entry.Entry.{Entry}
use Rattle.sg_facts.specs.declared.outcome.Outcome.{Outcome}
use Rattle.sg_facts.specs.declared.outcome.Outcome.TheVariants.{Replied, Blocks, Stopped, NoMemory}
use Rattle.sg_facts.specs.declared.trace.Item.{Item}
use Rattle.sg_facts.specs.declared.trace.Tag.{Tag}
use Rattle.sg_facts.specs.declared.trace.Tag.TheVariants.{Walk, Load, Client}
use Rattle.sg_facts.specs.Facts.{Facts, Fun, fun_at, shows_bytes, takes_desc, takes_parent}
use Rattle.sg_facts.specs.Trace.{Boot, Run, run_of}
use Rattle.sg_facts.specs.sg_base.Codes.{code_name}
use Rattle.sg_hist.specs.declared.ended.End.{End}
use Rattle.sg_hist.specs.declared.ended.End.TheVariants.{Done, Blocked}
use Rattle.sg_hist.specs.declared.ended.Ended.{Ended}
use Rattle.sg_hist.specs.Reading.{items_of}
use Rattle.sg_hist.specs.Recovered.{is_blocked, is_replied}

-- ---- calls and replies

-- a number in decimal, or a text in double quotes
abbrev pub value_text : Value → List ℕ
value_text value = elim value [ Word n ↦ decimal n | Text bytes ↦ 34 ∷ bytes ++ 34 ∷ [] ]

-- values with a comma and a space between them
abbrev pub listed : List Value → List ℕ
listed [] = []
listed (v ∷ values) = value_text v ++ flat_map (λ w. codes ", " ++ value_text w) values

-- whether a function takes a descriptor or a parent
abbrev pub takes_id : Facts → ℕ → Bool
takes_id facts fun = takes_desc (fun_at facts.funs fun) || takes_parent (fun_at facts.funs fun)

-- a call: its function's name, and in brackets the descriptor or parent, where the function takes one, and the arguments
abbrev pub call_text : Facts → Call → List ℕ
call_text facts call =
    (fun_at facts.funs call.fun).name ++ codes "(" ++ listed (if takes_id facts call.fun then Word call.desc ∷ call.args else call.args) ++ codes ")"

-- a reply to a function: of an Ok its descriptor, where it has one, its words, and its bytes, where the function shows them
abbrev pub reply_text : Fun → Reply → List ℕ
reply_text f (Refused code) = codes "refused " ++ code_name code
reply_text f (Ok good) =
    codes "ok" ++ (if good.desc == 0 then [] else codes " #" ++ decimal good.desc)
    ++ flat_map (λ word. codes " " ++ decimal word) good.words
    ++ (if shows_bytes f then codes " " ++ value_text (Text good.bytes) else [])

-- the line of an entry
abbrev pub entry_line : Facts → Entry → List ℕ
entry_line facts e =
    codes "c" ++ decimal e.call.client ++ codes "." ++ decimal e.call.seq ++ codes " "
    ++ call_text facts e.call ++ codes " = " ++ reply_text (fun_at facts.funs e.call.fun) e.reply ++ line_end

-- ---- the trace

-- how an item ended
abbrev pub outcome_text : Outcome → List ℕ
outcome_text outcome =
    elim outcome [ Replied reply patch ↦ codes " replied" | Blocks ↦ codes " blocked" | Stopped ↦ codes " stopped" | NoMemory ↦ codes " without memory" ]

-- an item: a call of a walk, with the client in whose turn and the one in whose name it was made; a load; or a client's call
abbrev pub item_text : Facts → Tag → Call → Outcome → List ℕ
item_text facts (Walk id k client) shown outcome =
    codes "walk " ++ decimal id ++ codes "." ++ decimal k ++ codes " for c" ++ decimal client ++ codes " by c" ++ decimal shown.client
    ++ codes " " ++ call_text facts shown ++ outcome_text outcome
item_text facts (Load key client) shown outcome = codes "load " ++ key ++ codes " for c" ++ decimal client
item_text facts (Client client seq) shown outcome =
    codes "call c" ++ decimal client ++ codes "." ++ decimal seq ++ codes " " ++ call_text facts shown ++ outcome_text outcome

-- boots, numbered from this one on: the items of each, and its stop, where it had one
abbrev pub boots_lines : Facts → ℕ → List Boot → List ℕ
boots_lines facts number [] = []
boots_lines facts number (b ∷ boots) =
    (codes "boot " ++ decimal number ++ line_end ++ flat_map (λ item. item_text facts item.tag item.shown item.outcome ++ line_end) b.items
    ++ (elim b.stop [ None ↦ [] | Some point ↦ codes "stop " ++ decimal point ++ line_end ]))
    ++ boots_lines facts (number + 1) boots

-- ---- the run

-- how many items are
abbrev pub replays_for : (ℕ → Bool) → List Item → ℕ
replays_for test items = length (filter (λ item. elim item.tag [ Walk id k client ↦ test id && is_replied item.outcome | _ ↦ false ]) items)

-- the counts: entries, boots, and calls of walks that replied, which are counted up to the greatest number of 64 bits
abbrev pub counts_text : List Entry → Run → List ℕ
counts_text history run =
    codes "calls " ++ decimal (length history) ++ codes " boots " ++ decimal (length run.boots)
    ++ codes " replays " ++ decimal (min (replays_for (λ id. true) (items_of run.boots)) last_count)

-- how a client ended
abbrev pub end_text : Facts → End → List ℕ
end_text facts end = elim end [ Done ↦ codes " done" | Blocked call ↦ codes " blocked " ++ call_text facts call ]

-- a run: a line for each entry, a line for each client that has a call, the counts, and the trace where it is asked for: the boots, and the
-- number of points that were asked
abbrev pub report_of : Facts → Ended → Bool → List ℕ
report_of facts ended with_trace =
    flat_map (entry_line facts) ended.history.items
    ++ flat_map (λ e. codes "client " ++ decimal e.0 ++ end_text facts e.1 ++ line_end) ended.ends
    ++ counts_text ended.history.items (run_of ended.trace) ++ line_end
    ++ (if with_trace then boots_lines facts 1 (run_of ended.trace).boots ++ codes "points " ++ decimal (run_of ended.trace).points ++ line_end else [])

-- the line of a generated load: its service's name and the number that it was generated from, the counts, and how many clients wait
abbrev pub load_line_of : List ℕ → ℕ → Ended → List ℕ
load_line_of name number ended =
    codes "load " ++ name ++ codes " " ++ decimal number ++ codes ": " ++ counts_text ended.history.items (run_of ended.trace)
    ++ codes " blocked " ++ decimal (length (filter (λ e. is_blocked e.1) ended.ends)) ++ line_end
