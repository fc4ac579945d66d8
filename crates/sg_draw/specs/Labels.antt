-- What a picture of a run tells, row by row: the lines of its trace, with the replies beside the calls.
use Rattle.std.specs.Prelude.{ℕ, ◌+◌, ◌==◌, ◌&&◌, List, [], ◌∷◌, ◌++◌, None, Some, find, map, codes}
use Rattle.std.specs.Fmt.{decimal}
use Rattle.std.specs.Option.{option_map_or}
use Rattle.std.specs.declared.option.Option.{Option}
use Rattle.sg_facts.specs.declared.entry.Entry.{Entry}
use Rattle.sg_facts.specs.declared.outcome.Outcome.{Outcome}
use Rattle.sg_facts.specs.declared.outcome.Outcome.TheVariants.{Replied}
use Rattle.sg_facts.specs.declared.trace.Item.{Item}
use Rattle.sg_facts.specs.declared.trace.Tag.{Tag}
use Rattle.sg_facts.specs.declared.trace.Tag.TheVariants.{Client}
use Rattle.sg_facts.specs.Facts.{Facts, fun_at}
use Rattle.sg_facts.specs.Trace.{Boot, run_of}
use Rattle.sg_report.specs.Report.{item_text, reply_text}
use Rattle.sg_report.specs.sg_hist.declared.ended.Ended.{Ended}

-- the first entry of a history that is of the call of this number of this client
abbrev pub entry_of : List Entry → ℕ → ℕ → Option Entry
entry_of history client seq = find (λ e. (e.call.client == client) && (e.call.seq == seq)) history

-- the reply of an entry after ` = `, as a run prints it; nothing where there is no entry
abbrev pub reply_told : Facts → Option Entry → List ℕ
reply_told facts entry = option_map_or (λ e. codes " = " ++ reply_text (fun_at facts.funs e.call.fun) e.reply) entry []

-- the reply to an item's call where it is a client's that replied, and nothing of any other item
abbrev pub answer_told : Facts → List Entry → Tag → Outcome → List ℕ
answer_told facts history tag outcome =
    elim tag [ Client client seq ↦ (elim outcome [ Replied reply patch ↦ reply_told facts (entry_of history client seq) | _ ↦ [] ]) | _ ↦ [] ]

-- the label of an item: its line in the trace, and the reply
abbrev pub label_of : Facts → List Entry → Item → List ℕ
label_of facts history item = item_text facts item.tag item.shown item.outcome ++ answer_told facts history item.tag item.outcome

-- the labels of boots, numbered from this one on: that of the boot, those of its items, and that of its stop, where it had one
abbrev pub labels_from : Facts → List Entry → ℕ → List Boot → List (List ℕ)
labels_from facts history number [] = []
labels_from facts history number (b ∷ boots) =
    ((codes "boot " ++ decimal number) ∷ map (label_of facts history) b.items ++ (elim b.stop [ None ↦ [] | Some point ↦ (codes "stop " ++ decimal point) ∷ [] ]))
    ++ labels_from facts history (number + 1) boots

-- the labels of a run: those of its boots, and the number of points that were asked
abbrev pub labels_of : Facts → Ended → List (List ℕ)
labels_of facts ended = labels_from facts ended.history.items 1 (run_of ended.trace).boots ++ (codes "points " ++ decimal (run_of ended.trace).points) ∷ []
