-- The parts of the printed run, by themselves.
use Rattle.std.specs.Prelude.{ℕ, ◌==◌, Bool, true, if◌then◌else◌, List, [], ◌∷◌, ◌++◌, None, Some, length, filter, min, codes, false, ◌&&◌}
use Rattle.std.specs.declared.option.Option.{Option}
use Rattle.std.specs.Fmt.{decimal}
use Rattle.std.specs.List.{flat_map}
use Rattle.sg_facts.specs.sg_base.Counts.{last_count}
use Rattle.sg_facts.specs.sg_base.declared.reply.Good.{Good}
use Rattle.sg_facts.specs.Words.{line_end}
use Rattle.sg_facts.specs.declared.trace.Item.{Item}
use Rattle.sg_facts.specs.Facts.{Facts, Fun, shows_bytes}
use Rattle.sg_facts.specs.Trace.{Boot, Run}
use Rattle.sg_facts.specs.declared.trace.Tag.{Tag}
use Rattle.sg_facts.specs.declared.trace.Tag.TheVariants.{Walk}
use Rattle.sg_facts.specs.declared.outcome.Outcome.{Outcome}
use Rattle.sg_hist.specs.declared.ended.End.{End}
use Rattle.sg_hist.specs.Recovered.{is_blocked, is_replied}
use Rattle.sg_report.specs.Report.{boots_lines, item_text, replays_for}

-- ---- calls and replies

-- bytes in double quotes
abbrev pub quoted : List ℕ → List ℕ
quoted bytes = 34 ∷ bytes ++ 34 ∷ []

-- whether an item is a replayed call that was answered, of a descriptor whose id meets a test
abbrev pub is_replay_for : (ℕ → Bool) → Tag → Outcome → Bool
is_replay_for test tag outcome = elim tag [ Walk id k client ↦ test id && is_replied outcome | _ ↦ false ]

-- an Ok of a function: its descriptor, where it has one, its words, and its bytes where they are shown
abbrev pub good_text : Fun → Good → List ℕ
good_text f good =
    codes "ok" ++ (if good.desc == 0 then [] else codes " #" ++ decimal good.desc)
    ++ flat_map (λ word. codes " " ++ decimal word) good.words
    ++ (if shows_bytes f then codes " " ++ quoted good.bytes else [])

-- how many of these ends are those of clients that wait
abbrev pub blocked_among : List (ℕ × End) → ℕ
blocked_among ends = length (filter (λ e. is_blocked e.1) ends)

-- ---- the trace

-- the line of a stop, where a boot had one
abbrev pub stop_line : Option ℕ → List ℕ
stop_line None = []
stop_line (Some point) = codes "stop " ++ decimal point ++ line_end

-- a boot under its number
abbrev pub boot_lines : Facts → ℕ → Boot → List ℕ
boot_lines facts number b = codes "boot " ++ decimal number ++ line_end ++ flat_map (λ item. item_text facts item.tag item.shown item.outcome ++ line_end) b.items ++ stop_line b.stop

-- the trace: the boots, and the number of points that were asked
abbrev pub trace_lines : Facts → Run → List ℕ
trace_lines facts run = boots_lines facts 1 run.boots ++ codes "points " ++ decimal run.points ++ line_end

-- how many calls of walks replied, up to the greatest number of 64 bits
abbrev pub replays_of : List Item → ℕ
replays_of items = min (replays_for (λ id. true) items) last_count
