-- What is printed of an exploration.
use Rattle.std.specs.Prelude.{ℕ, ◌==◌, false, if◌then◌else◌, List, [], ◌∷◌, ◌++◌, codes, filter, find, length, map, max, min}
use Rattle.std.specs.Fmt.{decimal}
use Rattle.std.specs.List.{flat_map}
use Rattle.std.specs.Option.{option_map_or}
use Rattle.sg_facts.specs.Facts.{Facts}
use Rattle.sg_facts.specs.Trace.{run_of}
use Rattle.sg_facts.specs.Words.{line_end}
use Rattle.sg_facts.specs.sg_base.Counts.{last_count}
use Rattle.sg_report.specs.sg_hist.declared.ended.Ended.{Ended}
use Rattle.sg_report.specs.Report.{report_of}
use Rattle.sg_explore.specs.Tried.{Tried, has_all_stops, has_waiting, replays_in}

-- how many there are of a list, up to the greatest number of 64 bits
abbrev pub counted : {A : Type 0} → List A → ℕ
counted xs = min (length xs) last_count

-- the line of a number after a word
abbrev pub number_line : List ℕ → ℕ → List ℕ
number_line word number = word ++ decimal number ++ line_end

-- the line of a number after a word, and of the stops of the first run with it
abbrev pub number_at_line : List ℕ → ℕ → List ℕ → List ℕ
number_at_line word number stops = word ++ decimal number ++ codes " at" ++ flat_map (λ p. codes " " ++ decimal p) stops ++ line_end

-- the greatest of numbers, and 0 where there is none
abbrev pub greatest : List ℕ → ℕ
greatest [] = 0
greatest (n ∷ ns) = max n (greatest ns)

-- the greatest number of replayed calls of a run
abbrev pub most_replays : List Tried → ℕ
most_replays others = greatest (map (λ t. replays_in t.ended) others)

-- the stops of the first run with so many replayed calls
abbrev pub first_with : ℕ → List Tried → List ℕ
first_with replays others = option_map_or (λ t. t.stops) (find (λ t. replays_in t.ended == replays) others) []

-- the line of the greatest number of replayed calls
abbrev pub replays_line : List Tried → List ℕ
replays_line others =
    let most = most_replays others in
    if most == 0 then number_line (codes "replays ") 0 else number_at_line (codes "replays ") most (first_with most others)

-- of the runs that differ how many they are, the stops of the first, and what it came to as it is printed; `same` where there is none
abbrev pub differing_text : Facts → List Tried → List ℕ
differing_text facts [] = codes "same" ++ line_end
differing_text facts (t ∷ more) = number_at_line (codes "differs ") (counted (t ∷ more)) t.stops ++ report_of facts t.ended false

-- what all runs came to: the play without stops, and the others
abbrev pub all_ends : Ended → List Tried → List Ended
all_ends plain others = plain ∷ map (λ t. t.ended) others

-- an exploration: the number of points that the play without stops asked, of the runs, of those of the others that stopped at all their
-- stops, the greatest number of replayed calls of a run, the number of runs at whose end a client waits, and what differs
abbrev pub exploration_text : Facts → Ended → List Tried → List ℕ
exploration_text facts plain others =
    number_line (codes "points ") (run_of plain.trace).points
    ++ number_line (codes "runs ") (counted (all_ends plain others))
    ++ number_line (codes "stops ") (counted (filter has_all_stops others))
    ++ replays_line others
    ++ number_line (codes "blocked ") (counted (filter has_waiting (all_ends plain others)))
    ++ differing_text facts (filter (λ t. t.differs) others)
