-- What is counted of runs, one after the other.
use Rattle.std.specs.Prelude.{ℕ, ◌+◌, Bool, true, false, nat_lt, if◌then◌else◌, List, ◌++◌, None, Some, codes, min}
use Rattle.std.specs.Option.{option_map, option_map_or}
use Rattle.std.specs.declared.option.Option.{Option}
use Rattle.sg_facts.specs.Facts.{Facts}
use Rattle.sg_facts.specs.Words.{line_end}
use Rattle.sg_facts.specs.sg_base.Counts.{last_count}
use Rattle.sg_report.specs.sg_hist.declared.ended.Ended.{Ended}
use Rattle.sg_report.specs.Report.{report_of}
use Rattle.sg_explore.specs.declared.outcomes.Outcome.{Outcome}
use Rattle.sg_explore.specs.declared.tally.Most.{Most}
use Rattle.sg_explore.specs.declared.tally.Shown.{Shown}
use Rattle.sg_explore.specs.declared.tally.Tally.{Tally}
use Rattle.sg_explore.specs.Inside.Stopping.{points_of}
use Rattle.sg_explore.specs.Text.{number_at_line, number_line}
use Rattle.sg_explore.specs.Tried.{Tried, has_all_stops, has_waiting, replays_in}

-- what is counted of runs: how many they are, how many stopped at all their stops, the greatest number of replayed calls, where it isn't
-- 0, with the stops of the first run that has it, at the end of how many a client waits, how many differ, and the first that differs
pub record Sums : Type 0 where
  pub runs : ℕ
  pub stopped : ℕ
  pub most : Option (ℕ × List ℕ)
  pub blocked : ℕ
  pub differing : ℕ
  pub first : Option Tried

-- a greatest number as plain data
abbrev pub most_of : Option Most → Option (ℕ × List ℕ)
most_of most = option_map (λ m. (m.replays, points_of m.stops)) most

-- the first run that differs as plain data
abbrev pub first_tried : Option Shown → Option Tried
first_tried first = option_map (λ shown. record { stops = points_of shown.stops; ended = shown.played; differs = true }) first

-- a tally as plain data
abbrev pub sums_of : Tally → Sums
sums_of t = record {
  runs = t.runs;
  stopped = t.stopped;
  most = most_of t.most;
  blocked = t.blocked;
  differing = t.differing;
  first = first_tried t.first;
}

-- what is kept of a run
abbrev pub outcome_of : Tried → Outcome
outcome_of t = record { stopped = has_all_stops t; replays = replays_in t.ended; waits = has_waiting t.ended; differs = t.differs }

-- one more, where something holds, up to the greatest number of 64 bits
abbrev pub one_more : Bool → ℕ → ℕ
one_more holds count = if holds then min (count + 1) last_count else count

-- a greatest number, 0 where there is none
abbrev pub amount_of : Option (ℕ × List ℕ) → ℕ
amount_of most = option_map_or (λ m. m.0) most 0

-- the greatest number, with its stops, where another number comes after it
abbrev pub raised : Option (ℕ × List ℕ) → List ℕ → ℕ → Option (ℕ × List ℕ)
raised most stops replays = if nat_lt (amount_of most) replays then Some (replays, stops) else most

-- the counts with one run more
abbrev pub counted_with : Sums → List ℕ → Outcome → Sums
counted_with s stops o = record {
  runs = one_more true s.runs;
  stopped = one_more o.stopped s.stopped;
  most = raised s.most stops o.replays;
  blocked = one_more o.waits s.blocked;
  differing = one_more o.differs s.differing;
  first = s.first;
}

-- the first that differs, where a run comes after others
abbrev pub first_of : Option Tried → Tried → Option Tried
first_of (Some first) t = Some first
first_of None t = if t.differs then Some t else None

-- the sums with one run more
abbrev pub sums_with : Sums → Tried → Sums
sums_with s t = record (counted_with s t.stops (outcome_of t)) { first = first_of s.first t }

-- the sums of the play without stops alone
abbrev pub sums_from : Ended → Sums
sums_from plain = record { runs = 1; stopped = 0; most = None; blocked = one_more (has_waiting plain) 0; differing = 0; first = None }

-- the line of the greatest number of replayed calls
abbrev pub most_line : Option (ℕ × List ℕ) → List ℕ
most_line None = number_line (codes "replays ") 0
most_line (Some m) = number_at_line (codes "replays ") m.0 m.1

-- what is printed of the runs that differ
abbrev pub differing_lines : Facts → ℕ → Option Tried → List ℕ
differing_lines facts differing None = codes "same" ++ line_end
differing_lines facts differing (Some t) = number_at_line (codes "differs ") differing t.stops ++ report_of facts t.ended false

-- sums as they are printed
abbrev pub sums_text : Facts → ℕ → Sums → List ℕ
sums_text facts points s =
    number_line (codes "points ") points
    ++ number_line (codes "runs ") s.runs
    ++ number_line (codes "stops ") s.stopped
    ++ most_line s.most
    ++ number_line (codes "blocked ") s.blocked
    ++ differing_lines facts s.differing s.first
