-- Which stops are tried, and what a run with them came to.
use Rattle.std.specs.Prelude.{ℕ, ◌+◌, ◌-◌, ◌==◌, Bool, true, List, [], ◌∷◌, ◌++◌, length, map, min}
use Rattle.std.specs.List.{flat_map, list_any, range_with_len as ascending_from}
use Rattle.sg_facts.specs.Trace.{run_of}
use Rattle.sg_facts.specs.sg_base.Counts.{last_count}
use Rattle.sg_report.specs.sg_hist.declared.ended.Ended.{Ended}
use Rattle.sg_report.specs.sg_hist.Reading.{items_of}
use Rattle.sg_report.specs.sg_hist.Recovered.{is_blocked, struck_in}
use Rattle.sg_report.specs.Report.{replays_for}

-- the greatest number up to which each two points may be tried
abbrev pub most_paired : ℕ
most_paired = 1000

-- the stops that are tried, where the play without stops asks so many points: each of these points alone, and each two points up to a
-- bound of which the first is one of them
abbrev pub stops_tried : ℕ → ℕ → List (List ℕ)
stops_tried points most =
    map (λ p. p ∷ []) (ascending_from 1 points)
    ++ flat_map (λ p. map (λ q. p ∷ q ∷ []) (ascending_from (p + 1) (most - p))) (ascending_from 1 (min points most))

-- a run that was tried: its stops, what it came to, and whether its entries are others than those of the play without stops
pub record Tried : Type 0 where
  pub stops : List ℕ
  pub ended : Ended
  pub differs : Bool

-- whether the service stopped at all stops of a run
abbrev pub has_all_stops : Tried → Bool
has_all_stops t = length (struck_in (run_of t.ended.trace)) == length t.stops

-- the replayed calls of a run, which are counted up to the greatest number of 64 bits
abbrev pub replays_in : Ended → ℕ
replays_in ended = min (replays_for (λ id. true) (items_of (run_of ended.trace).boots)) last_count

-- whether some client waits at the end of a run
abbrev pub has_waiting : Ended → Bool
has_waiting ended = list_any (λ e. is_blocked e.1) ended.ends
