-- Runs that were tried, one after the other, and what is kept of them.
use Rattle.std.specs.Prelude.{ℕ, ◌≡◌, ◌+◌, ◌<◌, List, map, slice_index_or, IfOk}
use Rattle.std.specs.List.{fold}
use Rattle.std.specs.declared.option.Option.{Option}
use Rattle.std.specs.declared.result.Result.{Result}
use Rattle.sg_facts.specs.sg_base.Lists.{Each}
use Rattle.sg_facts.specs.sg_base.declared.memory.NoMemory.{NoMemory}
use Rattle.sg_explore.specs.declared.outcomes.Outcome.{Outcome}
use Rattle.sg_explore.specs.Inside.Stopping.{behind}
use Rattle.sg_explore.specs.Inside.Sums.{Sums, outcome_of, sums_with}
use Rattle.sg_explore.specs.Tried.{Tried}

-- this is kept of a run with these stops, of which a fact holds
pub record IsOutcomeOf (P : Tried → Type 0) (stops : List ℕ) (o : Outcome) : Type 0 where
  pub run : Tried
  pub its : run.stops ≡ stops
  pub is : P run
  pub kept : o ≡ outcome_of run

-- each of so many outcomes is kept of the run with a stop at its place, counted from a point on, alone or behind a first one
abbrev pub AreOutcomes : (Tried → Type 0) → Option ℕ → ℕ → ℕ → List (Result Outcome NoMemory) → Type 0
AreOutcomes P first from count rs = (k : ℕ) (d : Result Outcome NoMemory) → k < count → IfOk (slice_index_or rs k d) (IsOutcomeOf P (behind first (from + k)))

-- runs with these stops, of each of which a fact holds, came one after the other, and sums went on with them
pub record Adds (P : Tried → Type 0) (stops : List (List ℕ)) (before now : Sums) : Type 0 where
  pub others : List Tried
  pub tried : map (λ t. t.stops) others ≡ stops
  pub each : Each P others
  pub sums : now ≡ fold sums_with before others
