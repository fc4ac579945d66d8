-- What a cell keeps: a service, and what was done to it.
use Rattle.std.specs.Prelude.{ℕ, ◌≡◌, ◌≢◌, false, List, [], None, Some, IsSome}
use Rattle.std.specs.declared.option.Option.{Option}
use Rattle.sg_facts.specs.Facts.{Facts}
use Rattle.sg_facts.specs.Object.{Object}
use Rattle.sg_facts.specs.Trace.{Boot, Run}
use Rattle.sg_hist.specs.Reading.{last_items, value_at}
use Rattle.sg_hist.specs.Recovered.{ends_stopped}
use Rattle.sg_hist.specs.Growing.{last_stop}

-- what contracts see of a cell: what the running service holds, None for one that failed; the trace of what was done to it; and
-- how many items and boots more can be noted without memory
pub record Celled : Type 0 where
  pub running : Option Object
  pub run : Run
  pub room : ℕ

-- a running service: its boot wasn't stopped, and it holds what the items of the boot made of an empty one
pub record IsUp (facts : Facts) (boots : List Boot) (held : Object) : Type 0 where
  pub unstopped : last_stop boots ≡ None
  pub unbroken : ends_stopped (last_items boots) ≡ false
  pub folded : held ≡ value_at facts (last_items boots)

-- the boot of a service that failed was stopped
abbrev pub IsRunning : Facts → List Boot → Option Object → Type 0
IsRunning facts boots None = IsSome (last_stop boots)
IsRunning facts boots (Some held) = IsUp facts boots held

-- there is a boot, and the last tells what has become of the service
pub record IsCell (facts : Facts) (running : Option Object) (boots : List Boot) : Type 0 where
  pub begun : boots ≢ []
  pub runs : IsRunning facts boots running
