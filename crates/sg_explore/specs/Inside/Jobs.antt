-- What is explored.
use Rattle.std.specs.Prelude.{ℕ}
use Rattle.sg_facts.specs.Facts.{Facts}
use Rattle.sg_facts.specs.Interface.{Declared}
use Rattle.sg_facts.specs.Legal.{Table}
use Rattle.sg_report.specs.sg_hist.declared.ended.Ended.{Ended}
use Rattle.sg_shared.specs.sg_sim.sg_script.declared.script.Script.{Script}
use Rattle.sg_explore.specs.Explored.{IsTried}
use Rattle.sg_explore.specs.Tried.{Tried}

-- a run is one of a script that was tried, under an interface of a service, beside the play without stops
abbrev pub IsTriedOf : Declared → Facts → Table → (ℕ → ℕ) → Script → Ended → Tried → Type 0
IsTriedOf i facts ask parts script plain t = IsTried i (record { facts = facts; ask = ask; parts = parts }) script plain t
