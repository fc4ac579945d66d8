-- The plays so far are added.
use Rattle.sg_explore.specs.Inside.Adding.{Adds}
use Rattle.sg_explore.specs.Inside.Jobs.{IsTriedOf}
use Rattle.sg_explore.specs.Inside.Stopping.{row_of}
use Rattle.sg_explore.specs.Inside.Sums.{sums_of}
use Rattle.sg_explore.proofs.exploring.add_outcomes.Given as goal

abbrev pub invariant-plays : goal.invariant-plays
invariant-plays g l = Adds (IsTriedOf l.accepted g.S.Service.facts g.S.Service.ask g.S.Service.parts l.script l.plain) (row_of l.row.first l.row.from l.at) (sums_of l.fn.tally) (sums_of l.tally)
