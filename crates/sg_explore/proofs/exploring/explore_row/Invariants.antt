-- The parts so far are added.
use Rattle.std.proofs.Common.{◌-◌, ◌≤◌}
use Rattle.sg_explore.specs.Inside.Adding.{Adds}
use Rattle.sg_explore.specs.Inside.Jobs.{IsTriedOf}
use Rattle.sg_explore.specs.Inside.Stopping.{row_of}
use Rattle.sg_explore.specs.Inside.Sums.{sums_of}
use Rattle.sg_explore.proofs.exploring.explore_row.Given as goal

abbrev pub invariant-parts : goal.invariant-parts
invariant-parts g l = record {
  within : l.done ≤ l.row.count;
  added : Adds (IsTriedOf l.accepted g.S.Service.facts g.S.Service.ask g.S.Service.parts l.script l.plain) (row_of l.row.first l.row.from l.done) (sums_of l.fn.tally) (sums_of l.tally);
}

abbrev pub decreases-parts : goal.decreases-parts
decreases-parts g l = l.row.count - l.done
