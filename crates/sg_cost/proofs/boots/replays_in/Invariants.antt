-- The first items are counted.
use Rattle.std.proofs.Common.{◌≡◌, ◌≤◌, true, take}
use Rattle.sg_report.specs.Report.{replays_for}
use Rattle.sg_cost.proofs.boots.replays_in.Given as goal

abbrev pub invariant-items : goal.invariant-items
invariant-items l = record {
  is : l.count ≡ replays_for (λ id. true) (take l.at l.items.items);
  few : l.count ≤ l.at;
}
