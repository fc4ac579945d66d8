-- The stops so far, with those that are left.
use Rattle.std.proofs.Common.{◌≡◌, ◌*◌, ◌-◌, ◌≤◌, ◌++◌}
use Rattle.sg_load.specs.Drawn.{after_draws, stops_from}
use Rattle.sg_load.specs.Inside.{most_distance, stop_count}
use Rattle.sg_load.proofs.script.stops.Given as goal

abbrev pub invariant-each : goal.invariant-each
invariant-each l = record {
  made : l.stops ++ stops_from l.draws l.stop (stop_count - l.done) ≡ stops_from l.fn.draws 0 stop_count;
  drawn : after_draws l.draws (stop_count - l.done) ≡ after_draws l.fn.draws stop_count;
  most : l.stop ≤ most_distance * l.done;
}
