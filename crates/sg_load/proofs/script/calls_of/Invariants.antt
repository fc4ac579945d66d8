-- The groups so far, with those that are left.
use Rattle.std.proofs.Common.{◌≡◌, ◌+◌, ◌*◌, ◌-◌, ◌≤◌, ◌++◌}
use Rattle.sg_load.specs.Drawn.{after_draws}
use Rattle.sg_load.specs.Generated.{groups_from}
use Rattle.sg_load.specs.Inside.{calls_of_client, groups_of, most_group, most_setup}
use Rattle.sg_load.proofs.script.calls_of.Given as goal

abbrev pub invariant-each : goal.invariant-each
invariant-each l = record {
  made : l.calls ++ groups_from l.service l.client l.draws l.first (l.done + 1) (groups_of l.service l.client - l.done) ≡ calls_of_client l.service l.client l.fn.draws;
  drawn : after_draws l.draws (groups_of l.service l.client - l.done) ≡ after_draws l.fn.draws (groups_of l.service l.client);
  most : l.first ≤ 1 + most_setup + most_group * l.done;
}
