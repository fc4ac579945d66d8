-- What the stops that are left add to the flaws so far.
use Rattle.std.proofs.Common.{◌≡◌, ◌+◌, drop}
use Rattle.sg_script.specs.Inside.Firsts.{first_after}
use Rattle.sg_script.specs.Flaws.{stops_flaws}
use Rattle.sg_script.proofs.judging.judge_stops.Given as goal

abbrev pub invariant-each : goal.invariant-each
invariant-each l = first_after l.first (stops_flaws (l.place + 1) l.before (drop l.place l.stops)) ≡ first_after l.fn.first (stops_flaws 1 0 l.stops)
