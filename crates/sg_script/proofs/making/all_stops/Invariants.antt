-- The stops of the members so far.
use Rattle.std.proofs.Common.{◌≡◌, map}
use Rattle.std.specs.Prelude.{filter}
use Rattle.std.specs.List.{range_with_len}
use Rattle.sg_script.specs.Scripts.{is_stop_of, stops_of}
use Rattle.sg_script.proofs.making.all_stops.Given as goal

abbrev pub invariant-each : goal.invariant-each
invariant-each l = record {
  made : l.made.items ≡ map (λ m. stops_of (filter (is_stop_of l.members m) l.parts)) (range_with_len 0 l.member);
}
