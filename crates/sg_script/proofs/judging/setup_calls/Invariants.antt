-- The calls of the setups so far.
use Rattle.std.proofs.Common.{◌≡◌, ◌≤◌, ◌*◌, length, take}
use Rattle.std.specs.List.{flat_map}
use Rattle.sg_script.specs.Scripts.{calls_of_setup}
use Rattle.sg_script.proofs.judging.setup_calls.Given as goal

abbrev pub invariant-each : goal.invariant-each
invariant-each l = record {
  count : l.count ≡ length (flat_map calls_of_setup (take l.part-index l.parts));
  most : l.count ≤ l.part-index * 18446744073709551615;
}
