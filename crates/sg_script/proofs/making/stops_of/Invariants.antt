-- The stops so far.
use Rattle.std.proofs.Common.{◌≡◌, map, take}
use Rattle.std.specs.List.{flat_map}
use Rattle.sg_script.specs.Numbers.{counts_as}
use Rattle.sg_script.specs.Inside.Parts.{stops_in}
use Rattle.sg_script.proofs.making.stops_of.Given as goal

abbrev pub invariant-each : goal.invariant-each
invariant-each l = record {
  made : l.made.items ≡ map (λ n. counts_as n.bytes) (flat_map stops_in (take l.part-index l.parts));
}
