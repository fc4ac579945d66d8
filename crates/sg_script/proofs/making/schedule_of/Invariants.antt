-- The turns so far.
use Rattle.std.proofs.Common.{◌≡◌, true, drop, map, take}
use Rattle.std.specs.List.{flat_map, list_all}
use Rattle.sg_script.specs.Numbers.{counts_as}
use Rattle.sg_script.specs.Inside.Parts.{turns_of}
use Rattle.sg_script.specs.Inside.Held.{is_held}
use Rattle.sg_script.proofs.making.schedule_of.Given as goal

abbrev pub invariant-each : goal.invariant-each
invariant-each l = record {
  made : l.made.items ≡ map (λ n. counts_as n.bytes) (flat_map turns_of (take l.part-index l.parts));
  held : list_all is_held (drop l.part-index l.parts) ≡ true;
}
