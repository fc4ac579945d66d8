-- Nothing is wrong with the arguments so far, and they are made.
use Rattle.std.proofs.Common.{◌≡◌, [], take, map}
use Rattle.std.specs.List.{flat_map}
use Rattle.sg_entries.specs.Inside.Flaws.{arg_flaws}
use Rattle.sg_entries.specs.Standing.{value_of}
use Rattle.sg_entries.proofs.making.values_of.Given as goal

abbrev pub invariant-each : goal.invariant-each
invariant-each l = record {
  flawless : flat_map arg_flaws (take l.arg-index l.args) ≡ [];
  made : l.made.items ≡ map value_of (take l.arg-index l.args);
}
