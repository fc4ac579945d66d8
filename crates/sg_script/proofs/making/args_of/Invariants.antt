-- The arguments so far.
use Rattle.std.proofs.Common.{◌≡◌, true, drop, map, take}
use Rattle.std.specs.List.{list_all}
use Rattle.sg_script.specs.Inside.Parts.{arg_of}
use Rattle.sg_script.specs.Inside.Held.{is_held_arg}
use Rattle.sg_script.proofs.making.args_of.Given as goal

abbrev pub invariant-each : goal.invariant-each
invariant-each l = record {
  made : l.made.items ≡ map arg_of (take l.arg-index l.args);
  held : list_all is_held_arg (drop l.arg-index l.args) ≡ true;
}
