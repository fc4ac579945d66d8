-- The calls so far.
use Rattle.std.proofs.Common.{◌≡◌, true, drop, map, take}
use Rattle.std.specs.List.{flat_map, list_all}
use Rattle.sg_script.specs.Scripts.{calls_of_setup}
use Rattle.sg_script.specs.Inside.Held.{is_held}
use Rattle.sg_script.proofs.making.setup_of.Given as goal

abbrev pub invariant-each : goal.invariant-each
invariant-each g l = record {
  made : l.made.items ≡ map (g.M.MakesCalls.call_of l.maker) (flat_map calls_of_setup (take l.part-index l.parts));
  held : list_all is_held (drop l.part-index l.parts) ≡ true;
}
