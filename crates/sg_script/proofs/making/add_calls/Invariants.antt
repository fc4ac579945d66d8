-- The calls so far.
use Rattle.std.proofs.Common.{◌≡◌, ◌++◌, true, drop, map, take}
use Rattle.std.specs.List.{list_all}
use Rattle.sg_script.specs.Inside.Held.{is_held_call}
use Rattle.sg_script.proofs.making.add_calls.Given as goal

abbrev pub invariant-each : goal.invariant-each
invariant-each g l = record {
  made : l.made.items ≡ l.fn.made.items ++ map (g.M.MakesCalls.call_of l.maker) (take l.call-index l.calls);
  held : list_all is_held_call (drop l.call-index l.calls) ≡ true;
}
