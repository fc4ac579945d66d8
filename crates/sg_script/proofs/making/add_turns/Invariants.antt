-- The turns so far.
use Rattle.std.proofs.Common.{◌≡◌, ◌++◌, true, drop, map, take}
use Rattle.std.specs.List.{list_all}
use Rattle.sg_script.specs.Numbers.{counts_as}
use Rattle.sg_script.specs.Inside.Held.{is_client_number}
use Rattle.sg_script.proofs.making.add_turns.Given as goal

abbrev pub invariant-each : goal.invariant-each
invariant-each l = record {
  made : l.made.items ≡ l.fn.made.items ++ map (λ n. counts_as n.bytes) (take l.number-index l.numbers);
  held : list_all is_client_number (drop l.number-index l.numbers) ≡ true;
}
