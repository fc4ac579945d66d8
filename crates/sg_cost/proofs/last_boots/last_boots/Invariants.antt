-- The first boots are noted.
use Rattle.std.proofs.Common.{map, take}
use Rattle.sg_cost.specs.Inside.LastBoots.{AreLastBoots}
use Rattle.sg_facts.specs.Inside.Rows.{boot_of}
use Rattle.sg_cost.proofs.last_boots.last_boots.Given as goal

abbrev pub invariant-boots : goal.invariant-boots
invariant-boots l = AreLastBoots l.last.entries (map boot_of (take l.at l.boots))
