-- The first boots have rows.
use Rattle.std.proofs.Common.{◌≡◌, ◌++◌, map, take}
use Rattle.sg_facts.specs.Inside.Rows.{boot_of}
use Rattle.sg_draw.specs.Labels.{labels_from}
use Rattle.sg_draw.specs.Inside.Rows.{labels_in}
use Rattle.sg_draw.proofs.rows.add_boots.Given as goal

abbrev pub invariant-boots : goal.invariant-boots
invariant-boots l = labels_in l.rows ≡ labels_in l.initial.rows ++ labels_from l.iface.facts l.history.items 1 (map boot_of (take l.at l.boots))
