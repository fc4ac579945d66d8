-- The first items have rows.
use Rattle.std.proofs.Common.{◌≡◌, ◌++◌, map, take}
use Rattle.sg_draw.specs.Labels.{label_of}
use Rattle.sg_draw.specs.Inside.Rows.{labels_in}
use Rattle.sg_draw.proofs.rows.add_items.Given as goal

abbrev pub invariant-items : goal.invariant-items
invariant-items l = labels_in l.rows ≡ labels_in l.initial.rows ++ map (label_of l.iface.facts l.history.items) (take l.at l.items.items)
