-- The row of one item more.
use Rattle.sg_facts.specs.Lent.{item_in}
use Rattle.sg_draw.specs.Labels.{label_of}
use Rattle.sg_draw.specs.Inside.Rows.{labels_in}
use Rattle.sg_draw.proofs.More.{labels_next}
use Rattle.sg_draw.proofs.rows.add_items.Goals as goal

pub items-preserved : goal.items-preserved
items-preserved c =
    labels_next (label_of c.args.iface.now.facts c.args.history.now.items) c.args.items.now.items c.items.at (item_in c.at-item.result) (labels_in c.args.rows.now)
    c.items.rows c.push.new.self _ c.at-item.ensures c.items.invariant c.in_ok-label.ensures c.in_ok-push.ensures.ok
