-- One item more is printed.
use Rattle.sg_facts.specs.Lent.{item_in}
use Rattle.sg_multi.specs.Inside.Numbers.{number_by}
use Rattle.sg_multi.proofs.PrintedMembers.{items_more}
use Rattle.sg_multi.proofs.traced.push_items.Goals as goal

pub items-preserved : goal.items-preserved
items-preserved c =
    items_more c.args.iface.now.facts (number_by c.args.numbers.now c.args.member) c.args.items.now.items c.items.at (item_in c.at.result) c.args.out.now c.items.out
    c.push_numbered_item.new.out c.at.ensures c.items.invariant c.in_ok-push_numbered_item.ensures
