use Rattle.std.proofs.Common.{refl, arith, ◌≤◌}
use Rattle.sg_facts.specs.Lent.{item_asked}
use Rattle.sg_boot.proofs.LastBoot.{noted_at_end, room_at_end}
use Rattle.sg_boot.proofs.journal.note_brief.Goals as goal

pub returns-clause-boots : goal.returns-clause-boots
returns-clause-boots c =
    rw (c.add.ensures.items, c.in-Some.ensures.some)
    (noted_at_end c.pop.new.self.items c.in-Some.last (record { items = c.add_brief.new.self; stop = c.in-Some.last.stop }) (item_asked c.args.asking.now) c.add_brief.ensures.items refl)

pub add_brief-requires-clause-room : goal.add_brief-requires-clause-room
add_brief-requires-clause-room c =
    let room : 1 ≤ c.in-Some.last.items.room =
    rw (c.in-Some.ensures.some, room_at_end c.pop.new.self.items c.in-Some.last) at c.requires.room in
    omega (arith, room)
