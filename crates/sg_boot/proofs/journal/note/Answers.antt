use Rattle.std.proofs.Common.{refl, arith, ◌≤◌}
use Rattle.sg_boot.proofs.LastBoot.{noted_at_end, room_at_end}
use Rattle.sg_boot.proofs.journal.note.Goals as goal

pub returns-clause-boots : goal.returns-clause-boots
returns-clause-boots c =
    rw (c.add-in-Some.ensures.items, c.in-Some.ensures.some)
    (noted_at_end c.pop.new.self.items c.in-Some.last (record { items = c.add.new.self; stop = c.in-Some.last.stop }) c.args.item c.add.ensures.items refl)

pub add-requires : goal.add-requires
add-requires c =
    let room : 1 ≤ c.in-Some.last.items.room =
    rw (c.in-Some.ensures.some, room_at_end c.pop.new.self.items c.in-Some.last) at c.requires.room in
    omega (arith, room)
