use Rattle.std.proofs.Common.{refl, arith, ◌≤◌}
use Rattle.sg_facts.specs.Loads.{load_item}
use Rattle.sg_boot.proofs.LastBoot.{noted_at_end, room_at_end}
use Rattle.sg_boot.proofs.journal.note_load.Goals as goal

pub returns-clause-boots : goal.returns-clause-boots
returns-clause-boots c =
    rw (c.add.ensures.items, c.in-Some.ensures.some)
    (noted_at_end c.pop.new.self.items c.in-Some.last (record { items = c.add_load.new.self; stop = c.in-Some.last.stop }) (load_item c.args.load) c.add_load.ensures.items refl)

pub add_load-requires : goal.add_load-requires
add_load-requires c =
    let room : 1 ≤ c.in-Some.last.items.room =
    rw (c.in-Some.ensures.some, room_at_end c.pop.new.self.items c.in-Some.last) at c.requires.room in
    omega (arith, room)
