use Rattle.std.proofs.Common.{refl, ◌∙◌, sym}
use Rattle.sg_boot.proofs.LastBoot.{room_at_end, struck_at_end}
use Rattle.sg_boot.proofs.journal.stop_last.Goals as goal

pub returns-clause-boots : goal.returns-clause-boots
returns-clause-boots c =
    rw (c.add.ensures.items, c.in-Some.ensures.some)
    (struck_at_end c.pop.new.self.items c.in-Some.last _ c.args.point refl refl)

pub returns-clause-last : goal.returns-clause-last
returns-clause-last c =
    rw (c.add.ensures.items, c.in-Some.ensures.some) (room_at_end c.pop.new.self.items _ ∙ sym (room_at_end c.pop.new.self.items c.in-Some.last))
