use Rattle.std.proofs.Common.{◌≤◌, subst, sym, ◌∙◌, ap}
use Rattle.sg_boot.proofs.LastBoot.{room_at_end}
use Rattle.sg_boot.specs.Inside.Journals.{last_room}
use Rattle.std.specs.Result.{OnOk}
use Rattle.sg_boot.proofs.journal.reserve_item.Goals as goal

pub returns-clause-ok : goal.returns-clause-ok
returns-clause-ok c =
    subst (λ n. OnOk c.reserve-reserved.result (1 ≤ n)) (sym (ap last_room c.add.ensures.items ∙ room_at_end c.pop.new.self.items _)) c.reserve-reserved.ensures.ok

pub returns-clause-last : goal.returns-clause-last
returns-clause-last c =
    subst (λ n. last_room c.args.boots.now.items ≤ n) (sym (ap last_room c.add.ensures.items ∙ room_at_end c.pop.new.self.items _))
    (subst (λ n. n ≤ c.reserve-reserved.new.self.room) (sym (ap last_room c.in-Some.ensures.some ∙ room_at_end c.pop.new.self.items c.in-Some.last)) c.reserve-reserved.ensures.room)
