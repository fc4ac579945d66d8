-- One number more.
use Rattle.sg_check.proofs.Gaining.{gains}
use Rattle.sg_check.proofs.numbers.Numbers.add.Goals as goal

pub returns-clause-ok : goal.returns-clause-ok
returns-clause-ok c = gains c.insert.new.self.keys c.self.inside.numbers.keys c.args.self.now c.args.number c.in_ok-insert.ensures.updates.0 c.self.view_is
