-- By bytes.
use Rattle.sg_check_statements.proofs.Sets.{gains}
use Rattle.sg_check_statements.proofs.names.NameSet.add.Goals as goal

pub returns-clause-ok : goal.returns-clause-ok
returns-clause-ok c = λ other. gains c.self.inside.names.keys c.insert.new.self.keys c.args.self.now c.args.name.now other
    (c.in_ok-insert.ensures.updates.0 (record { ref_ptr = (0, 0); now = other })) c.self.view_is
