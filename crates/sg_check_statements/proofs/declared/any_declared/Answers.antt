-- Part by part.
use Rattle.std.proofs.Common.{sym, ◌∙◌}
use Rattle.sg_check_statements.proofs.Judged.{any_of_declared}
use Rattle.sg_check_statements.proofs.declared.any_declared.Goals as goal

pub returns : goal.returns
returns g c = c.any_by_parts.ensures
    ∙ sym (any_of_declared (g.T.Test.passes c.args.test.now) c.args.proto.now.statements.now c.args.proto.now.name.now c.args.proto.now.ret.now c.args.proto.now.params.now)
