-- The lines are those of the interface's tables.
use Rattle.std.proofs.Common.{◌∙◌}
use Rattle.sg_explain.proofs.Explained.{told_tables}
use Rattle.sg_explain.proofs.explaining.told_of.Goals as goal

pub returns : goal.returns
returns c =
    told_tables c.told_by.result c.args.accepted.now c.interface.result.now c.in_ok-tables.tables.walks c.lines.result.now c.in_ok-tables.ensures.lines
    (c.interface.ensures.same ∙ c.in_ok-tables.ensures.iface) c.lines.ensures.same c.told_by.ensures
