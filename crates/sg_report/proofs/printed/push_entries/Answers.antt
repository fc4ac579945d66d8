-- One entry more is printed.
use Rattle.sg_hist.specs.Lent.{entry_in}
use Rattle.sg_report.specs.Report.{entry_line}
use Rattle.sg_report.proofs.Nexts.{flat_more}
use Rattle.sg_report.proofs.printed.push_entries.Goals as goal

pub entries-preserved : goal.entries-preserved
entries-preserved c =
    flat_more (entry_line c.args.iface.now.facts) c.args.history.now.items c.entries.at (entry_in c.at.result) c.args.out.now c.entries.out c.push_entry.new.out
    c.at.ensures c.entries.invariant c.in_ok-push_entry.ensures
