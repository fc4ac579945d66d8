-- The first entries are printed.
use Rattle.std.proofs.Common.{◌≡◌, ◌++◌, take}
use Rattle.std.specs.List.{flat_map}
use Rattle.sg_report.specs.Report.{entry_line}
use Rattle.sg_report.proofs.printed.push_entries.Given as goal

abbrev pub invariant-entries : goal.invariant-entries
invariant-entries l = l.out ≡ l.initial.out ++ flat_map (entry_line l.iface.facts) (take l.at l.history.items)
