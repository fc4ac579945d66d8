-- The first boots are printed.
use Rattle.std.proofs.Common.{◌≡◌, ◌++◌, map, take}
use Rattle.sg_facts.specs.Inside.Rows.{boot_of}
use Rattle.sg_report.specs.Report.{boots_lines}
use Rattle.sg_report.proofs.traced.push_boots.Given as goal

abbrev pub invariant-boots : goal.invariant-boots
invariant-boots l = l.out ≡ l.initial.out ++ boots_lines l.iface.facts 1 (map boot_of (take l.at l.boots))
