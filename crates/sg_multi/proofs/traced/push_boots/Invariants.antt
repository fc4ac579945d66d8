-- The first boots are printed.
use Rattle.std.proofs.Common.{◌≡◌, ◌++◌, map, take}
use Rattle.sg_facts.specs.Inside.Rows.{boot_of}
use Rattle.sg_report.specs.Report.{boots_lines}
use Rattle.sg_multi.specs.Inside.Numbers.{number_by}
use Rattle.sg_multi.specs.Report.{renumbered_boot}
use Rattle.sg_multi.proofs.traced.push_boots.Given as goal

abbrev pub invariant-boots : goal.invariant-boots
invariant-boots l = l.out ≡ l.initial.out ++ boots_lines l.iface.facts 1 (map (renumbered_boot (number_by l.numbers l.member)) (map boot_of (take l.at l.boots)))
