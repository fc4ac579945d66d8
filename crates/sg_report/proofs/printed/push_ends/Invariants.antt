-- The first ends are printed.
use Rattle.std.proofs.Common.{◌≡◌, ◌++◌, take}
use Rattle.std.specs.List.{flat_map}
use Rattle.std.specs.Prelude.{codes}
use Rattle.std.specs.Fmt.{decimal}
use Rattle.sg_report.specs.Report.{end_text}
use Rattle.sg_facts.specs.Words.{line_end}
use Rattle.sg_report.proofs.printed.push_ends.Given as goal

abbrev pub invariant-loop-client : goal.invariant-loop-client
invariant-loop-client l = l.out ≡ l.initial.out ++ flat_map (λ e. codes "client " ++ decimal e.0 ++ end_text l.iface.facts e.1 ++ line_end) (take l.client-index l.ends)
