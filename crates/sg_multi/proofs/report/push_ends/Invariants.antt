-- The first ends are printed.
use Rattle.std.proofs.Common.{◌≡◌, ◌++◌, map, take}
use Rattle.std.specs.List.{flat_map}
use Rattle.sg_multi.specs.Report.{client_line}
use Rattle.sg_multi.proofs.report.push_ends.Given as goal

abbrev pub invariant-loop-client : goal.invariant-loop-client
invariant-loop-client l = l.out ≡ l.initial.out ++ flat_map (client_line (map (λ t. t.tables.iface.facts) l.services)) (take l.client-index l.ends)
