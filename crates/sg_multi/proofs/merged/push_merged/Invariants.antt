-- The first entries were read and are printed.
use Rattle.std.proofs.Common.{◌≡◌, ◌++◌, [], List, map, take}
use Rattle.sg_multi.specs.Inside.Numbers.{HasRead}
use Rattle.sg_multi.specs.Merged.{Merges, MultiEntry}
use Rattle.sg_multi.specs.Report.{merged_lines}
use Rattle.sg_multi.proofs.merged.push_merged.Given as goal

abbrev pub invariant-entries : goal.invariant-entries
invariant-entries l = record {
  read : (merged : List MultiEntry) → Merges l.order (map (λ m. m.history.items) l.members) merged → HasRead l.reader (take l.member-index merged);
  lines : (merged : List MultiEntry) → Merges l.order (map (λ m. m.history.items) l.members) merged
      → l.out ≡ l.initial.out ++ merged_lines (map (λ t. t.tables.iface.facts) l.services) [] (take l.member-index merged);
}
