-- The first entries were read, and the numbers of their calls are kept.
use Rattle.std.proofs.Common.{map, take}
use Rattle.sg_multi.specs.Inside.Numbers.{AreKept, HasRead}
use Rattle.sg_multi.specs.Merged.{Merges, MultiEntry}
use Rattle.std.proofs.Common.{List}
use Rattle.sg_multi.proofs.numbers.Numbers.of.Given as goal

abbrev pub invariant-entries : goal.invariant-entries
invariant-entries l = record {
  read : (merged : List MultiEntry) → Merges l.order (map (λ m. m.history.items) l.members) merged → HasRead l.reader (take l.member-index merged);
  kept : (merged : List MultiEntry) → Merges l.order (map (λ m. m.history.items) l.members) merged → AreKept l.calls (take l.member-index merged);
}
