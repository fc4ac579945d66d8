-- The service ids so far go back.
use Rattle.std.proofs.Common.{◌≡◌, ◌+◌, ◌≤◌, length, map}
use Rattle.std.specs.Map.Iter.{deref_pair}
use Rattle.indexmap.specs.IndexMap.{index_map_len, spare}
use Rattle.sg_name.specs.Inside.Both.{GoesBack}
use Rattle.sg_name.proofs.both.refill.Given as goal

abbrev pub invariant-all : goal.invariant-all
invariant-all l = record {
  back : GoesBack (map deref_pair l.yielded) l.ids.entries;
  len : index_map_len l.ids ≡ length l.yielded;
  spare : spare l.initial.ids ≤ spare l.ids + length l.yielded;
}
