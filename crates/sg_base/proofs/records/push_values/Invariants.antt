-- The words of the first arguments are added.
use Rattle.std.proofs.Common.{◌≡◌, ◌+◌, ◌++◌, map, take, vec_capacity, vec_len}
use Rattle.sg_base.specs.Records.{word_of}
use Rattle.sg_base.proofs.records.push_values.Given as goal

abbrev pub invariant-loop-value : goal.invariant-loop-value
invariant-loop-value l = record {
  items : l.list.items ≡ l.initial.list.items ++ map word_of (take l.value-index l.values);
  len : vec_len l.list ≡ vec_len l.initial.list + l.value-index;
  capacity : vec_capacity l.list ≡ vec_capacity l.initial.list;
}
