-- The first values are made, and there is room for the rest.
use Rattle.std.proofs.Common.{◌≡◌, ◌+◌, ◌≤◌, length, take, vec_capacity}
use Rattle.sg_facts.proofs.row.FieldsRoom.fill.Given as goal

abbrev pub invariant-loop-value : goal.invariant-loop-value
invariant-loop-value l = record {
  made : l.values.items ≡ take l.value-index l.value-items;
  room : 8 ≤ vec_capacity l.values;
  texts : 8 ≤ length l.texts.items + l.value-index;
}
