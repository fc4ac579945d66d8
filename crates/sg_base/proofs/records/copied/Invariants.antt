-- The elements copied so far are the first ones.
use Rattle.std.proofs.Common.{◌≡◌, take}
use Rattle.sg_base.proofs.records.copied.Given as goal

abbrev pub invariant-loop-item : goal.invariant-loop-item
invariant-loop-item g l = l.items.items ≡ take l.item-index l.from
