-- The values so far come before those of the parameters that are left.
use Rattle.std.proofs.Common.{◌≡◌, ◌++◌, List}
use Rattle.std.specs.Slice.Iter.{iter_rest}
use Rattle.sg_facts.specs.declared.entry.Entry.{Entry}
use Rattle.sg_facts.specs.Kinds.{AreWords}
use Rattle.sg_plain.specs.Script.{values_of}
use Rattle.sg_plain.specs.Playing.Given.{GaveIds}
use Rattle.sg_play.proofs.calls.values_of.Given as goal

abbrev pub invariant-loop-kind : goal.invariant-loop-kind
invariant-loop-kind l = ((own : List Entry) → GaveIds own l.given → values_of own l.kinds l.args ≡ l.values ++ values_of own (iter_rest l.kind-iterator.a) (iter_rest l.kind-iterator.b))
    × AreWords l.values
