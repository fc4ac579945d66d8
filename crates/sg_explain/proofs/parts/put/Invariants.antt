use Rattle.std.proofs.Common.{◌≡◌, ◌++◌, take}
use Rattle.std.specs.List.{flat_map}
use Rattle.sg_explain.proofs.parts.put.Given as goal

-- the parts so far stand after what was there
abbrev pub invariant-loop-part : goal.invariant-loop-part
invariant-loop-part l = l.out ≡ l.initial.out ++ flat_map (λ part. part.now) (take l.part-index l.parts)
