use Rattle.std.proofs.Common.{◌≡◌, ◌++◌, take, codes}
use Rattle.std.specs.List.{flat_map}
use Rattle.sg_print.proofs.types.put_fields.Given as goal

-- the fields so far stand after the first one
abbrev pub invariant-loop-field : goal.invariant-loop-field
invariant-loop-field l = l.out ≡ l.initial.out ++ flat_map (λ m. codes ", " ++ m.bytes) (take l.field-index l.more)
