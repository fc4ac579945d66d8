use Rattle.std.proofs.Common.{◌≡◌, ◌++◌, ◌∷◌, take}
use Rattle.std.specs.List.{flat_map}
use Rattle.sg_print.proofs.types.put_names.Given as goal

-- the names so far stand after the first one
abbrev pub invariant-loop-name : goal.invariant-loop-name
invariant-loop-name l = l.out ≡ l.initial.out ++ flat_map (λ m. 0x20 ∷ m.bytes) (take l.name-index l.more)
