use Rattle.std.proofs.Common.{◌≡◌, ◌++◌, take, codes}
use Rattle.std.specs.List.{flat_map}
use Rattle.sg_print.proofs.tables.put_joined.Given as goal

-- the names so far stand after the first one
abbrev pub invariant-loop-name : goal.invariant-loop-name
invariant-loop-name l = l.out ≡ l.initial.out ++ flat_map (λ n. codes "," ++ n.now) (take l.name-index l.more)
