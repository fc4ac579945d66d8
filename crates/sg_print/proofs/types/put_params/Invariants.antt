use Rattle.std.proofs.Common.{◌≡◌, ◌++◌, take, codes}
use Rattle.std.specs.List.{flat_map}
use Rattle.sg_print.specs.Printed.{param_text}
use Rattle.sg_print.proofs.types.put_params.Given as goal

-- the parameters so far stand after the first one
abbrev pub invariant-loop-param : goal.invariant-loop-param
invariant-loop-param l = l.out ≡ l.initial.out ++ flat_map (λ q. codes ", " ++ param_text q) (take l.param-index l.more)
