use Rattle.std.proofs.Common.{◌≡◌, ◌++◌, take}
use Rattle.sg_print.specs.Inside.Pieces.{kinds_text}
use Rattle.sg_print.proofs.funs.put_kinds.Given as goal

-- the parameters so far
abbrev pub invariant-loop-kind : goal.invariant-loop-kind
invariant-loop-kind l = l.out ≡ l.initial.out ++ kinds_text (take l.kind-index l.kinds)
