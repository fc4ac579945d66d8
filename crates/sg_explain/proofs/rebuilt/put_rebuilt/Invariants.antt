use Rattle.std.proofs.Common.{◌≡◌, ◌++◌, take}
use Rattle.std.specs.List.{flat_map}
use Rattle.sg_input.specs.sg_facts.Facts.{facts_of}
use Rattle.sg_explain.specs.Rebuilt.{rebuilt_line}
use Rattle.sg_explain.proofs.rebuilt.put_rebuilt.Given as goal

-- the lines so far
abbrev pub invariant-loop-line : goal.invariant-loop-line
invariant-loop-line l = l.out ≡ l.initial.out ++ flat_map (rebuilt_line (facts_of l.shape)) (take l.line-index l.lines)
