use Rattle.std.proofs.Common.{◌≡◌, ◌++◌, take}
use Rattle.sg_input.specs.sg_facts.Facts.{facts_of}
use Rattle.sg_input.specs.sg_print.TablesText.{walk_names}
use Rattle.sg_explain.proofs.rebuilt.put_names.Given as goal

-- the functions so far
abbrev pub invariant-loop-fun : goal.invariant-loop-fun
invariant-loop-fun l = l.out ≡ l.initial.out ++ walk_names (facts_of l.shape).funs (take l.fun-index l.walk)
