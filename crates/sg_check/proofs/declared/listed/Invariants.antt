-- The pairs so far.
use Rattle.std.proofs.Common.{◌≡◌, take}
use Rattle.std.specs.Prelude.{filter}
use Rattle.sg_check_statements.specs.sg_facts.Facts.{facts_of, fun_at}
use Rattle.sg_check_statements.specs.Says.{says_of}
use Rattle.sg_check.proofs.declared.listed.Given as goal

abbrev pub invariant-pairs : goal.invariant-pairs
invariant-pairs l =
    let funs = (facts_of l.shape).funs in
    l.list ≡ filter (λ p. says_of l.statements l.word (fun_at funs p.0).name (fun_at funs p.1).name) (take l.pair-index l.pairs)
