-- The answers of the functions so far.
use Rattle.std.proofs.Common.{◌≡◌, map, take}
use Rattle.sg_shape.specs.sg_facts.Facts.{facts_of, fun_of_shape}
use Rattle.sg_described.specs.Described.{rules_of}
use Rattle.sg_describe.specs.DescribedText.{answer_of}
use Rattle.sg_describe.proofs.making.answers_of.Given as goal

abbrev pub invariant-funs : goal.invariant-funs
invariant-funs l = map rules_of l.answers.items ≡ map (λ f. answer_of (facts_of l.shape) l.statements (fun_of_shape f)) (take l.fun-index l.shape.funs.now)
