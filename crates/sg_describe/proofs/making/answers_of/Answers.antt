-- Function by function.
use Rattle.std.proofs.Common.{◌≡◌, List, map, sym, ap, subst, ◌∙◌}
use Rattle.std.proofs.lemmas.List.{take_all}
use Rattle.sg_shape.specs.sg_facts.Facts.{facts_of, fun_of_shape}
use Rattle.sg_shape.specs.sg_facts.declared.shape.FunShape.{FunShape}
use Rattle.sg_described.specs.Described.{rules_of}
use Rattle.sg_describe.specs.DescribedText.{answer_of}
use Rattle.sg_describe.specs.Inside.Parts.{HasFewParams}
use Rattle.sg_describe.proofs.Mapped.{all_mapped, map_mapped}
use Rattle.sg_describe.proofs.making.answers_of.Goals as goal

pub answer_of-requires-clause-params : goal.answer_of-requires-clause-params
answer_of-requires-clause-params c = all_mapped HasFewParams fun_of_shape c.args.shape.now.funs.now c.funs.fun-index _ c.requires.params c.funs-test.true

pub returns : goal.returns
returns c =
    let answer = answer_of (facts_of c.args.shape.now) c.args.statements.now in
    let funs = c.args.shape.now.funs.now in
    let whole = subst (λ (l : List FunShape). map rules_of c.funs.answers.items ≡ map (λ f. answer (fun_of_shape f)) l) (take_all c.funs.fun-index funs c.funs-test.false) c.funs.invariant in
    ap (map rules_of) c.kept.ensures ∙ whole ∙ sym (map_mapped answer fun_of_shape funs)
