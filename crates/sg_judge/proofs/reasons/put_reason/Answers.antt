-- The function has its name.
use Rattle.std.proofs.Common.{◌++◌, ◌∙◌, ap, sym, codes}
use Rattle.sg_explain.specs.sg_facts.Facts.{Fun, facts_of}
use Rattle.sg_explain.specs.sg_facts.Words.{line_end}
use Rattle.sg_own.specs.sg_safe.declared.reason.Unsafe.{Unsafe}
use Rattle.sg_judge.specs.ReasonLines.{reason_line}
use Rattle.sg_judge.proofs.Parts.{on_ok}
use Rattle.sg_judge.proofs.reasons.put_reason.Goals as goal

pub returns-in-Overtaken : goal.returns-in-Overtaken
returns-in-Overtaken c =
    let out = c.args.out.now in
    on_ok c.put.result
    (λ e. e ∙ ap (λ (f : Fun). out ++ (codes "it may be let pass by " ++ (f.name ++ line_end))) c.fun.ensures
    ∙ ap (λ (r : Unsafe). out ++ reason_line (facts_of c.args.shape.now) r) (sym c.in-Overtaken.is))
    c.put.ensures
