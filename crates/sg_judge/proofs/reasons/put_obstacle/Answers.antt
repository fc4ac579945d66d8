-- The field has its name.
use Rattle.std.proofs.Common.{[], ◌++◌, ◌∙◌, ap, sym, codes}
use Rattle.sg_explain.specs.sg_facts.Facts.{facts_of}
use Rattle.sg_own.specs.sg_safe.declared.reason.Obstacle.{Obstacle}
use Rattle.sg_judge.specs.ReasonLines.{obstacle_words}
use Rattle.sg_judge.proofs.Parts.{on_ok}
use Rattle.sg_judge.proofs.reasons.put_obstacle.Goals as goal

pub returns-in-NoClient : goal.returns-in-NoClient
returns-in-NoClient c =
    let out = c.args.out.now in
    on_ok c.put.result
    (λ e. e ∙ ap (λ l. out ++ (codes "; the client would be " ++ (l ++ []))) c.field_name.ensures
    ∙ ap (λ (o : Obstacle). out ++ obstacle_words (facts_of c.args.shape.now) o) (sym c.in-NoClient.is))
    c.put.ensures

pub returns-in-PastMost : goal.returns-in-PastMost
returns-in-PastMost c =
    let out = c.args.out.now in
    on_ok c.put-in-PastMost.result
    (λ e. e ∙ ap (λ l. out ++ (codes "; the field is " ++ (l ++ []))) c.field_name-in-PastMost.ensures
    ∙ ap (λ (o : Obstacle). out ++ obstacle_words (facts_of c.args.shape.now) o) (sym c.in-PastMost.is))
    c.put-in-PastMost.ensures
