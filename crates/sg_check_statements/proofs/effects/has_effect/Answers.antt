-- Over the effects of the shape.
use Rattle.std.proofs.Common.{refl, sym, ◌∙◌}
use Rattle.sg_facts.specs.Facts.{facts_of, fun_of_shape}
use Rattle.sg_check_statements.specs.Inside.Changes.{change_effect}
use Rattle.sg_check_statements.proofs.Judged.{service_has}
use Rattle.sg_check_statements.proofs.effects.has_effect.Goals as goal

pub returns : goal.returns
returns c = c.is_among.ensures
    ∙ sym (service_has (facts_of c.args.shape.now) (fun_of_shape c.args.fun.now) c.args.fun.now.effects.now (c.args.field.now, change_effect c.args.change) refl)
