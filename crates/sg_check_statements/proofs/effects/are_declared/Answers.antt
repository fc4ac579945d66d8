-- Over the effects of the shape.
use Rattle.std.proofs.Common.{refl, sym, ◌∙◌}
use Rattle.sg_facts.specs.Facts.{facts_of, fun_of_shape}
use Rattle.sg_check_statements.specs.Effects.{declared_effects, has_effect}
use Rattle.sg_check_statements.proofs.Judged.{all_of_service}
use Rattle.sg_check_statements.proofs.effects.are_declared.Goals as goal

pub returns : goal.returns
returns c = c.all_declared.ensures
    ∙ sym (all_of_service (has_effect (declared_effects c.args.proto.now.statements.now c.args.proto.now.name.now c.args.proto.now.ret.now c.args.proto.now.params.now))
    (facts_of c.args.shape.now) (fun_of_shape c.args.fun.now) c.args.fun.now.effects.now refl)
