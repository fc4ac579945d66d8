-- None is foreign.
use Rattle.std.proofs.Common.{not, sym, ◌∙◌, ap}
use Rattle.sg_facts.specs.Facts.{facts_of, fun_of_shape}
use Rattle.sg_check_statements.specs.Effects.{declared_effects, has_effect}
use Rattle.sg_check_statements.specs.Inside.Pieces.{service_effects}
use Rattle.sg_check_statements.proofs.Judged.{all_by_any}
use Rattle.sg_check_statements.proofs.effects.are_known.Goals as goal

pub returns : goal.returns
returns c = ap not c.any_declared.ensures
    ∙ sym (all_by_any (has_effect (service_effects (facts_of c.args.shape.now) (fun_of_shape c.args.fun.now)))
    (declared_effects c.args.proto.now.statements.now c.args.proto.now.name.now c.args.proto.now.ret.now c.args.proto.now.params.now))
