-- Prototype by prototype.
use Rattle.std.proofs.Common.{length, Some, sym, ◌∙◌, ap}
use Rattle.std.specs.Prelude.{nat_lt}
use Rattle.std.specs.Option.{option_map}
use Rattle.sg_shape.specs.Limits.{most_params}
use Rattle.sg_shape.specs.Prototypes.{Prototype}
use Rattle.sg_shape.proofs.Loops.{found_here, none_more}
use Rattle.sg_shape.proofs.shaping.first_long.Goals as goal

pub protos-preserved : goal.protos-preserved
protos-preserved c =
    none_more (λ (p : Prototype). nat_lt most_params (length p.params)) c.args.protos.now c.protos.proto-index c.proto-item.result
    c.protos-test.true c.proto-item.is c.protos.invariant (sym c.is_long.ensures ∙ c.if-is_long.false)

pub returns-then-is_long : goal.returns-then-is_long
returns-then-is_long c =
    ap Some c.at.ensures
    ∙ ap (option_map (λ (p : Prototype). p.name.at))
    (sym (found_here (λ (p : Prototype). nat_lt most_params (length p.params)) c.args.protos.now c.protos.proto-index c.proto-item.result
    c.protos-test.true c.proto-item.is c.protos.invariant (sym c.is_long.ensures ∙ c.if-is_long.true)))
