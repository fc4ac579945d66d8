-- Prototype by prototype.
use Rattle.std.proofs.Common.{Some, sym, ◌∙◌, ap}
use Rattle.std.specs.Option.{option_map}
use Rattle.sg_check_statements.specs.sg_facts.Facts.{facts_of}
use Rattle.sg_shape.specs.Flaws.{is_flawed}
use Rattle.sg_shape.specs.Prototypes.{Prototype}
use Rattle.sg_shape.proofs.Loops.{found_here, none_more}
use Rattle.sg_shape.proofs.flaws.flawed_place.Goals as goal

pub protos-preserved : goal.protos-preserved
protos-preserved c =
    none_more (is_flawed c.args.kind (facts_of c.args.shape.now) c.args.statements.now) c.args.protos.now c.protos.proto-index c.proto-item.result
    c.protos-test.true c.proto-item.is c.protos.invariant (sym c.in_ok-flawed.ensures ∙ c.if-flawed.false)

pub returns-then-flawed : goal.returns-then-flawed
returns-then-flawed c =
    ap Some c.at.ensures
    ∙ ap (option_map (λ (p : Prototype). p.name.at))
    (sym (found_here (is_flawed c.args.kind (facts_of c.args.shape.now) c.args.statements.now) c.args.protos.now c.protos.proto-index c.proto-item.result
    c.protos-test.true c.proto-item.is c.protos.invariant (sym c.in_ok-flawed.ensures ∙ c.if-flawed.true)))
