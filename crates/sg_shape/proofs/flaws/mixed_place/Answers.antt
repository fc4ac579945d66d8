-- Use by use.
use Rattle.std.proofs.Common.{Some, sym, ◌∙◌, ap}
use Rattle.std.specs.Option.{option_map}
use Rattle.sg_shape.specs.Fields.{Use}
use Rattle.sg_shape.specs.Flaws.{is_mixed}
use Rattle.sg_shape.specs.Inside.Parts.{fields_in}
use Rattle.sg_shape.proofs.Loops.{found_here, none_more}
use Rattle.sg_shape.proofs.flaws.mixed_place.Goals as goal

pub uses-preserved : goal.uses-preserved
uses-preserved c =
    none_more (is_mixed (fields_in c.args.fields.now)) c.args.uses.now c.uses.one-index c.one-item.result
    c.uses-test.true c.one-item.is c.uses.invariant (sym c.is_mixed.ensures ∙ c.if-is_mixed.false)

pub returns-then-is_mixed : goal.returns-then-is_mixed
returns-then-is_mixed c =
    ap Some c.at.ensures
    ∙ ap (option_map (λ (u : Use). u.name.at))
    (sym (found_here (is_mixed (fields_in c.args.fields.now)) c.args.uses.now c.uses.one-index c.one-item.result
    c.uses-test.true c.one-item.is c.uses.invariant (sym c.is_mixed.ensures ∙ c.if-is_mixed.true)))
