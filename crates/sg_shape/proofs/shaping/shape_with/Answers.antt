-- Within the limits.
use Rattle.std.proofs.Common.{◌≤◌, length, take, sym, ◌∙◌, ap, subst, arith}
use Rattle.std.specs.Prelude.{All}
use Rattle.std.proofs.lemmas.List.{take_all}
use Rattle.sg_check_statements.specs.sg_facts.Limits.{most_fields}
use Rattle.sg_shape.specs.Fields.{first_uses, uses_of}
use Rattle.sg_shape.specs.Limits.{most_params}
use Rattle.sg_shape.specs.Prototypes.{Prototype}
use Rattle.sg_shape.proofs.Flawless.{all_few, few_fields, few_protos}
use Rattle.sg_shape.proofs.shaping.shape_with.Goals as goal

pub made-requires-clause-few_protos : goal.made-requires-clause-few_protos
made-requires-clause-few_protos c = omega (arith, ap length c.requires.protos, few_protos c.args.tree.now c.in_ok-within_limits.ensures)

pub made-requires-clause-few_params : goal.made-requires-clause-few_params
made-requires-clause-few_params c = subst (All (λ (p : Prototype). length p.params ≤ most_params)) (sym c.requires.protos) (all_few c.args.tree.now c.in_ok-within_limits.ensures)

pub made-requires-clause-fields : goal.made-requires-clause-fields
made-requires-clause-fields c =
    c.as_slice.ensures ∙ c.in_ok-fields.ensures.first ∙ ap (λ l. take most_fields (first_uses l)) c.requires.uses
    ∙ take_all most_fields (first_uses (uses_of c.args.tree.now.statements)) (few_fields c.args.tree.now c.in_ok-within_limits.ensures)

pub flawless-requires-clause-few_params : goal.flawless-requires-clause-few_params
flawless-requires-clause-few_params c = subst (All (λ (p : Prototype). length p.params ≤ most_params)) (sym c.requires.protos) (all_few c.args.tree.now c.in_ok-within_limits.ensures)
