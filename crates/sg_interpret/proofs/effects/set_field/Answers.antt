-- The field of the place is set.
use Rattle.std.proofs.Common.{◌∙◌, ap, map}
use Rattle.std.specs.Prelude.{slice_set}
use Rattle.std.proofs.lemmas.List.{map-set}
use Rattle.sg_described.specs.sg_facts.sg_base.declared.value.Value.TheVariants.{Word}
use Rattle.sg_interpret.proofs.effects.set_field.Goals as goal

pub returns-then-at-fields-clause-set : goal.returns-then-at-fields-clause-set
returns-then-at-fields-clause-set c =
    map-set Word c.args.fields.now c.from-at.result c.args.word ∙ ap (λ at. slice_set (map Word c.args.fields.now) at (Word c.args.word)) c.from-at.ensures
