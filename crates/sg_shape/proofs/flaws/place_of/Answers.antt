-- The fields are those of the shape.
use Rattle.std.proofs.Common.{sym, ◌∙◌, ap}
use Rattle.std.specs.Prelude.{find}
use Rattle.std.specs.Option.{option_map}
use Rattle.sg_check_statements.specs.sg_facts.Facts.{Facts}
use Rattle.sg_shape.specs.Faults.{place_of}
use Rattle.sg_shape.specs.Fields.{Use, fields_of_text}
use Rattle.sg_shape.specs.Flaws.{is_mixed}
use Rattle.sg_shape.specs.ShapeOfText.{shape_of_text}
use Rattle.sg_shape.proofs.flaws.place_of.Goals as goal

pub returns-in-MixedField : goal.returns-in-MixedField
unfolding place_of shape_of_text
returns-in-MixedField c =
    c.mixed_place.ensures
    ∙ ap (λ l. option_map (λ (u : Use). u.name.at) (find (is_mixed l) c.args.uses.now)) (ap (λ (f : Facts). f.fields) c.requires.shape)
    ∙ ap (λ l. option_map (λ (u : Use). u.name.at) (find (is_mixed (fields_of_text c.args.tree.now.statements)) l)) c.requires.uses
    ∙ ap (place_of c.args.tree.now) (sym c.in-MixedField.is)
