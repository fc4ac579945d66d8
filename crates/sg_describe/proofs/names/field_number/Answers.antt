-- The fields of the shape are those of its facts.
use Rattle.std.proofs.Common.{sym, ◌∙◌}
use Rattle.std.specs.Str.{bytes_eq}
use Rattle.sg_shape.specs.sg_facts.Facts.{Field}
use Rattle.sg_describe.proofs.Mapped.{position_mapped}
use Rattle.sg_describe.proofs.names.field_number.Goals as goal

pub returns : goal.returns
returns c = c.place_of.ensures ∙ sym (position_mapped (λ (f : Field). bytes_eq f.name c.args.name.now) (λ f. record { name = f.name.now; text = f.text }) c.args.shape.now.fields.now)
