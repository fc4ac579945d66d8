-- One of three lines stands in front, or none does.
use Rattle.std.proofs.Common.{inl, inr, refl}
use Rattle.std.specs.Prelude.{codes}
use Rattle.sg_input.proofs.Dividers.{last_line}
use Rattle.sg_input.proofs.divider.after_divider.Goals as goal

pub returns-in-Some : goal.returns-in-Some
returns-in-Some c = (codes "%%\n", inl refl, c.in-Some.ensures)

pub returns-in-Some-after : goal.returns-in-Some-after
returns-in-Some-after c = (codes "%%\r\n", inr (inl refl), c.in-Some-after.ensures)

pub returns : goal.returns
returns c = last_line c.args.rest.now c.after_all.result c.in_default.ensures c.in_default-after.ensures c.after_all.ensures
