-- The page is below its parent alone.
use Rattle.std.proofs.Common.{sym, ◌∙◌}
use Rattle.sg_slots.proofs.Maps.{lookup-ids}
use Rattle.sg_mm.proofs.Children.{none_taken_off, taken_off}
use Rattle.sg_mm.proofs.child.take_off_page.Goals as goal

pub returns-in-Some : goal.returns-in-Some
returns-in-Some c = λ parent n.
    (c.remove.ensures.updates.0 (record { parent = parent; id = n })
    ∙ taken_off c.args.pages.now.entries c.args.children.now c.args.id c.in-Some.page.now c.requires (sym (lookup-ids c.args.id c.args.pages.now.entries) ∙ sym c.in-Some.ensures.value) parent n)

pub returns-in_default : goal.returns-in_default
returns-in_default c = none_taken_off c.args.pages.now.entries c.args.children.now c.args.id c.requires (sym (lookup-ids c.args.id c.args.pages.now.entries) ∙ sym c.in_default.ensures.value)
