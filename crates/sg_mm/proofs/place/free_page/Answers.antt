-- The page is in its place alone.
use Rattle.std.proofs.Common.{sym, ◌∙◌}
use Rattle.sg_slots.proofs.Maps.{lookup-ids}
use Rattle.sg_mm.proofs.Indexed.{freed, none_freed}
use Rattle.sg_mm.proofs.place.free_page.Goals as goal

pub returns-in-Some : goal.returns-in-Some
returns-in-Some c = λ place.
    (c.free.ensures place
    ∙ freed c.args.pages.now.entries c.args.places.now c.args.id c.in-Some.page.now c.place.result c.requires (sym (lookup-ids c.args.id c.args.pages.now.entries) ∙ sym c.in-Some.ensures.value) c.place.ensures.space c.place.ensures.addr place)

pub returns-in_default : goal.returns-in_default
returns-in_default c = none_freed c.args.pages.now.entries c.args.places.now c.args.id c.requires (sym (lookup-ids c.args.id c.args.pages.now.entries) ∙ sym c.in_default.ensures.value)
