-- The others stay in their order.
use Rattle.std.proofs.Common.{◌∙◌, sym, subst}
use Rattle.sg_slots.specs.Slots.{AreIds}
use Rattle.sg_slots.proofs.Ids.{ids_without}
use Rattle.sg_slots.proofs.Maps.{remove-ids}
use Rattle.sg_slots.proofs.decision.remove.Goals as goal

pub invariant_of-slots : goal.invariant_of-slots
invariant_of-slots g c =
    let s = c.slots.inside in
    let gone = c.remove.ensures.entries ∙ remove-ids c.args.id s.entries.entries in
    subst (AreIds 0 s.given) (sym gone) (ids_without 0 s.given c.args.id s.entries.entries c.slots.invariant)
