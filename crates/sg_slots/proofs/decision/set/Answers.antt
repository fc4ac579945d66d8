-- The entry is set in its place.
use Rattle.std.proofs.Common.{IsSome, sym, subst}
use Rattle.sg_slots.specs.Slots.{AreIds, entry_at}
use Rattle.sg_slots.proofs.Ids.{ids_set}
use Rattle.sg_slots.proofs.decision.set.Goals as goal

pub invariant_of-slots : goal.invariant_of-slots
invariant_of-slots g c =
    let s = c.slots.inside in
    subst (AreIds 0 s.given) (sym c.put.ensures) (ids_set 0 s.given c.args.id s.entries.entries c.args.entry c.slots.invariant (subst (λ held. IsSome (entry_at held.entries c.args.id)) (sym c.slots.view_is) c.requires))
