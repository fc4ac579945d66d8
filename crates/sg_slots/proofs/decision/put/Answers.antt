-- An id that is there is found, and set in its place.
use Rattle.std.proofs.Common.{IsSome, ◌∙◌, sym, subst}
use Rattle.sg_slots.proofs.Maps.{insert-there, lookup-ids}
use Rattle.sg_slots.proofs.decision.put.Goals as goal

pub unreachable-requires : goal.unreachable-requires
unreachable-requires g c =
    let none = sym (lookup-ids c.args.id c.args.entries.now.entries) ∙ c.in-Err.ensures.absent in
    let some = subst IsSome none c.requires.there in
    cc some

pub returns : goal.returns
returns g c = c.in-Ok.ensures.entries ∙ insert-there 0 c.args.given c.args.id c.args.entries.now.entries c.args.entry c.requires.ids c.requires.there
