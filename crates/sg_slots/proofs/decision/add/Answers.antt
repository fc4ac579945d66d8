-- The new id is above all that are there, so its entry goes last.
use Rattle.std.proofs.Common.{◌≡◌, ℕ, ◌+◌, IsSome, refl, sym, ◌∙◌, ap, subst, arith, rules}
use Rattle.std.specs.BTreeMap.Entry.{map_with_value, entry_map_ref}
use Rattle.std.specs.declared.collections.btree_map.Entry.TheVariants.{Vacant}
use Rattle.sg_facts.specs.sg_base.Stops.{asked_after}
use Rattle.sg_slots.specs.Slots.{AreIds}
use Rattle.sg_slots.proofs.Ids.{wider, ids_more}
use Rattle.sg_slots.proofs.Maps.{insert-new, absent-above}
use Rattle.sg_slots.proofs.decision.add.Goals as goal

-- two points, one after the other
asked_twice : (a : ℕ) → asked_after (asked_after a 1) 1 ≡ asked_after a 2
asked_twice a = omega arith

pub unreachable-requires : goal.unreachable-requires
unreachable-requires g c =
    let none = absent-above 0 c.args.given.now (c.args.given.now + 1) c.args.entries.now.entries c.requires.ids (omega arith) in
    let there = rw c.in-Ok-Occupied.field-0-is at c.in-Ok-Occupied.ensures.found in
    let some = subst IsSome none there.0 in
    cc some

pub returns-else-strikes-2-clause-ids : goal.returns-else-strikes-2-clause-ids
returns-else-strikes-2-clause-ids g c =
    let whole : c.entries-in-Ok-Vacant-2-1.given.0 ≡ map_with_value (Vacant c.in-Ok-Vacant.place) c.args.entry = search rules in
    let put = ap (λ m. m.entries) whole ∙ ap (λ e. (map_with_value e c.args.entry).entries) (sym c.in-Ok-Vacant.field-0-is) ∙ c.in-Ok-Vacant.ensures.update.1 c.args.entry
    ∙ insert-new 0 c.args.given.now (c.args.given.now + 1) c.args.entries.now.entries c.args.entry c.requires.ids (omega arith) in
    subst (AreIds 0 (c.args.given.now + 1)) (sym put) (ids_more 0 c.args.given.now (c.args.given.now + 1) c.args.entries.now.entries c.args.entry c.requires.ids (omega arith) (omega arith))

pub returns-else-strikes-2-clause-outcome : goal.returns-else-strikes-2-clause-outcome
returns-else-strikes-2-clause-outcome g c =
    let whole : c.entries-in-Ok-Vacant-2-1.given.0 ≡ map_with_value (Vacant c.in-Ok-Vacant.place) c.args.entry = search rules in
    let put = ap (λ m. m.entries) whole ∙ ap (λ e. (map_with_value e c.args.entry).entries) (sym c.in-Ok-Vacant.field-0-is) ∙ c.in-Ok-Vacant.ensures.update.1 c.args.entry
    ∙ insert-new 0 c.args.given.now (c.args.given.now + 1) c.args.entries.now.entries c.args.entry c.requires.ids (omega arith) in
    rw c.replied.ensures (
      refl,
      put,
      refl,
      c.if-strikes-2.ensures.asked ∙ ap (λ a. asked_after a 1) c.if-strikes.ensures.asked ∙ asked_twice (g.T.Stops.asked c.args.stops.now),
      c.if-strikes-2.ensures.struck ∙ c.if-strikes.ensures.struck,
    )

pub returns-then-strikes-2-clause-ids : goal.returns-then-strikes-2-clause-ids
returns-then-strikes-2-clause-ids g c =
    let kept : c.entries-then-strikes-2-1.given.0 ≡ c.in-Ok-Vacant.place.map.now = search rules in
    let same = ap (λ m. m.entries) kept ∙ ap (λ e. (entry_map_ref e).now.entries) (sym c.in-Ok-Vacant.field-0-is) ∙ c.in-Ok-Vacant.ensures.unchanged in
    subst (AreIds 0 (c.args.given.now + 1)) (sym same) (wider 0 0 c.args.given.now (c.args.given.now + 1) c.args.entries.now.entries (omega arith) (omega arith) c.requires.ids)
