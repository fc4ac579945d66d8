-- A page is refused where its place is taken, else made, and the index has it.
use Rattle.std.proofs.Common.{◌≡◌, ℕ, ◌+◌, true, false, None, Some, refl, sym, subst, ◌∙◌, ap}
use Rattle.std.specs.List.{list_any}
use Rattle.std.specs.Option.{is_some}
use Rattle.std.specs.declared.option.Option.{Option}
use Rattle.sg_facts.specs.declared.outcome.Outcome.{Outcome}
use Rattle.sg_facts.specs.declared.outcome.Outcome.TheVariants.{Replied, Stopped}
use Rattle.sg_facts.specs.Invoke.{Points}
use Rattle.sg_slots.specs.Slots.{Held}
use Rattle.sg_facts.proofs.Replaying.Subtrees.{IsAboveParent}
use Rattle.sg_mm.specs.declared.page.Page.{Page}
use Rattle.sg_mm.specs.Inside.Children.{HangsOne}
use Rattle.sg_mm.specs.Inside.MmDoes.{Does, MayHang, after_new, held_with, hung, new_parts, new_reply, ok_about, parts_of_new}
use Rattle.sg_mm.specs.Inside.MmIndex.{AreIndexed, Gains, id_in}
use Rattle.sg_mm.specs.MmTable.{is_at}
use Rattle.sg_mm.proofs.Doing.{changed_so, if_done, made, refused, taken_by}
use Rattle.sg_mm.proofs.Indexed.{given_back, ids_of_rows, indexed_more, rows}
use Rattle.sg_mm.proofs.pages.Pages.make.Goals as goal

pub returns-then-is_some-clause-outcome : goal.returns-then-is_some-clause-outcome
returns-then-is_some-clause-outcome g c =
    let page = c.args.page in
    let inside : Held Page = record { entries = c.self.inside.pages.entries; given = c.self.inside.given } in
    let told = taken_by inside c.self.inside.places c.self.inside.children c.place-place.result page c.self.invariant c.place-place.ensures.space c.place-place.ensures.addr in
    let is = sym told ∙ sym (ap is_some c.id_in.ensures) ∙ sym c.is_some.ensures ∙ c.if-is_some.true in
    let points : Points = record { asked = g.T.Stops.asked c.args.stops.now; struck = g.T.Stops.struck c.args.stops.now } in
    refused c.args.self.now page c.args.below points (subst (λ held. list_any (is_at page.space page.addr) (rows held.entries) ≡ true) c.self.view_is is)

pub add-requires-clause-ids : goal.add-requires-clause-ids
add-requires-clause-ids g c = ids_of_rows IsAboveParent 0 c.self.inside.given c.self.inside.pages.entries c.self.invariant.rows

pub invariant_of-self-in-Replied : goal.invariant_of-self-in-Replied
invariant_of-self-in-Replied g c =
    let page = c.args.page in
    let inside : Held Page = record { entries = c.self.inside.pages.entries; given = c.self.inside.given } in
    let new : Held Page = record { entries = c.add.new.pages.entries; given = c.add.new.given } in
    let place = c.place-place.result in
    let below = c.args.below in
    let told = taken_by inside c.self.inside.places c.self.inside.children place page c.self.invariant c.place-place.ensures.space c.place-place.ensures.addr in
    let free = sym told ∙ sym (ap is_some c.id_in.ensures) ∙ sym c.is_some.ensures ∙ c.if-is_some.false in
    let may = subst (λ held. MayHang held below) (sym c.self.view_is) c.requires.parent in
    let points : Points = record { asked = g.T.Stops.asked c.args.stops.now; struck = g.T.Stops.struck c.args.stops.now } in
    let later : Points = record { asked = g.T.Stops.asked c.add.new.stops; struck = g.T.Stops.struck c.add.new.stops } in
    let changed = changed_so (new_parts below) (ok_about (c.self.inside.given + 1)) inside (held_with inside (hung page below)) points c.in-Replied.reply c.in-Replied.patch new later c.in-Replied.ensures.outcome in
    let done = sym c.is_err.ensures.value ∙ c.if-is_err.false in
    let gains = if_done c.reserve.result (Gains c.self.inside.places c.reserve.new.places place (c.self.inside.given + 1)) done c.reserve.ensures.place in
    let hangs = if_done c.reserve.result (HangsOne c.self.inside.children c.reserve.new.children below (c.self.inside.given + 1)) done c.reserve.ensures.parent in
    subst (λ held. AreIndexed held c.reserve.new.places c.reserve.new.children) (sym changed)
    (indexed_more inside c.self.inside.places c.reserve.new.places c.self.inside.children c.reserve.new.children page below place c.self.invariant c.place-place.ensures.space c.place-place.ensures.addr c.requires.own may free gains hangs)

pub invariant_of-self-in-NoMemory : goal.invariant_of-self-in-NoMemory
invariant_of-self-in-NoMemory g c =
    let inside : Held Page = record { entries = c.self.inside.pages.entries; given = c.self.inside.given } in
    let place = c.place-place.result in
    let below = c.args.below in
    let free = none_there (id_in c.self.inside.places place) (sym (ap is_some c.id_in.ensures) ∙ sym c.is_some.ensures ∙ c.if-is_some.false) in
    let done = sym c.is_err.ensures.value ∙ c.if-is_err.false in
    let gains = if_done c.reserve.result (Gains c.self.inside.places c.reserve.new.places place (c.self.inside.given + 1)) done c.reserve.ensures.place in
    let hangs = if_done c.reserve.result (HangsOne c.self.inside.children c.reserve.new.children below (c.self.inside.given + 1)) done c.reserve.ensures.parent in
    subst (λ held. AreIndexed held c.free.new.places c.take_off.new.children) (sym c.in-NoMemory.ensures.outcome.same)
    (given_back inside c.self.inside.places c.reserve.new.places c.free.new.places c.self.inside.children c.reserve.new.children c.take_off.new.children below place c.self.invariant free gains c.free.ensures hangs c.take_off.ensures)
  where
    none_there : (o : Option ℕ) → is_some o ≡ false → o ≡ None
    none_there None is = refl
    none_there (Some n) is = absurd (cc is)

pub returns-in-Replied-clause-outcome : goal.returns-in-Replied-clause-outcome
returns-in-Replied-clause-outcome g c =
    let page = c.args.page in
    let inside : Held Page = record { entries = c.self.inside.pages.entries; given = c.self.inside.given } in
    let new : Held Page = record { entries = c.add.new.pages.entries; given = c.add.new.given } in
    let told = taken_by inside c.self.inside.places c.self.inside.children c.place-place.result page c.self.invariant c.place-place.ensures.space c.place-place.ensures.addr in
    let free = sym told ∙ sym (ap is_some c.id_in.ensures) ∙ sym c.is_some.ensures ∙ c.if-is_some.false in
    let points : Points = record { asked = g.T.Stops.asked c.args.stops.now; struck = g.T.Stops.struck c.args.stops.now } in
    let later : Points = record { asked = g.T.Stops.asked c.add.new.stops; struck = g.T.Stops.struck c.add.new.stops } in
    let outcome : Outcome = Replied c.in-Replied.reply c.in-Replied.patch in
    subst (λ held. Does (parts_of_new held page c.args.below) (new_reply held page) held (after_new held page c.args.below) points outcome new later) c.self.view_is
    (made inside page c.args.below points outcome new later free c.in-Replied.ensures.outcome)

pub returns-in-Stopped-clause-outcome : goal.returns-in-Stopped-clause-outcome
returns-in-Stopped-clause-outcome g c =
    let page = c.args.page in
    let inside : Held Page = record { entries = c.self.inside.pages.entries; given = c.self.inside.given } in
    let told = taken_by inside c.self.inside.places c.self.inside.children c.place-place.result page c.self.invariant c.place-place.ensures.space c.place-place.ensures.addr in
    let free = sym told ∙ sym (ap is_some c.id_in.ensures) ∙ sym c.is_some.ensures ∙ c.if-is_some.false in
    let points : Points = record { asked = g.T.Stops.asked c.args.stops.now; struck = g.T.Stops.struck c.args.stops.now } in
    let later : Points = record { asked = g.T.Stops.asked c.add.new.stops; struck = g.T.Stops.struck c.add.new.stops } in
    subst (λ held. Does (parts_of_new held page c.args.below) (new_reply held page) held (after_new held page c.args.below) points Stopped held later) c.self.view_is
    (made inside page c.args.below points Stopped inside later free c.in-Stopped.ensures.outcome)
