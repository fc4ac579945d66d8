-- The new id is above all that are there, so its page goes last.
use Rattle.std.proofs.Common.{◌≡◌, ℕ, ◌+◌, List, IsSome, refl, sym, ◌∙◌, ap, subst, arith, rules}
use Rattle.std.specs.declared.option.Option.{Option}
use Rattle.std.specs.BTreeMap.Entry.{map_with_value}
use Rattle.std.specs.declared.collections.btree_map.Entry.TheVariants.{Vacant}
use Rattle.sg_facts.specs.sg_base.Stops.{asked_after}
use Rattle.sg_facts.specs.Invoke.{Points}
use Rattle.sg_slots.specs.Slots.{Held}
use Rattle.sg_slots.proofs.Maps.{absent-above, insert-new}
use Rattle.sg_mm.specs.declared.page.Page.{Page}
use Rattle.sg_mm.specs.Inside.MmDoes.{IsDone, held_with, hung, new_parts, ok_about}
use Rattle.sg_mm.proofs.Doing.{asked_thrice, asked_twice}
use Rattle.sg_mm.proofs.pages.add.Goals as goal

pub unreachable-requires : goal.unreachable-requires
unreachable-requires g c =
    let none = absent-above 0 c.args.given.now (c.args.given.now + 1) c.args.pages.now.entries c.requires.ids (omega arith) in
    let there = rw c.in-Ok-Occupied.field-0-is at c.in-Ok-Occupied.ensures.found in
    let some = subst IsSome none there.0 in
    cc some

-- all parts of a new page were asked, by where it hangs
abbrev Comes : Held Page → Page → Points → Option ℕ → List (ℕ × Page) → Points → Type 0
Comes held page points below es later =
    IsDone (new_parts below) (ok_about (held.given + 1)) (held_with held (hung page below)) points (ok_about (held.given + 1)) (record { entries = es; given = held.given + 1 }) later

pub returns-in-Some-clause-outcome : goal.returns-in-Some-clause-outcome
returns-in-Some-clause-outcome g c =
    let old = c.args.pages.now.entries in
    let given = c.args.given.now in
    let held : Held Page = record { entries = old; given = given } in
    let page : Page = record c.args.page { parent = c.in-Some.parent } in
    let whole : c.pages-in-Some-2-1.given.0 ≡ map_with_value (Vacant c.in-Ok-Vacant.room) page = search rules in
    let put = ap (λ m. m.entries) whole ∙ ap (λ e. (map_with_value e page).entries) (sym c.in-Ok-Vacant.field-0-is) ∙ c.in-Ok-Vacant.ensures.update.1 page
    ∙ insert-new 0 given (given + 1) old page c.requires.ids (omega arith) in
    let points : Points = record { asked = g.T.Stops.asked c.args.stops.now; struck = g.T.Stops.struck c.args.stops.now } in
    let later : Points = record { asked = g.T.Stops.asked c.strikes-in-Some.new.self; struck = g.T.Stops.struck c.strikes-in-Some.new.self } in
    rw c.answer.ensures
    (subst (λ below. Comes held c.args.page points below c.pages-in-Some-2-1.given.0.entries later) (sym c.in-Some.is) (record {
      answered = refl;
      changed = ap (λ es. record { entries = es; given = given + 1 }) put;
      asked = c.if-strikes-3.ensures.asked ∙ ap (λ a. asked_after a 1) (c.if-strikes-2.ensures.asked ∙ ap (λ a. asked_after a 1) c.if-strikes.ensures.asked) ∙ asked_thrice points.asked;
      struck = c.if-strikes-3.ensures.struck ∙ c.if-strikes-2.ensures.struck ∙ c.if-strikes.ensures.struck;
    }))

pub returns-in_default-clause-outcome : goal.returns-in_default-clause-outcome
returns-in_default-clause-outcome g c =
    let old = c.args.pages.now.entries in
    let given = c.args.given.now in
    let held : Held Page = record { entries = old; given = given } in
    let page = c.args.page in
    let whole : c.pages-in_default-2-1.given.0 ≡ map_with_value (Vacant c.in-Ok-Vacant.room) page = search rules in
    let put = ap (λ m. m.entries) whole ∙ ap (λ e. (map_with_value e page).entries) (sym c.in-Ok-Vacant.field-0-is) ∙ c.in-Ok-Vacant.ensures.update.1 page
    ∙ insert-new 0 given (given + 1) old page c.requires.ids (omega arith) in
    let points : Points = record { asked = g.T.Stops.asked c.args.stops.now; struck = g.T.Stops.struck c.args.stops.now } in
    let later : Points = record { asked = g.T.Stops.asked c.strikes-in-Ok-Vacant.new.self; struck = g.T.Stops.struck c.strikes-in-Ok-Vacant.new.self } in
    rw c.answer-in-Ok-Vacant.ensures
    (subst (λ below. Comes held page points below c.pages-in_default-2-1.given.0.entries later) (sym c.in_default.is) (record {
      answered = refl;
      changed = ap (λ es. record { entries = es; given = given + 1 }) put;
      asked = c.if-strikes-2.ensures.asked ∙ ap (λ a. asked_after a 1) c.if-strikes.ensures.asked ∙ asked_twice points.asked;
      struck = c.if-strikes-2.ensures.struck ∙ c.if-strikes.ensures.struck;
    }))
