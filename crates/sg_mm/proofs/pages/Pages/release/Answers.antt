-- What was told to end goes, from the indexes too.
use Rattle.std.proofs.Common.{◌≡◌, true, not, refl, sym, ◌∙◌, ap, subst, arith}
use Rattle.sg_facts.specs.sg_base.Stops.{asked_after}
use Rattle.sg_facts.specs.Track.{is_live}
use Rattle.sg_slots.specs.Slots.{Held}
use Rattle.sg_mm.specs.declared.page.Page.{Page}
use Rattle.sg_mm.specs.Inside.Children.{has_id}
use Rattle.sg_mm.specs.Inside.MmDoes.{held_without}
use Rattle.sg_mm.specs.Inside.MmIndex.{AreIndexed}
use Rattle.sg_mm.proofs.Doing.{asked_twice}
use Rattle.sg_mm.proofs.Ending.{subtree_ends}
use Rattle.sg_mm.proofs.Indexed.{above_parents, ascending, indexed_left, placed, rows, told_left}
use Rattle.sg_mm.proofs.pages.Pages.release.Goals as goal

pub ending-requires : goal.ending-requires
ending-requires g c =
    let inside : Held Page = record { entries = c.self.inside.pages.entries; given = c.self.inside.given } in
    above_parents inside c.self.inside.places c.self.inside.children c.self.invariant (omega arith)

pub free_all-requires : goal.free_all-requires
free_all-requires g c =
    let inside : Held Page = record { entries = c.self.inside.pages.entries; given = c.self.inside.given } in
    placed inside c.self.inside.places c.self.inside.children c.self.invariant

pub end_all-requires : goal.end_all-requires
end_all-requires g c =
    let inside : Held Page = record { entries = c.self.inside.pages.entries; given = c.self.inside.given } in
    ascending inside c.self.inside.places c.self.inside.children c.self.invariant

pub invariant_of-self-in-Ok : goal.invariant_of-self-in-Ok
invariant_of-self-in-Ok g c =
    let inside : Held Page = record { entries = c.self.inside.pages.entries; given = c.self.inside.given } in
    subst (λ es. AreIndexed (record { entries = es; given = c.self.inside.given }) c.free_all.new.places c.take_off_all.new.children) (sym c.end_all.ensures)
    (indexed_left inside c.self.inside.places c.free_all.new.places c.self.inside.children c.take_off_all.new.children (λ n. not (has_id c.in-Ok.ends n)) c.self.invariant c.free_all.ensures c.take_off_all.ensures)

pub returns-else-strikes-2-clause-outcome : goal.returns-else-strikes-2-clause-outcome
returns-else-strikes-2-clause-outcome g c =
    let inside : Held Page = record { entries = c.self.inside.pages.entries; given = c.self.inside.given } in
    let live = subst (λ held. is_live (rows held.entries) c.args.id ≡ true) (sym c.self.view_is) c.requires in
    let told = subtree_ends inside c.self.inside.places c.self.inside.children c.args.id c.in-Ok.ends c.self.invariant live c.in-Ok.ensures in
    rw c.answer.ensures (record {
      answered = refl;
      changed = ap (λ es. record { entries = es; given = c.self.inside.given }) (c.end_all.ensures ∙ told_left inside c.args.id c.in-Ok.ends told) ∙ ap (λ held. held_without held c.args.id) c.self.view_is;
      asked = c.if-strikes-2.ensures.asked ∙ ap (λ a. asked_after a 1) c.if-strikes.ensures.asked ∙ asked_twice (g.T.Stops.asked c.args.stops.now);
      struck = c.if-strikes-2.ensures.struck ∙ c.if-strikes.ensures.struck;
    })
