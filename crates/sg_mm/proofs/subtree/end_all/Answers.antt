-- One page more goes.
use Rattle.std.proofs.Common.{not, filter, sym, ◌∙◌, ap, subst}
use Rattle.sg_slots.specs.Slots.{AreIds}
use Rattle.sg_slots.proofs.Ids.{ids_without}
use Rattle.sg_slots.proofs.Maps.{remove-ids}
use Rattle.sg_mm.proofs.Ending.{is_left, pages_left, pages_stay}
use Rattle.sg_mm.proofs.subtree.end_all.Goals as goal

pub ids-preserved : goal.ids-preserved
ids-preserved c =
    let es = c.ids.pages.entries in
    let id = c.in-Some.id.now in
    let most = c.ids.invariant.ascending.most in
    let gone = c.remove.ensures.entries ∙ remove-ids id es in
    record {
      ascending = record { most = most; ids = subst (AreIds 0 most) (sym gone) (ids_without 0 most id es c.ids.invariant.ascending.ids) };
      rest = ap (filter (λ e. not (is_left c.next.new.self e.0))) gone ∙ pages_left 0 most id c.next.new.self es c.ids.invariant.ascending.ids
          ∙ ap (λ ids. filter (λ e. not (is_left ids e.0)) es) (sym c.in-Some.ensures.steps) ∙ c.ids.invariant.rest;
    }

pub returns : goal.returns
returns c = sym (pages_stay c.ids.pages.entries) ∙ ap (λ ids. filter (λ e. not (is_left ids e.0)) c.ids.pages.entries) (sym c.in-None.ensures.steps.0) ∙ c.ids.invariant.rest
