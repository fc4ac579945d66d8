-- A page that is there may be ended.
use Rattle.std.proofs.Common.{◌≡◌, ◌<◌, true, not, sym, ◌∙◌, ap, subst, arith}
use Rattle.test_asking.specs.sg_facts.Kinds.{MayAsk}
use Rattle.sg_mm.specs.sg_slots.Slots.{row_with}
use Rattle.sg_mm.specs.MmFacts.{mm_facts}
use Rattle.sg_mm.specs.MmObject.{mm_object}
use Rattle.sg_mm.specs.MmRow.{page_body}
use Rattle.test_pages.proofs.MayAsk.{live_if, may_release}
use Rattle.test_pages.proofs.pages.release.Goals as goal

pub ask-requires : goal.ask-requires
ask-requires c =
    let o = mm_object c.args.service.now in
    let few : o.given < 2000 = omega (arith, c.given-given.ensures) in
    let there = c.is_none.ensures ∙ ap not c.if-is_none.false in
    let live = live_if o.rows c.args.id (λ p. row_with c.args.id (page_body p)) c.page.result there c.page.ensures.row in
    subst (MayAsk mm_facts o) (sym c.call.ensures) (may_release o few c.args.id live)
