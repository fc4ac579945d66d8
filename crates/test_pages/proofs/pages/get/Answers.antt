-- A client may ask for a page.
use Rattle.std.proofs.Common.{◌<◌, ◌≤◌, sym, subst, arith}
use Rattle.test_asking.specs.sg_facts.Kinds.{MayAsk}
use Rattle.sg_mm.specs.MmFacts.{mm_facts}
use Rattle.sg_mm.specs.MmObject.{mm_object}
use Rattle.test_pages.proofs.MayAsk.{may_get}
use Rattle.test_pages.proofs.pages.get.Goals as goal

pub ask-requires : goal.ask-requires
ask-requires c =
    let o = mm_object c.args.service.now in
    let few : o.given < 2000 = omega (arith, c.given-given.ensures) in
    let first : 1 ≤ c.args.client = omega arith in
    let last : c.args.client ≤ 64 = omega arith in
    subst (MayAsk mm_facts o) (sym c.in-Ok.ensures) (may_get o few c.args.client c.args.addr first last)
