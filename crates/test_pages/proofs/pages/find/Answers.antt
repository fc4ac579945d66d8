-- Any place may be asked for.
use Rattle.std.proofs.Common.{◌<◌, sym, subst, arith}
use Rattle.test_asking.specs.sg_facts.Kinds.{MayAsk}
use Rattle.sg_mm.specs.MmFacts.{mm_facts}
use Rattle.sg_mm.specs.MmObject.{mm_object}
use Rattle.test_pages.proofs.MayAsk.{may_find}
use Rattle.test_pages.proofs.pages.find.Goals as goal

pub ask-requires : goal.ask-requires
ask-requires c =
    let o = mm_object c.args.service.now in
    let few : o.given < 2000 = omega (arith, c.given-given.ensures) in
    subst (MayAsk mm_facts o) (sym c.in-Ok.ensures) (may_find o few c.args.space c.args.addr)
