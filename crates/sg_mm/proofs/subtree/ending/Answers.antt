-- The set gains what is below one id.
use Rattle.std.proofs.Common.{subst}
use Rattle.sg_mm.proofs.Growing.{IsGrown, grows}
use Rattle.sg_mm.proofs.subtree.ending.Goals as goal

pub ids-preserved : goal.ids-preserved
ids-preserved c =
    let grown = subst (λ next. IsGrown c.args.children.now c.args.id next c.ids.ends) c.in-Some.is c.ids.invariant in
    grows c.args.children.now c.args.id c.in-Some.parent c.next_id-next.result c.ids.ends c.add_children.new.ends c.requires grown c.in_ok-add_children.ensures c.next_id-next.ensures
