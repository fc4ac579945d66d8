-- The new descriptor stands below one whose id was given, or below none.
use Rattle.std.proofs.Common.{sym, subst}
use Rattle.sg_ramfs.specs.Inside.RamfsTree.{FitsTree}
use Rattle.sg_ramfs.proofs.Asking.{parent_given, split_fits}
use Rattle.sg_ramfs.proofs.service.split.Goals as goal

pub apply-requires-clause-fits : goal.apply-requires-clause-fits
apply-requires-clause-fits g c =
    let held = c.args.tree.now in
    let call = c.args.call.now in
    subst (FitsTree held call.desc) (sym c.in-Ok.ensures.decision) (split_fits held call (parent_given held call.desc c.split.ensures.tree c.requires.parent))
