-- What a decision leaves is a tree.
use Rattle.std.proofs.Common.{sym, subst}
use Rattle.sg_facts.specs.Invoke.{Points}
use Rattle.sg_slots.specs.Slots.{Held}
use Rattle.sg_slots.specs.Carry.{IsAbout}
use Rattle.sg_ramfs.specs.declared.open_file.OpenFile.{OpenFile}
use Rattle.sg_ramfs.specs.Inside.RamfsTree.{IsTree, FitsTree}
use Rattle.sg_ramfs.proofs.Trees.{after_reply, tree_after}
use Rattle.sg_ramfs.proofs.tree.FileTree.apply.Goals as goal

pub invariant_of-self : goal.invariant_of-self
invariant_of-self g c =
    let held : Held OpenFile = c.self.inside.files in
    let before : Points = record { asked = g.T.Stops.asked c.args.stops.now; struck = g.T.Stops.struck c.args.stops.now } in
    let later : Points = record { asked = g.T.Stops.asked c.carry_out.new.stops; struck = g.T.Stops.struck c.carry_out.new.stops } in
    let about = subst (λ h. IsAbout h c.args.id c.args.decision) (sym c.self.view_is) c.requires.there in
    let fits = subst (λ h. FitsTree h c.args.id c.args.decision) (sym c.self.view_is) c.requires.fits in
    let new = after_reply held c.args.id c.args.decision before c.in-Replied.reply c.in-Replied.patch c.carry_out.new.slots later c.in-Replied.ensures.outcome in
    subst IsTree (sym new) (tree_after held c.self.invariant c.args.id c.args.decision about fits)
