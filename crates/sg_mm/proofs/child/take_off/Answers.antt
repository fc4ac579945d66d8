-- The index has the child less.
use Rattle.std.proofs.Common.{sym, ◌∙◌, subst}
use Rattle.sg_mm.specs.Inside.Children.{TakesOneOff, is_child}
use Rattle.sg_mm.proofs.Children.{lost}
use Rattle.sg_mm.proofs.child.take_off.Goals as goal

pub returns-in-Some : goal.returns-in-Some
returns-in-Some c =
    subst (λ below. TakesOneOff c.args.children.now c.remove.new.self below c.args.id) (sym c.in-Some.is)
    (λ parent id. c.remove.ensures.updates.0 (record { parent = parent; id = id }) ∙ lost c.in-Some.parent c.args.id parent id (is_child c.args.children.now parent id))
