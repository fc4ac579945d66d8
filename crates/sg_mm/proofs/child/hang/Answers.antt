-- The index has the child more.
use Rattle.std.proofs.Common.{sym, ◌∙◌, subst}
use Rattle.sg_mm.specs.Inside.Children.{HangsOne, is_child}
use Rattle.sg_mm.proofs.Children.{gained}
use Rattle.sg_mm.proofs.child.hang.Goals as goal

pub returns-in_ok-insert-clause-ok : goal.returns-in_ok-insert-clause-ok
returns-in_ok-insert-clause-ok c =
    subst (λ below. HangsOne c.args.children.now c.insert.new.self below c.args.id) (sym c.in-Some.is)
    (λ parent id. c.in_ok-insert.ensures.updates.0 (record { parent = parent; id = id }) ∙ gained c.in-Some.parent c.args.id parent id (is_child c.args.children.now parent id))
