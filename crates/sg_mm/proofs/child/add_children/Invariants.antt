-- Once the children that are left are added, all are.
use Rattle.std.proofs.Common.{◌≡◌, ℕ, ◌==◌, ◌||◌}
use Rattle.std.specs.List.{list_any}
use Rattle.sg_mm.specs.Inside.Children.{has_id, is_child}
use Rattle.sg_mm.proofs.child.add_children.Given as goal

abbrev pub invariant-children : goal.invariant-children
invariant-children l = record {
  rest : (id : ℕ) → (has_id l.ends id || list_any (λ c. c.id == id) l.child-iterator) ≡ (has_id l.initial.ends id || is_child l.children l.parent id);
}
