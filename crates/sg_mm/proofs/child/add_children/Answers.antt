-- What lies between the least and the greatest child of a parent are its children.
use Rattle.std.proofs.Common.{◌∙◌, ap, filter}
use Rattle.std.specs.Prelude.{◌==◌, ◌||◌}
use Rattle.std.specs.List.{list_any}
use Rattle.std.specs.BTreeMap.Range.{range_contains}
use Rattle.std.specs.declared.ops.Bound.TheVariants.{Included}
use Rattle.sg_mm.specs.declared.child.Child.{Child}
use Rattle.sg_mm.specs.Inside.Children.{child_cmp, has_id}
use Rattle.sg_mm.proofs.Children.{between}
use Rattle.sg_mm.proofs.child.add_children.Goals as goal

pub children-init : goal.children-init
children-init c =
    let keys = c.args.children.now.keys in
    let among = c.range-child-items.ensures.between c.new.ensures.exhausted
    ∙ ap (λ (first : Child). filter (range_contains child_cmp (Included first) (Included c.new.result.end)) keys) c.new.ensures.start
    ∙ ap (λ (last : Child). filter (range_contains child_cmp (Included (record { parent = c.args.parent; id = 0 })) (Included last)) keys) c.new.ensures.end in
    record {
      rest = λ id. ap (λ l. has_id c.args.ends.now id || list_any (λ (x : Child). x.id == id) l) (c.into_iter-child-iterator.ensures.into_iter_gives ∙ among)
          ∙ ap (λ b. has_id c.args.ends.now id || b) (between c.args.parent id keys (λ x there. (c.requires x.parent x.id there).1));
    }
