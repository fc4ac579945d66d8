-- Once the ids that are left are off their parents, all are off that are to be.
use Rattle.std.proofs.Common.{◌≡◌, ℕ, ◌&&◌, not}
use Rattle.sg_mm.specs.Inside.Children.{AreOfPages, has_id, is_child}
use Rattle.sg_mm.proofs.Ending.{is_left}
use Rattle.sg_mm.proofs.child.take_off_all.Given as goal

abbrev pub invariant-ids : goal.invariant-ids
invariant-ids l = record {
  of_pages : AreOfPages l.pages.entries l.children;
  rest : (parent id : ℕ) → (is_child l.children parent id && not (is_left l.id-iterator id)) ≡ (is_child l.initial.children parent id && not (has_id l.ends id));
}
