-- The number beside the row is that of its children.
use Rattle.std.proofs.Common.{◌∙◌, ap}
use Rattle.std.specs.Prelude.{nat_lt}
use Rattle.std.specs.Map.{values_of}
use Rattle.sg_facts.specs.Inside.Rows.{has_child}
use Rattle.sg_track.specs.Kept.{children_of, rows_in}
use Rattle.sg_track.proofs.Counts.{has-children}
use Rattle.sg_track.proofs.Entries.{count_found}
use Rattle.sg_track.proofs.KeptLists.{child-rows}
use Rattle.sg_track.proofs.tracker.Tracker.has_children.Goals as goal

pub returns-in-Some : goal.returns-in-Some
returns-in-Some c =
    let es = c.self.inside.kept.entries in
    let rows = rows_in es in
    ap (nat_lt 0) (count_found (children_of rows) es c.args.id c.in-Some.one.now c.self.invariant.keyed c.self.invariant.counted c.in-Some.ensures.value)
    ∙ has-children rows c.args.id ∙ ap (λ t. has_child t.rows c.args.id) c.self.view_is

pub returns-in-None : goal.returns-in-None
returns-in-None c =
    c.has_child.ensures ∙ child-rows (values_of c.self.inside.kept.entries) c.args.id ∙ ap (λ t. has_child t.rows c.args.id) c.self.view_is
