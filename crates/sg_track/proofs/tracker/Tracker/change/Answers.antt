-- The row is changed at its place, under its id.
use Rattle.std.proofs.Common.{◌∙◌, ap, sym, refl, map}
use Rattle.std.specs.Prelude.{◌==◌, if◌then◌else◌}
use Rattle.std.specs.Map.{values_of}
use Rattle.sg_facts.specs.Track.{row_at}
use Rattle.sg_facts.specs.Inside.Rows.{row_after}
use Rattle.sg_track.specs.declared.kept.Kept.{Kept}
use Rattle.sg_track.specs.Kept.{rows_of}
use Rattle.sg_track.specs.Tracked.{HasLowerParent}
use Rattle.sg_track.proofs.Entries.{read_value, values-set}
use Rattle.sg_track.proofs.Keeps.{kept_changed}
use Rattle.sg_track.proofs.KeptLists.{changed, none_changed}
use Rattle.sg_track.proofs.tracker.Tracker.change.Goals as goal

pub invariant_of-self : goal.invariant_of-self
invariant_of-self c =
    let s = c.self.inside in
    let change = row_after c.args.interface.now.facts c.args.call.now c.args.good.now in
    let k = c.index_mut.result.now in
    let is = read_value (values_of s.kept.entries) c.in-Some.place k c.index_mut.ensures.value in
    let are = kept_changed change c.args.call.now.desc (λ r. refl) (λ r. refl) s.given s.kept.entries c.in-Some.place _ k
    (record { tracked = c.self.invariant.tracked; keyed = c.self.invariant.keyed; counted = c.self.invariant.counted }) c.in-Some.ensures is c.change_row.ensures refl in
    record { tracked = are.tracked; keyed = are.keyed; counted = are.counted; room = c.self.invariant.room; fields = c.self.invariant.fields }

pub returns-in-Some-clause-rows : goal.returns-in-Some-clause-rows
returns-in-Some-clause-rows c =
    let s = c.self.inside in
    let change = row_after c.args.interface.now.facts c.args.call.now c.args.good.now in
    let id = c.args.call.now.desc in
    let k = c.index_mut.result.now in
    let new : Kept = record { row = c.change_row.new.row; children = k.children; ends = k.ends } in
    let is = read_value (values_of s.kept.entries) c.in-Some.place k c.index_mut.ensures.value in
    ap rows_of (values-set s.kept.entries c.in-Some.place new)
    ∙ changed HasLowerParent change id s.given (values_of s.kept.entries) c.in-Some.place new k k c.self.invariant.tracked c.in-Some.ensures is c.change_row.ensures
    ∙ ap (λ t. map (λ r. if r.id == id then change r else r) t.rows) c.self.view_is

pub returns-in_default-clause-rows : goal.returns-in_default-clause-rows
returns-in_default-clause-rows c =
    let change = row_after c.args.interface.now.facts c.args.call.now c.args.good.now in
    let id = c.args.call.now.desc in
    none_changed HasLowerParent change id c.args.self.now.rows (ap (λ t. row_at t.rows id) (sym c.self.view_is) ∙ c.in_default.ensures)
