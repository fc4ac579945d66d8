-- What the look-up finds is the row of the id.
use Rattle.std.proofs.Common.{◌∙◌, ap, sym}
use Rattle.sg_facts.specs.Track.{row_at}
use Rattle.sg_track.proofs.Entries.{row_found, row_missed}
use Rattle.sg_track.proofs.tracker.Tracker.row.Goals as goal

pub returns-in-Some : goal.returns-in-Some
returns-in-Some c =
    sym (row_found c.self.inside.kept.entries c.args.id c.in-Some.one.now c.self.invariant.keyed c.in-Some.ensures.value)
    ∙ ap (λ t. row_at t.rows c.args.id) c.self.view_is

pub returns-in-None : goal.returns-in-None
returns-in-None c =
    sym (row_missed c.self.inside.kept.entries c.args.id c.self.invariant.keyed c.in-None.ensures.value)
    ∙ ap (λ t. row_at t.rows c.args.id) c.self.view_is
