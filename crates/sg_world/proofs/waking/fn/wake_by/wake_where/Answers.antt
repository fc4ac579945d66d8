-- A descriptor is gone where it has no row.
use Rattle.std.proofs.Common.{is_some, ap, sym, not, ◌∙◌, ◌&&◌}
use Rattle.sg_facts.specs.Track.{is_live}
use Rattle.sg_replay.proofs.Committed.{copied_some, row_live}
use Rattle.sg_world.proofs.Wakes.{above_none, flip}
use Rattle.sg_world.proofs.waking.fn.wake_by.wake_where.Goals as goal

pub returns-then-desc-gt0 : goal.returns-then-desc-gt0
returns-then-desc-gt0 g c =
    let rows = c.captures.engine.now.tracked.rows in
    flip c.is_none.result (is_some c.row.result) (is_live rows c.args.desc) c.is_none.ensures (copied_some c.row.result ∙ ap is_some c.row.ensures ∙ row_live rows c.args.desc)
    ∙ ap (λ q. q && not (is_live rows c.args.desc)) (sym (above_none c.args.desc c.if-desc-gt0.true))
