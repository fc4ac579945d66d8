-- Where the last id that was given is below the one up to which all are whole, none is left.
use Rattle.std.proofs.Common.{◌≡◌, None, arith, map, subst, sym}
use Rattle.sg_name.specs.Names.{named_at}
use Rattle.sg_needs.proofs.sg_track.KeptLists.{live_within}
use Rattle.sg_needs.specs.sg_track.Tracked.{HasLowerParent}
use Rattle.sg_replay.specs.Engined.{Engined}
use Rattle.sg_replay.specs.Missing.{first_hole, is_whole}
use Rattle.sg_replay.proofs.AllWhole.{find_none}
use Rattle.sg_replay.proofs.engine.Engine.first_hole.Goals as goal

pub returns-then-self-given-clause-hole : goal.returns-then-self-given-clause-hole
returns-then-self-given-clause-hole g c =
    let rows = c.self.inside.rows in
    sym (subst (λ (e : Engined). first_hole e.names.known (map (λ r. r.id) e.tracked.rows) ≡ None) c.self.view_is
    (find_none (λ id. is_whole (named_at c.self.inside.names.known id)) rows.rows (λ id live.
    let within = live_within HasLowerParent 0 rows.given id rows.rows c.live-tracked.ensures.tracked live in
    c.self.invariant.whole id (omega (arith, within, c.self.invariant.is.ids, c.given.ensures, c.if-self-given.true)) live)))
