-- All rows before the first that isn't whole are whole.
use Rattle.std.proofs.Common.{◌≡◌, true, arith, ◌∙◌, ap, subst, sym}
use Rattle.sg_facts.specs.Track.{is_live}
use Rattle.sg_name.specs.Names.{named_at}
use Rattle.sg_needs.proofs.sg_track.KeptLists.{live_within}
use Rattle.sg_needs.specs.sg_track.Tracked.{HasLowerParent}
use Rattle.sg_replay.specs.Missing.{is_whole}
use Rattle.sg_replay.proofs.AllWhole.{find_at, find_none, live_at, live_before, live_first, whole_more}
use Rattle.sg_replay.proofs.Committed.{before_is, take_all}
use Rattle.sg_replay.proofs.hole.hole_from.Goals as goal

pub places-init : goal.places-init
places-init c = λ x live.
    c.requires x (before_is c.args.below _ c.place-place.ensures.before x live) (live_first c.args.rows.now.rows c.place-place.result x live)

pub places-preserved : goal.places-preserved
places-preserved c =
    whole_more (λ x. is_whole (named_at c.args.names.now.known x)) c.args.rows.now.rows c.places.place c.id_at-id.result c.id_at-id.ensures c.places.invariant
    (sym (sym c.if-not-is_whole.false ∙ c.is_whole.ensures ∙ ap is_whole c.get.ensures.named))

pub returns-then-not-is_whole-clause-hole : goal.returns-then-not-is_whole-clause-hole
returns-then-not-is_whole-clause-hole c =
    sym (find_at (λ x. is_whole (named_at c.args.names.now.known x)) c.args.rows.now.rows c.places.place c.id_at-id.result c.id_at-id.ensures c.places.invariant
    (sym (sym c.if-not-is_whole.true ∙ c.is_whole.ensures ∙ ap is_whole c.get.ensures.named)))

pub returns-then-not-is_whole-clause-before : goal.returns-then-not-is_whole-clause-before
returns-then-not-is_whole-clause-before c =
    let rows = c.args.rows.now in (
      live_within HasLowerParent 0 rows.given c.id_at-id.result rows.rows c.live-place-end.ensures.tracked (live_at rows.rows c.places.place c.id_at-id.result c.id_at-id.ensures),
      λ x less live. c.places.invariant x (live_before 0 rows.given rows.rows c.live-place-end.ensures.tracked c.places.place c.id_at-id.result c.id_at-id.ensures x less live),
    )

pub returns-clause-hole : goal.returns-clause-hole
returns-clause-hole c =
    let rows = c.args.rows.now.rows in
    sym (find_none (λ x. is_whole (named_at c.args.names.now.known x)) rows
    (λ x live. c.places.invariant x (subst (λ l. is_live l x ≡ true) (sym (take_all rows c.places.place (omega (arith, c.places-test.false, c.live-place-end.ensures.count)))) live)))

pub returns-clause-before : goal.returns-clause-before
returns-clause-before c = λ x live.
    let rows = c.args.rows.now.rows in
    c.places.invariant x (subst (λ l. is_live l x ≡ true) (sym (take_all rows c.places.place (omega (arith, c.places-test.false, c.live-place-end.ensures.count)))) live)
