-- Each row from the id's place on is looked at, and its name goes where it ends.
use Rattle.std.proofs.Common.{◌≡◌, ◌∙◌, ◌+◌, ◌&&◌, Bool, ap, arith, false, true, sym, subst}
use Rattle.sg_name.specs.Names.{named_at}
use Rattle.sg_needs.specs.sg_track.Kept.{ends_below}
use Rattle.sg_replay.specs.Inside.Ends.{is_named}
use Rattle.sg_replay.proofs.Committed.{AreGone, gone_all, gone_kept, gone_more, gone_none}
use Rattle.sg_replay.proofs.Unnamed.{before_next}
use Rattle.sg_replay.proofs.ended.forget_below.Goals as goal
use Rattle.sg_replay.proofs.ended.forget_below.Goals.{then-loses_name, else-loses_name}

pub places-init : goal.places-init
places-init c =
    let rows = c.args.rows.now in
    record {
      names = gone_none rows.given rows.rows c.live-place-end.ensures.tracked c.args.gone c.args.names.now.known c.place-place.result c.place-place.ensures.before;
      spare = omega arith;
    }

pub loses_name-requires : goal.loses_name-requires
loses_name-requires c =
    let rows = c.args.rows.now in
    before_next rows.given rows.rows c.live-place-end.ensures.tracked c.args.gone c.args.names.now.known c.places.place c.id_at-id.result c.places.names.known c.id_at-id.ensures c.places.invariant.names

-- what passes both tests passes the second
second : (a b : Bool) → (a && b) ≡ true → b ≡ true
second true b is = is
second false b is = absurd (cc is)

pub places-preserved : goal.places-preserved
places-preserved c =
    let rows = c.args.rows.now in
    let id = c.id_at-id.result in
    let tracked = c.live-place-end.ensures.tracked in
    let old = c.args.names.now.known in
    let more = gone_more rows.given rows.rows tracked c.args.gone old c.places.place id c.places.names.known c.id_at-id.ensures c.places.invariant.names in
    let kept = gone_kept rows.given rows.rows tracked c.args.gone old c.places.place id c.places.names.known c.id_at-id.ensures c.places.invariant.names in
    elim c.if-loses_name.branch [
      | then-loses_name w ↦
          let ends = second (is_named (named_at c.places.names.known id)) (ends_below rows.rows c.args.gone id) (sym c.loses_name.ensures ∙ w.if-loses_name.true) in
          record {
            names = subst (λ names. AreGone rows.rows c.args.gone old (c.places.place + 1) names.known) (sym w.names-is) (more w.drop_id.new.self.known ends w.drop_id.ensures.names);
            spare = omega (arith, c.places.invariant.spare, w.drop_id.ensures.spare, ap (λ names. names.spare) w.names-is);
          }
      | else-loses_name w ↦ record {
        names = subst (λ names. AreGone rows.rows c.args.gone old (c.places.place + 1) names.known) (sym w.names-is) (kept (sym c.loses_name.ensures ∙ w.if-loses_name.false));
        spare = omega (arith, c.places.invariant.spare, ap (λ names. names.spare) w.names-is);
      }
    ]

pub returns-clause-names : goal.returns-clause-names
returns-clause-names c =
    let rows = c.args.rows.now in
    gone_all rows.given rows.rows c.live-place-end.ensures.tracked c.args.gone c.args.names.now.known c.places.place c.places.names.known
    (omega (arith, c.places-test.false, c.live-place-end.ensures.count)) c.places.invariant.names
