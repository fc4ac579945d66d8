-- One step up, to a smaller id, until there is no row, or only whole ones are left.
use Rattle.std.proofs.Common.{◌≡◌, ℕ, Bool, ◌∷◌, None, Some, arith, is_some, true, false, sym, ◌∙◌, ap, subst, option_copied}
use Rattle.sg_facts.specs.Track.{ancestors, is_live, row_at}
use Rattle.sg_facts.specs.Inside.Rows.{parent_in}
use Rattle.sg_name.specs.Names.{named_at}
use Rattle.sg_needs.proofs.sg_track.Above.{parent_below}
use Rattle.sg_needs.specs.Inside.Lines.{ids_in}
use Rattle.sg_replay.specs.Missing.{first_hole, is_whole}
use Rattle.sg_replay.proofs.AllWhole.{find_before}
use Rattle.sg_replay.proofs.Committed.{row_live}
use Rattle.sg_replay.proofs.Upwards.{ends_up, last_hole, some_live, step_up, way_up, whole_up}
use Rattle.sg_replay.proofs.hole.hole_in_line.Goals as goal

pub up-init : goal.up-init
up-init c = way_up (λ x. is_whole (named_at c.args.names.now.known x)) c.args.rows.now.rows c.args.rows.now.given c.live-tracked.ensures.tracked c.args.id

pub up-smaller : goal.up-smaller
up-smaller c =
    let rows = c.args.rows.now in
    let there : row_at rows.rows c.up.at ≡ Some c.in-Some.row.now = sym c.in-Some.ensures in
    let live : is_live rows.rows c.up.at ≡ true = sym (row_live rows.rows c.up.at) ∙ ap is_some there in
    let some = some_live (λ x. is_whole (named_at c.args.names.now.known x)) rows.rows rows.given c.live-tracked.ensures.tracked c.up.at live in
    let below = parent_below 0 rows.given c.up.at rows.rows c.live-tracked.ensures.tracked in
    let parent = ap parent_in there in
    omega (arith, some, below, parent)

pub up-preserved : goal.up-preserved
up-preserved c =
    let rows = c.args.rows.now in
    let whole : ℕ → Bool = λ x. is_whole (named_at c.args.names.now.known x) in
    let there : row_at rows.rows c.up.at ≡ Some c.in-Some.row.now = sym c.in-Some.ensures in
    let live : is_live rows.rows c.up.at ≡ true = sym (row_live rows.rows c.up.at) ∙ ap is_some there in
    subst (λ p. last_hole whole rows.rows (p ∷ ancestors rows.rows p) c.hole_at-hole.result ≡ first_hole c.args.names.now.known (ids_in false rows.rows c.args.id)) (ap parent_in there)
    (ap (last_hole whole rows.rows (parent_in (row_at rows.rows c.up.at) ∷ ancestors rows.rows (parent_in (row_at rows.rows c.up.at)))) c.hole_at-hole.ensures
    ∙ step_up whole rows.rows rows.given c.live-tracked.ensures.tracked c.up.at c.up.hole live
    ∙ c.up.invariant)

pub returns-in_default : goal.returns-in_default
returns-in_default c =
    let rows = c.args.rows.now in
    let none : row_at rows.rows c.up.at ≡ None = sym c.row.ensures ∙ ap option_copied c.in_default.is in
    sym (ends_up (λ x. is_whole (named_at c.args.names.now.known x)) rows.rows rows.given c.live-tracked.ensures.tracked c.up.at c.up.hole none) ∙ c.up.invariant

pub returns : goal.returns
returns c =
    let rows = c.args.rows.now in
    let whole : ℕ → Bool = λ x. is_whole (named_at c.args.names.now.known x) in
    let before = find_before whole 0 rows.given rows.rows c.live-tracked.ensures.tracked c.args.first c.requires in
    sym (whole_up whole rows.rows rows.given c.live-tracked.ensures.tracked c.args.first before c.up.at c.up.at c.up.hole (omega arith) (omega (arith, c.up-test.false))) ∙ c.up.invariant
