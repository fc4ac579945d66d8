-- One step up, to a smaller id, until it isn't greater than the other.
use Rattle.std.proofs.Common.{◌≡◌, true, false, sym, ◌∙◌, ap, arith}
use Rattle.std.specs.Prelude.{◌==◌, ◌&&◌, not}
use Rattle.std.specs.List.{list_any}
use Rattle.std.proofs.lemmas.Bool.Decides.{nat_tests}
use Rattle.sg_name.specs.Names.{named_at}
use Rattle.sg_needs.specs.sg_track.Kept.{ends_below}
use Rattle.sg_needs.proofs.sg_track.Above.{from_parent, parent_below, up_from}
use Rattle.sg_replay.specs.Inside.Ends.{is_named}
use Rattle.sg_replay.proofs.Committed.{one_higher, past}
use Rattle.sg_replay.proofs.Unnamed.{from_some, named_stays}
use Rattle.sg_replay.proofs.ended.is_below.Goals as goal

pub up-init : goal.up-init
up-init c =
    let rows = c.args.rows.now.rows in
    let below = parent_below 0 c.args.rows.now.given c.args.id rows c.live-tracked.ensures.tracked in
    record {
      way =
          ap (λ p. list_any (λ a. a == c.args.above) (up_from rows p)) c.parent_of-parent.ensures
          ∙ sym (ap (list_any (λ a. a == c.args.above)) (from_parent 0 c.args.rows.now.given c.args.id rows c.live-tracked.ensures.tracked));
      lower = omega (arith, below, c.parent_of-parent.ensures);
    }

pub up-smaller : goal.up-smaller
up-smaller c =
    let below = parent_below 0 c.args.rows.now.given c.up.parent c.args.rows.now.rows c.live-tracked.ensures.tracked in
    omega (arith, below, c.parent_of-parent-in-up.ensures, c.up-test.true)

pub up-preserved : goal.up-preserved
up-preserved c =
    let rows = c.args.rows.now.rows in
    let below = parent_below 0 c.args.rows.now.given c.up.parent rows c.live-tracked.ensures.tracked in
    record {
      way =
          ap (λ p. list_any (λ a. a == c.args.above) (up_from rows p)) c.parent_of-parent-in-up.ensures
          ∙ sym (one_higher c.args.rows.now.given rows c.live-tracked.ensures.tracked c.args.above c.up.parent (λ none. omega (arith, c.up-test.true, none)) (λ same. omega (arith, c.up-test.true, same)))
          ∙ c.up.invariant.way;
      lower = omega (arith, below, c.parent_of-parent-in-up.ensures, c.up.invariant.lower);
    }

pub returns-then-is_named : goal.returns-then-is_named
returns-then-is_named c =
    let rows = c.args.rows.now.rows in
    let known = c.args.names.now.known in
    let parent = c.up.parent in
    let some : is_named (named_at known parent) ≡ true = sym (ap is_named c.get.ensures.named) ∙ sym c.is_named.ensures ∙ c.if-is_named.true in
    let stays = named_stays (named_at known parent) (ends_below rows c.args.above parent) (λ ends. c.requires parent c.up-test.true (omega (arith, c.up.invariant.lower, c.up-test.true)) ends) some in
    sym stays ∙ sym (from_some rows c.args.above parent c.up-test.true) ∙ c.up.invariant.way

pub returns-then-parent-ne0 : goal.returns-then-parent-ne0
returns-then-parent-ne0 c =
    let test : (c.up.parent == 0) ≡ false = grind (arith, nat_tests, c.if-parent-ne0.true) in
    ap (λ b. not b && (c.up.parent == c.args.above)) (sym test)
    ∙ sym (past c.args.rows.now.given c.args.rows.now.rows c.live-tracked.ensures.tracked c.args.above c.up.parent (λ more. omega (arith, more, c.up-test.false)))
    ∙ c.up.invariant.way

pub returns-else-parent-ne0 : goal.returns-else-parent-ne0
returns-else-parent-ne0 c =
    let test : (c.up.parent == 0) ≡ true = grind (arith, nat_tests, c.if-parent-ne0.false) in
    ap not test
    ∙ ap (λ b. not b && (c.up.parent == c.args.above)) (sym test)
    ∙ sym (past c.args.rows.now.given c.args.rows.now.rows c.live-tracked.ensures.tracked c.args.above c.up.parent (λ more. omega (arith, more, c.up-test.false)))
    ∙ c.up.invariant.way
