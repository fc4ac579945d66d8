-- What is left when a row ends.
use Rattle.std.proofs.Common.{◌≡◌, ◌∙◌, ap, subst, sym, arith, true, false, not, filter}
use Rattle.std.specs.Map.{values_of}
use Rattle.sg_facts.specs.sg_base.Lists.{Each}
use Rattle.sg_facts.specs.Track.{is_ancestor}
use Rattle.sg_track.specs.Kept.{ends_below, is_marked, others_of, rows_in, rows_of}
use Rattle.sg_track.specs.Tracked.{AreTracked, left_rows}
use Rattle.sg_track.proofs.Ends.{ends_alone, removed, rows-left}
use Rattle.sg_track.proofs.Entries.{values-filter}
use Rattle.sg_track.proofs.Keeps.{AreKept, kept_below, kept_removed}
use Rattle.sg_track.proofs.tracker.Tracker.end.Goals as goal
use Rattle.sg_track.proofs.tracker.Tracker.end.Goals.{then-subtree, else-subtree}

pub invariant_of-self : goal.invariant_of-self
invariant_of-self c =
    let s = c.self-2.inside in
    let rows = rows_in s.kept.entries in
    let same = c.discount_row.ensures.rows in
    let marked = c.mark_below.new.kept.entries in
    let ends = subst (λ rows. Each (λ k. is_marked c.args.id k ≡ ends_below rows c.args.id k.row.id) (values_of marked)) same c.mark_below.ensures.marked in
    let counts = c.mark_below.ensures.counts (others_of c.args.id rows) (c.discount_row.ensures.counts c.self-2.invariant.counted) in
    let are = subst (AreKept s.given) (sym c.close_up.ensures.entries)
    (kept_below s.given c.args.id rows marked c.self-2.invariant.tracked (c.mark_below.ensures.rows ∙ same) c.mark_below.ensures.keyed ends counts) in
    record {
      tracked = are.tracked;
      keyed = are.keyed;
      counted = are.counted;
      room = λ there. omega (arith, c.self-2.invariant.room there, c.close_up.ensures.spare, c.mark_below.ensures.spare, c.discount_row.ensures.spare);
      fields = c.self-2.invariant.fields;
    }

pub invariant_of-self-else-all : goal.invariant_of-self-else-all
invariant_of-self-else-all c =
    let s = c.self-2.inside in
    let counted = c.discount_row.new.kept.entries in
    let are = subst (AreKept s.given) (sym c.remove_row.ensures.entries)
    (kept_removed s.given c.args.id (rows_in s.kept.entries) counted c.self-2.invariant.tracked c.discount_row.ensures.rows c.discount_row.ensures.keyed
    (c.discount_row.ensures.counts c.self-2.invariant.counted)) in
    record {
      tracked = are.tracked;
      keyed = are.keyed;
      counted = are.counted;
      room = λ there. omega (arith, c.self-2.invariant.room there, c.remove_row.ensures.spare, c.discount_row.ensures.spare);
      fields = c.self-2.invariant.fields;
    }

pub returns-then-all-clause-rows : goal.returns-then-all-clause-rows
returns-then-all-clause-rows c =
    let s = c.self-2.inside in
    let same = c.discount_row.ensures.rows in
    let marked = c.mark_below.new.kept.entries in
    let test = ends_below (rows_in c.discount_row.new.kept.entries) c.args.id in
    ap rows_in c.close_up.ensures.entries
    ∙ ap rows_of (values-filter (λ k. not (is_marked c.args.id k)) marked)
    ∙ rows-left (is_marked c.args.id) test (values_of marked) c.mark_below.ensures.marked
    ∙ ap (filter (λ r. not (test r.id))) (c.mark_below.ensures.rows ∙ same)
    ∙ ap (λ rows. filter (λ r. not (ends_below rows c.args.id r.id)) (rows_in s.kept.entries)) same
    ∙ ap (λ t. filter (λ r. not (ends_below t.rows c.args.id r.id)) t.rows) c.self-2.view_is
    ∙ elim c.if-subtree.branch [
      | then-subtree w ↦ ap (λ b. left_rows b c.args.self.now.rows c.args.id) (sym w.if-subtree.true)
      | else-subtree w ↦ absurd (let wrong : true ≡ false = sym c.if-all.true ∙ w.all-is ∙ w.if-subtree.false in cc wrong)
    ]

pub returns-else-all-clause-rows : goal.returns-else-all-clause-rows
returns-else-all-clause-rows c =
    let s = c.self-2.inside in
    let counted = c.discount_row.new.kept.entries in
    let are = subst (AreTracked s.given) (sym c.discount_row.ensures.rows) c.self-2.invariant.tracked in
    ap rows_in c.remove_row.ensures.entries
    ∙ removed c.args.id (λ r. is_ancestor (rows_in counted) c.args.id r.id) 0 s.given counted are c.discount_row.ensures.keyed
    ∙ ap (λ rows. left_rows false rows c.args.id) c.discount_row.ensures.rows
    ∙ ap (λ t. left_rows false t.rows c.args.id) c.self-2.view_is
    ∙ elim c.if-subtree.branch [
      | then-subtree w ↦
          ends_alone c.args.id c.args.self.now.rows c.args.self.now.rows (sym w.has_children-all.ensures ∙ sym w.all-is ∙ c.if-all.false)
          ∙ ap (λ b. left_rows b c.args.self.now.rows c.args.id) (sym w.if-subtree.true)
      | else-subtree w ↦ ap (λ b. left_rows b c.args.self.now.rows c.args.id) (sym w.if-subtree.false)
    ]
