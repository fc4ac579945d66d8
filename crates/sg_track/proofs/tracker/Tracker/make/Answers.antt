-- The new id is above all that are there, and above its parent.
use Rattle.std.proofs.Common.{◌≡◌, ◌<◌, ◌≤◌, ◌+◌, ◌^◌, ◌∙◌, ap, subst, sym, refl, false, arith}
use Rattle.std.specs.Map.{values_of}
use Rattle.sg_facts.specs.Track.{row_at}
use Rattle.sg_track.specs.Kept.{children_of, rows_in}
use Rattle.sg_track.specs.Tracked.{AreTracked, HasLowerParent, Tracked}
use Rattle.sg_facts.proofs.RowLists.{wider}
use Rattle.sg_track.proofs.Counts.{each_as, few_children}
use Rattle.sg_track.proofs.Keeps.{AreKept, kept_more}
use Rattle.sg_track.proofs.KeptLists.{below_next, none_beyond}
use Rattle.sg_track.proofs.Ready.{is_ready, unready}
use Rattle.sg_track.proofs.tracker.Tracker.make.Goals as goal

pub made_row-row-requires-clause-room : goal.made_row-row-requires-clause-room
made_row-row-requires-clause-room c =
    c.self.invariant.fields (is_ready c.self.inside.ready (subst (λ (t : Tracked). 1 ≤ t.spare) (sym c.self.view_is) c.requires.place.room))

pub count_child-requires-clause-few : goal.count_child-requires-clause-few
count_child-requires-clause-few c =
    let s = c.self.inside in
    each_as (λ k. k.children < s.given) (λ k. k.children + 1 < 2 ^ 64) (values_of s.kept.entries) (λ k less. omega (arith, less))
    (few_children s.given (values_of s.kept.entries) c.self.invariant.tracked c.self.invariant.counted)

pub add_row-requires-clause-unknown : goal.add_row-requires-clause-unknown
add_row-requires-clause-unknown c =
    let s = c.self.inside in
    let id = c.made_row-row.result.id in
    let given : s.given ≡ c.args.self.now.given = ap (λ t. t.given) c.self.view_is in
    let next : s.given < id = omega (arith, ap (λ r. r.id) c.made_row-row.ensures, c.requires.place.next, given) in
    ap (λ rows. row_at rows id) c.count_child.ensures.rows ∙ none_beyond HasLowerParent 0 s.given id (rows_in s.kept.entries) c.self.invariant.tracked next

pub invariant_of-self : goal.invariant_of-self
invariant_of-self c =
    let s = c.self.inside in
    let row = c.made_row-row.result in
    let given : s.given ≡ c.args.self.now.given = ap (λ t. t.given) c.self.view_is in
    let id = ap (λ r. r.id) c.made_row-row.ensures in
    let next : s.given < row.id = omega (arith, id, c.requires.place.next, given) in
    let lower : HasLowerParent row = subst HasLowerParent (sym c.made_row-row.ensures)
    (below_next c.args.interface.now.facts c.args.self.now c.args.call.now c.args.good.now c.requires.place (subst (λ t. AreTracked t.given t.rows) c.self.view_is c.self.invariant.tracked)) in
    let counts = c.count_child.ensures.counts (children_of (rows_in s.kept.entries)) c.self.invariant.counted in
    let are = subst (AreKept row.id) (sym c.add_row.ensures)
    (kept_more s.given s.kept.entries c.count_child.new.kept.entries (record { row = row; children = 0; ends = false }) c.self.invariant.tracked c.count_child.ensures.rows
    c.count_child.ensures.keyed counts next lower refl) in
    record {
      tracked = subst (λ n. AreTracked n (rows_in c.add_row.new.kept.entries)) id are.tracked;
      keyed = are.keyed;
      counted = are.counted;
      room = λ there. absurd (unready there);
      fields = λ there. absurd (unready there);
    }

pub invariant_of-self-else-not-is_query : goal.invariant_of-self-else-not-is_query
invariant_of-self-else-not-is_query c = record {
  tracked =
      let s = c.self.inside in
      let given : s.given ≡ c.args.self.now.given = ap (λ t. t.given) c.self.view_is in
      wider HasLowerParent 0 0 s.given c.args.good.now.desc (rows_in s.kept.entries) (omega arith) (omega (arith, given, c.requires.place.next)) c.self.invariant.tracked;
  keyed = c.self.invariant.keyed;
  counted = c.self.invariant.counted;
  room = λ there. absurd (unready there);
  fields = λ there. absurd (unready there);
}
