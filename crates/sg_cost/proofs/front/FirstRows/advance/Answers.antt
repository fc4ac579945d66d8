-- Each entry may be tracked, and counts.
use Rattle.std.proofs.Common.{◌+◌, ◌≤◌, length, sym, ◌∙◌, ap, subst, take}
use Rattle.std.specs.List.{list_all}
use Rattle.std.proofs.lemmas.Option.{get_or_from_slice_get, slice_get_within}
use Rattle.sg_cost.proofs.Indexed.{all_more, none_past, one_more}
use Rattle.sg_cost.proofs.Tracking.{front_next, may_next}
use Rattle.sg_cost.specs.Inside.LastBoots.{is_over}
use Rattle.sg_cost.proofs.front.FirstRows.advance.Goals as goal

pub track-requires-clause-may : goal.track-requires-clause-may
track-requires-clause-may c =
    may_next c.args.tables.now.iface.facts c.args.history.now.items c.entries.at c.in_ok-entry.entry (slice_get_within c.args.history.now.items c.entries.at c.in_ok-entry.entry c.in_ok-entry.ensures)
    (sym (get_or_from_slice_get c.args.history.now.items c.entries.at c.in_ok-entry.entry c.in_ok-entry.entry c.in_ok-entry.ensures)) c.entries.self.rows c.entries.invariant.front c.requires.may

pub entries-preserved : goal.entries-preserved
entries-preserved c =
    let history = c.args.history.now.items in
    let e = c.in_ok-entry.entry in
    let at = slice_get_within history c.entries.at e c.in_ok-entry.ensures in
    let own = sym (get_or_from_slice_get history c.entries.at e e c.in_ok-entry.ensures) in
    let test = is_over c.args.last.now.entries c.args.first in
    record {
      place = c.in_ok-track.ensures.place ∙ ap (λ n. n + 1) c.entries.invariant.place;
      front = front_next c.args.tables.now.iface.facts history c.entries.at e at own c.entries.self.rows c.entries.invariant.front
          c.track.new.self.rows c.in_ok-track.ensures.rows c.in_ok-track.ensures.given;
      over = ap (list_all test) (one_more history c.entries.at e at own) ∙ all_more test (take c.entries.at history) e c.entries.invariant.over (sym c.is_over.ensures ∙ c.if-not-is_over.false);
    }

pub returns-clause-next : goal.returns-clause-next
returns-clause-next c = λ e there. absurd (none_past c.args.history.now.items c.entries.self.place e (subst (λ n. length c.args.history.now.items ≤ n) (sym c.entries.invariant.place) (subst (λ n. n ≤ c.entries.at) c.len-at-end.ensures c.entries-test.false)) there)
