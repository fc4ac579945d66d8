-- Each entry may be tracked.
use Rattle.std.proofs.Common.{◌+◌, sym, ◌∙◌, ap}
use Rattle.std.proofs.lemmas.Option.{get_or_from_slice_get, slice_get_within}
use Rattle.sg_cost.proofs.Tracking.{front_next, may_next}
use Rattle.sg_cost.proofs.front.FirstRows.finish.Goals as goal

pub track-requires-clause-may : goal.track-requires-clause-may
track-requires-clause-may c =
    may_next c.args.tables.now.iface.facts c.args.history.now.items c.entries.at c.in_ok-entry.entry (slice_get_within c.args.history.now.items c.entries.at c.in_ok-entry.entry c.in_ok-entry.ensures)
    (sym (get_or_from_slice_get c.args.history.now.items c.entries.at c.in_ok-entry.entry c.in_ok-entry.entry c.in_ok-entry.ensures)) c.entries.self.rows c.entries.invariant.front c.requires.may

pub entries-preserved : goal.entries-preserved
entries-preserved c = record {
  place = c.in_ok-track.ensures.place ∙ ap (λ n. n + 1) c.entries.invariant.place;
  front = front_next c.args.tables.now.iface.facts c.args.history.now.items c.entries.at c.in_ok-entry.entry (slice_get_within c.args.history.now.items c.entries.at c.in_ok-entry.entry c.in_ok-entry.ensures)
      (sym (get_or_from_slice_get c.args.history.now.items c.entries.at c.in_ok-entry.entry c.in_ok-entry.entry c.in_ok-entry.ensures)) c.entries.self.rows c.entries.invariant.front
      c.track.new.self.rows c.in_ok-track.ensures.rows c.in_ok-track.ensures.given;
}
