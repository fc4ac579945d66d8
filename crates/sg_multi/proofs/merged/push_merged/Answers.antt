-- The entry that comes next is read and printed.
use Rattle.std.proofs.Common.{List, map, take, sym, subst}
use Rattle.sg_facts.proofs.Places.{take_next}
use Rattle.sg_facts.specs.Facts.{Facts}
use Rattle.sg_facts.specs.declared.entry.Entry.{Entry}
use Rattle.sg_multi.specs.Inside.Numbers.{HasRead}
use Rattle.sg_multi.proofs.ReadingMerged.{comes_next, line_more}
use Rattle.sg_multi.proofs.merged.push_merged.Goals as goal

pub entries-preserved : goal.entries-preserved
entries-preserved c =
    let histories : List (List Entry) = map (λ m. m.history.items) c.args.members.now in
    let services : List Facts = map (λ t. t.tables.iface.facts) c.args.services.now in
    let at = c.entries.member-index in
    record {
      read = λ merged merges.
          let next = comes_next c.args.order.now histories merged c.entries.reader at merges c.entries-test.true (c.entries.invariant.read merged merges) in
          subst (HasRead c.push_next.new.reader) (sym (take_next merged at next.e next.there))
          (c.in_ok-push_next.ensures.read (take at merged) next.e next.its (c.entries.invariant.read merged merges) next.found);
      lines = λ merged merges.
          let next = comes_next c.args.order.now histories merged c.entries.reader at merges c.entries-test.true (c.entries.invariant.read merged merges) in
          line_more services merged at next.e c.args.out.now c.entries.out c.push_next.new.out next.there (c.entries.invariant.lines merged merges)
          (c.in_ok-push_next.ensures.line (take at merged) next.e next.its (c.entries.invariant.read merged merges) next.found);
    }
