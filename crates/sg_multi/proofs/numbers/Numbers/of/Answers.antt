-- The entry that comes next is read, and the number of its call is kept.
use Rattle.std.proofs.Common.{List, map, take, sym, subst}
use Rattle.sg_facts.proofs.Places.{take_next}
use Rattle.sg_facts.specs.declared.entry.Entry.{Entry}
use Rattle.sg_multi.specs.Inside.Numbers.{AreKept, HasRead}
use Rattle.sg_multi.proofs.NumberingCalls.{numbers_are}
use Rattle.sg_multi.proofs.ReadingMerged.{all_read, comes_next}
use Rattle.sg_multi.proofs.numbers.Numbers.of.Goals as goal

pub entries-preserved : goal.entries-preserved
entries-preserved c =
    let histories : List (List Entry) = map (λ m. m.history.items) c.args.members.now in
    let at = c.entries.member-index in
    record {
      read = λ merged merges.
          let next = comes_next c.args.order.now histories merged c.entries.reader at merges c.entries-test.true (c.entries.invariant.read merged merges) in
          subst (HasRead c.keep_next.new.reader) (sym (take_next merged at next.e next.there))
          (c.in_ok-keep_next.ensures.read (take at merged) next.e next.its (c.entries.invariant.read merged merges) next.found);
      kept = λ merged merges.
          let next = comes_next c.args.order.now histories merged c.entries.reader at merges c.entries-test.true (c.entries.invariant.read merged merges) in
          subst (AreKept c.keep_next.new.calls) (sym (take_next merged at next.e next.there))
          (c.in_ok-keep_next.ensures.kept (take at merged) next.e next.its (c.entries.invariant.read merged merges) next.found (c.entries.invariant.kept merged merges));
    }

pub returns : goal.returns
returns c = λ merged merges.
    let at = c.entries.member-index in
    let all = all_read c.args.order.now (map (λ m. m.history.items) c.args.members.now) merged at merges c.entries-test.false in
    numbers_are (record { calls = c.entries.calls; clients = c.entries.reader.clients }) merged (subst (AreKept c.entries.calls) all (c.entries.invariant.kept merged merges))
    (λ client. (subst (HasRead c.entries.reader) all (c.entries.invariant.read merged merges)).clients client)
