-- A boot more is told.
use Rattle.std.proofs.Common.{◌<◌, length, map, sym, ◌∙◌, ap, subst, take}
use Rattle.std.specs.Prelude.{slice_index_or}
use Rattle.std.proofs.lemmas.List.{length-map}
use Rattle.sg_cost.proofs.BootCosts.{boot_more, mapped_at}
use Rattle.sg_cost.proofs.Fronts.{over_more}
use Rattle.sg_cost.proofs.RowFacts.{front_rows}
use Rattle.sg_cost.specs.Inside.LastBoots.{AreLastBoots}
use Rattle.sg_facts.specs.Trace.{run_of}
use Rattle.sg_facts.specs.Inside.Rows.{boot_of}
use Rattle.sg_cost.proofs.boots.boot_costs.Goals as goal

pub all_walks-requires : goal.all_walks-requires
all_walks-requires c =
    front_rows c.args.tables.now.iface.facts c.args.history.now.items c.advance.new.self.place c.advance.new.self.rows c.in_ok-advance.ensures.front c.requires.fields c.requires.few

pub boots-preserved : goal.boots-preserved
boots-preserved c =
    let logs = c.args.trace.now.boots.items in
    let n = c.boots.at in
    let log = c.boot-item.result in
    let lasts = subst (λ l. AreLastBoots c.in_ok-last.last.entries (map boot_of l)) c.as_slice.ensures c.in_ok-last.ensures in
    let at = subst (λ k. n < k) (ap length c.as_slice-boot-items.ensures ∙ sym (length-map logs boot_of)) c.boots-test.true in
    let own = ap boot_of (c.boot-item.is ∙ ap (λ l. slice_index_or l n log) c.as_slice-boot-items.ensures) ∙ sym (mapped_at boot_of logs n log) in
    record {
      costs = boot_more c.args.tables.now.iface.facts c.args.tables.now.walks c.args.history.now.items (run_of c.args.trace.now) c.requires.run c.in_ok-last.last.entries lasts n (boot_of log) at own
          c.advance.new.self.place c.advance.new.self.rows c.in_ok-advance.ensures.front c.in_ok-advance.ensures.over c.in_ok-advance.ensures.next
          c.replays_in.result c.in_ok-all_walks.field-0 c.replays_in.ensures c.in_ok-all_walks.ensures c.boots.costs c.push.new.self c.in_ok-push.ensures.ok c.boots.invariant.costs;
      front = c.in_ok-advance.ensures.front;
      over = over_more c.in_ok-last.last.entries c.boots.at (take c.advance.new.self.place c.args.history.now.items) c.in_ok-advance.ensures.over;
    }
