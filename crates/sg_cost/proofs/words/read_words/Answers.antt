-- The words of one entry more are read.
use Rattle.std.proofs.Common.{sym, subst, take}
use Rattle.sg_facts.proofs.Places.{take_next}
use Rattle.sg_facts.specs.Kinds.{AreWords}
use Rattle.sg_facts.specs.declared.entry.Entry.{Entry}
use Rattle.sg_facts.specs.sg_base.Lists.{Each}
use Rattle.sg_report.specs.sg_hist.Lent.{entry_in}
use Rattle.sg_cost.proofs.Indexed.{each_more}
use Rattle.sg_cost.proofs.words.read_words.Goals as goal

pub entries-preserved : goal.entries-preserved
entries-preserved c =
    let items = c.args.history.now.items in
    let e = entry_in c.at.result in
    subst (Each (λ (x : Entry). AreWords x.call.args)) (sym (take_next items c.entries.at e c.at.ensures))
    (each_more (λ (x : Entry). AreWords x.call.args) (take c.entries.at items) e c.entries.invariant c.read_args.ensures)
