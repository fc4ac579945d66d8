-- What is read is what a run prints: its calls may be made, and they are few.
use Rattle.std.proofs.Common.{ℕ, ◌≤◌, Bool, List, length, map}
use Rattle.sg_entries.proofs.Flawless.{calls_made, entries_few, of_read}
use Rattle.sg_entries.proofs.Spelt.{named_tells, prints}
use Rattle.sg_entries.specs.Printed.{PrintsHistory}
use Rattle.sg_entries.specs.Entry.{shows_named}
use Rattle.sg_facts.specs.Facts.{facts_of}
use Rattle.sg_facts.specs.Limits.{most_script_calls}
use Rattle.sg_facts.specs.sg_base.Lists.{Each}
use Rattle.sg_report.specs.sg_hist.Clients.{MayBeMade}
use Rattle.sg_entries.proofs.reading.read_entries.Goals as goal

pub returns-clause-printed : goal.returns-clause-printed
returns-clause-printed c =
    let i = c.args.iface.now in
    let services = map facts_of c.args.shapes.now in
    of_read (shows_named services i) i c.args.text.now (PrintsHistory i c.args.text.now) (prints (shows_named services i) i (named_tells services i) c.args.text.now) c.history_in.result c.history_in.ensures

pub returns-clause-calls : goal.returns-clause-calls
returns-clause-calls c =
    let i = c.args.iface.now in
    let shows : List ℕ → Bool = shows_named (map facts_of c.args.shapes.now) i in
    of_read shows i c.args.text.now (Each (λ e. MayBeMade i e.call)) (calls_made shows i c.args.text.now) c.history_in.result c.history_in.ensures

pub returns-clause-few : goal.returns-clause-few
returns-clause-few c =
    let i = c.args.iface.now in
    let shows : List ℕ → Bool = shows_named (map facts_of c.args.shapes.now) i in
    of_read shows i c.args.text.now (λ h. length h ≤ most_script_calls) (entries_few shows i c.args.text.now) c.history_in.result c.history_in.ensures
