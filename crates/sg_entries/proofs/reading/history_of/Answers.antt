-- One entry more is read, or the first flaw is found.
use Rattle.std.proofs.Common.{ℕ, ◌+◌, Bool, List, [], map, sym, ap, subst}
use Rattle.sg_entries.proofs.Halves.{IsReadUpTo, goes_on, none_read, stops}
use Rattle.sg_entries.proofs.Made.{passed}
use Rattle.sg_entries.proofs.Outlines.{stops_early}
use Rattle.sg_entries.specs.Reads.{IsReadOf, entries_read}
use Rattle.sg_entries.specs.Entry.{shows_named}
use Rattle.sg_facts.specs.Facts.{facts_of}
use Rattle.sg_entries.proofs.reading.history_of.Goals as goal

pub lines-init : goal.lines-init
lines-init c =
    let i = c.args.iface.now in
    let shows : List ℕ → Bool = shows_named (map facts_of c.args.shapes.now) i in
    let text = c.args.text.now in
    subst (IsReadUpTo shows i text c.new-lines.result) (sym c.new-history.ensures) (subst (λ l. IsReadUpTo shows i text l []) (sym c.new-lines.ensures) (none_read shows i text))

pub returns-in_err-entry : goal.returns-in_err-entry
returns-in_err-entry c =
    let i = c.args.iface.now in
    let shows : List ℕ → Bool = shows_named (map facts_of c.args.shapes.now) i in
    let text = c.args.text.now in
    let r = subst (λ l. IsReadUpTo shows i text l c.lines.history.items) c.in-Some.ensures.0 c.lines.invariant in
    passed (λ r. IsReadOf shows i text (entries_read r)) c.from_residual-in_err-entry.result c.in_err-entry.field-0.0 c.from_residual-in_err-entry.ensures.1
    (stops shows i text c.in-Some.line c.next.new.self c.lines.history.items (c.len.result + 1) c.in_ok-written.written c.in_err-entry.field-0.0 r c.in_ok-written.ensures
    (ap (λ n. n + 1) c.len.ensures) c.requires c.in_err-entry.ensures)

pub lines-preserved-in_ok-push : goal.lines-preserved-in_ok-push
lines-preserved-in_ok-push c =
    let i = c.args.iface.now in
    let shows : List ℕ → Bool = shows_named (map facts_of c.args.shapes.now) i in
    let text = c.args.text.now in
    let r = subst (λ l. IsReadUpTo shows i text l c.lines.history.items) c.in-Some.ensures.0 c.lines.invariant in
    goes_on shows i text c.in-Some.line c.next.new.self c.lines.history.items c.push.new.self.items (c.len.result + 1) c.in_ok-written.written c.in_ok-entry.entry r c.in_ok-written.ensures
    (ap (λ n. n + 1) c.len.ensures) c.in_ok-entry.ensures c.in_ok-push.ensures.ok

pub lines-preserved : goal.lines-preserved
lines-preserved c =
    let i = c.args.iface.now in
    let shows : List ℕ → Bool = shows_named (map facts_of c.args.shapes.now) i in
    let text = c.args.text.now in
    let r = subst (λ l. IsReadUpTo shows i text l c.lines.history.items) c.in-Some.ensures.0 c.lines.invariant in
    goes_on shows i text c.in-Some.line c.next.new.self c.lines.history.items c.push.new.self.items (c.len.result + 1) c.in_ok-written.written c.in_ok-entry.entry r c.in_ok-written.ensures
    (ap (λ n. n + 1) c.len.ensures) c.in_ok-entry.ensures c.in_ok-push.ensures.ok

pub returns-in_err-check_outline_in : goal.returns-in_err-check_outline_in
returns-in_err-check_outline_in c =
    let i = c.args.iface.now in
    let shows : List ℕ → Bool = shows_named (map facts_of c.args.shapes.now) i in
    let text = c.args.text.now in
    let r = subst (λ l. IsReadUpTo shows i text l c.lines.history.items) c.in-Some.ensures.0 c.lines.invariant in
    passed (λ r. IsReadOf shows i text (entries_read r)) c.from_residual-in_err-check_outline_in.result c.in_err-check_outline_in.field-0.0 c.from_residual-in_err-check_outline_in.ensures.1
    (stops_early shows i text c.in-Some.line c.next.new.self c.lines.history.items c.in_ok-outline.outline c.in_err-check_outline_in.field-0.0 r c.in_ok-outline.ensures
    c.requires c.in_err-check_outline_in.ensures)

-- a line's outline and its entry are parsed by the functions that show their bytes
pub check_outline_in-requires-clause-parsed : goal.check_outline_in-requires-clause-parsed
check_outline_in-requires-clause-parsed c = (shows_named (map facts_of c.args.shapes.now) c.args.iface.now, c.in_ok-outline.ensures)

pub entry_in-requires-clause-parsed : goal.entry_in-requires-clause-parsed
entry_in-requires-clause-parsed c = (shows_named (map facts_of c.args.shapes.now) c.args.iface.now, c.in_ok-written.ensures)
