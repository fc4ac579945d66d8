-- The line is printed by the facts of the member's service, and not where there is none.
use Rattle.std.proofs.Common.{◌≡◌, ◌++◌, OnOk, List, ℕ, sym, ◌∙◌, ap, subst, append-nil}
use Rattle.sg_facts.specs.Facts.{Facts}
use Rattle.sg_report.specs.sg_hist.Lent.{entry_in}
use Rattle.sg_report.specs.Report.{entry_line}
use Rattle.sg_multi.specs.Report.{under_number}
use Rattle.sg_multi.proofs.PrintedMembers.{by_none, by_there}
use Rattle.sg_multi.proofs.merged.push_numbered.Goals as goal

pub returns-in-Some : goal.returns-in-Some
returns-in-Some c =
    let print : Facts → List ℕ = λ facts. entry_line facts (under_number c.args.number (entry_in c.args.entry.now)) in
    subst (λ l. OnOk c.push_entry.result (c.push_entry.new.out ≡ c.args.out.now ++ l))
    (ap (λ i. print i.facts) c.interface.ensures.same ∙ sym (by_there c.args.services.now c.args.member c.in-Some.service.now print c.in-Some.ensures)) c.push_entry.ensures

pub returns-in-None : goal.returns-in-None
returns-in-None c =
    let print : Facts → List ℕ = λ facts. entry_line facts (under_number c.args.number (entry_in c.args.entry.now)) in
    sym (append-nil c.args.out.now) ∙ ap (λ l. c.args.out.now ++ l) (sym (by_none c.args.services.now c.args.member print c.in-None.ensures))
