-- The call is printed by the facts of the member's service, and not where there is none.
use Rattle.std.proofs.Common.{◌≡◌, ◌++◌, OnOk, List, ℕ, sym, ◌∙◌, ap, subst, append-nil}
use Rattle.sg_facts.specs.Facts.{Facts}
use Rattle.sg_report.specs.Report.{call_text}
use Rattle.sg_multi.proofs.PrintedMembers.{by_none, by_there}
use Rattle.sg_multi.proofs.report.push_call_of.Goals as goal

pub returns-in-Some : goal.returns-in-Some
returns-in-Some c =
    let print : Facts → List ℕ = λ facts. call_text facts c.args.call.now in
    subst (λ l. OnOk c.push_call.result (c.push_call.new.out ≡ c.args.out.now ++ l))
    (ap (λ call. call_text c.interface.result.now.facts call) c.of.ensures ∙ ap (λ i. print i.facts) c.interface.ensures.same
    ∙ sym (by_there c.args.services.now c.args.member c.in-Some.service.now print c.in-Some.ensures)) c.push_call.ensures

pub returns-in-None : goal.returns-in-None
returns-in-None c =
    let print : Facts → List ℕ = λ facts. call_text facts c.args.call.now in
    sym (append-nil c.args.out.now) ∙ ap (λ l. c.args.out.now ++ l) (sym (by_none c.args.services.now c.args.member print c.in-None.ensures))
