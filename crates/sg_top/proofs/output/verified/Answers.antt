-- A history that an input prints is judged.
use Rattle.std.proofs.Common.{◌∙◌, ap, inr, subst}
use Rattle.sg_multi.specs.sg_facts.Interface.{Declared}
use Rattle.sg_verify.specs.Lines.{verdict_line_of}
use Rattle.sg_verify.specs.Verdicts.{IsVerdictOf}
use Rattle.sg_multi.specs.Serving.{answering_at}
use Rattle.sg_top.proofs.Judging.{judged_output, may_judge, refused_run}
use Rattle.sg_top.proofs.Running.{of_three}
use Rattle.sg_top.proofs.output.verified.Goals as goal

pub verify_served-requires : goal.verify_served-requires
verify_served-requires c = may_judge c.args.bytes.now c.in-Ready.field-0.served c.in-Ready.field-0.accepted c.in-Ready.field-0.history c.in_ok-served.field-0 c.in-Ready.is c.in_ok-served.ensures c.in_ok-tables-in-Ready.tables.iface c.in_ok-tables-in-Ready.ensures.iface

pub returns-in_ok-said-in-Ready-clause-said : goal.returns-in_ok-said-in-Ready-clause-said
returns-in_ok-said-in-Ready-clause-said c =
    of_three c.judged.result _ _ _ _
    (λ o ran status line.
    judged_output c.args.bytes.now c.in-Ready.field-0.served c.in-Ready.field-0.accepted c.in-Ready.field-0.history c.in_ok-served.field-0 c.in-Ready.is c.in_ok-served.ensures
    c.in_ok-said-in-Ready.said o.status o.text
    (subst (λ i. IsVerdictOf i (answering_at c.in-Ready.field-0.served).ask c.in-Ready.field-0.history.items c.in_ok-said-in-Ready.said) c.in_ok-tables-in-Ready.ensures.iface
    c.in_ok-said-in-Ready.ensures.is)
    status
    (line ∙ ap (λ (i : Declared). verdict_line_of i.facts c.in-Ready.field-0.history.items c.in_ok-said-in-Ready.said) c.interface.ensures.same))
    c.judged.ensures.ran c.judged.ensures.status c.judged.ensures.line

pub returns-in-Refused-clause-said : goal.returns-in-Refused-clause-said
returns-in-Refused-clause-said c =
    inr (c.refusing.ensures.status, refused_run c.args.bytes.now c.in-Refused.line c.refusing.result.text c.in_ok-served.field-0 c.in-Refused.is c.refusing.ensures.line c.in_ok-served.ensures)
