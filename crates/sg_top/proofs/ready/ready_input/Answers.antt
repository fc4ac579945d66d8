-- An input that is ready is so with the service of its interface.
use Rattle.std.proofs.Common.{map, subst}
use Rattle.sg_multi.specs.sg_facts.Facts.{facts_of}
use Rattle.sg_judge.specs.sg_input.declared.read.Read.TheVariants.{Refused}
use Rattle.sg_judge.specs.AnyInputs.{IsAnyInputOf, IsReadyAs}
use Rattle.sg_top.specs.Answer.{services}
use Rattle.sg_top.proofs.ready.ready_input.Goals as goal

pub served_of-served-requires : goal.served_of-served-requires
served_of-served-requires c =
    let ready : IsReadyAs services c.args.bytes.now c.in-Ready.any c.in-Ready.script =
    subst (λ known. IsReadyAs known c.args.bytes.now c.in-Ready.any c.in-Ready.script) c.shapes.ensures.facts
    (subst (IsAnyInputOf (map facts_of c.shapes.result) c.args.bytes.now) c.in-Ready.is c.in_ok-any.ensures.input) in
    (ready.ready.interface, ready.served)

pub returns-in-Ready : goal.returns-in-Ready
returns-in-Ready c =
    let ready : IsReadyAs services c.args.bytes.now c.in-Ready.any c.in-Ready.script =
    subst (λ known. IsReadyAs known c.args.bytes.now c.in-Ready.any c.in-Ready.script) c.shapes.ensures.facts
    (subst (IsAnyInputOf (map facts_of c.shapes.result) c.args.bytes.now) c.in-Ready.is c.in_ok-any.ensures.input) in
    record { ready = ready.ready; served = c.served_of-served.ensures ready.ready.interface ready.served }

pub returns-in-Refused : goal.returns-in-Refused
returns-in-Refused c =
    subst (λ known. IsAnyInputOf known c.args.bytes.now (Refused c.in-Refused.line)) c.shapes.ensures.facts
    (subst (IsAnyInputOf (map facts_of c.shapes.result) c.args.bytes.now) c.in-Refused.is c.in_ok-any.ensures.input)
