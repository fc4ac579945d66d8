-- An input that is ready is so with the service of its interface, and its history may be judged.
use Rattle.std.proofs.Common.{map, subst}
use Rattle.sg_multi.specs.sg_facts.Facts.{facts_of}
use Rattle.sg_judge.specs.sg_input.Judged.{MayBeJudged}
use Rattle.sg_judge.specs.sg_input.declared.read.Read.TheVariants.{Refused}
use Rattle.sg_judge.specs.AnyInputs.{IsAnyRunInputOf, IsRunReadyAs, interfaces_in}
use Rattle.sg_top.specs.Answer.{services}
use Rattle.sg_top.proofs.ready.ready_run.Goals as goal

pub served_of-served-requires : goal.served_of-served-requires
served_of-served-requires c =
    let ready : IsRunReadyAs services c.args.bytes.now c.in-Ready.any c.in-Ready.history.items =
    subst (λ known. IsRunReadyAs known c.args.bytes.now c.in-Ready.any c.in-Ready.history.items) c.shapes.ensures.facts
    (subst (IsAnyRunInputOf (map facts_of c.shapes.result) c.args.bytes.now) c.in-Ready.is c.in_ok-any.ensures.input) in
    (ready.ready.interface, ready.served)

pub returns-in-Ready : goal.returns-in-Ready
returns-in-Ready c =
    let ready : IsRunReadyAs services c.args.bytes.now c.in-Ready.any c.in-Ready.history.items =
    subst (λ known. IsRunReadyAs known c.args.bytes.now c.in-Ready.any c.in-Ready.history.items) c.shapes.ensures.facts
    (subst (IsAnyRunInputOf (map facts_of c.shapes.result) c.args.bytes.now) c.in-Ready.is c.in_ok-any.ensures.input) in
    record {
      ready = ready.ready;
      served = c.served_of-served.ensures ready.ready.interface ready.served;
      may = subst (λ made. MayBeJudged (interfaces_in made)) c.in-Ready.is c.in_ok-any.ensures.may;
    }

pub returns-in-Refused : goal.returns-in-Refused
returns-in-Refused c =
    subst (λ known. IsAnyRunInputOf known c.args.bytes.now (Refused c.in-Refused.line)) c.shapes.ensures.facts
    (subst (IsAnyRunInputOf (map facts_of c.shapes.result) c.args.bytes.now) c.in-Refused.is c.in_ok-any.ensures.input)
