-- By cases on the service.
use Rattle.std.proofs.Common.{sym, subst}
use Rattle.sg_multi.specs.Serving.{IsFit, answering_at}
use Rattle.sg_top.proofs.dispatch.at_served.Goals as goal

pub at_service-requires : goal.at_service-requires
at_service-requires g c = subst (λ s. g.J.Job.asks c.args.job (answering_at s)) c.in-BuiltIn.is c.requires.asks

pub at_own-requires-clause-safe : goal.at_own-requires-clause-safe
at_own-requires-clause-safe g c = subst IsFit c.in-Own.is c.requires.fit

pub at_own-requires-clause-asks : goal.at_own-requires-clause-asks
at_own-requires-clause-asks g c = subst (λ s. g.J.Job.asks c.args.job (answering_at s)) c.in-Own.is c.requires.asks

pub returns-in-BuiltIn : goal.returns-in-BuiltIn
returns-in-BuiltIn g c = subst (λ s. g.J.Job.gives c.args.job (answering_at s) c.at_service.result) (sym c.in-BuiltIn.is) c.at_service.ensures

pub returns-in-Own : goal.returns-in-Own
returns-in-Own g c = subst (λ s. g.J.Job.gives c.args.job (answering_at s) c.at_own.result) (sym c.in-Own.is) c.at_own.ensures
