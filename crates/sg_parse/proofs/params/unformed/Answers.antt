-- The parameter is the declared type and name.
use Rattle.std.specs.Prelude.{None}
use Rattle.std.proofs.lemmas.Result.{err_from_is_err_and}
use Rattle.sg_parse.specs.Grammar.Inside.States.{with_param}
use Rattle.sg_parse.proofs.params.unformed.Goals as goal

pub returns-in_err-ty-clause-leads : goal.returns-in_err-ty-clause-leads
returns-in_err-ty-clause-leads c = λ params k.
    let p = err_from_is_err_and c.from_residual.result c.from_residual.ensures.1 in
    rw (p.1, p.2) (c.in_err-ty.ensures.leads (λ ty n. with_param k params ty None n))

pub returns-clause-leads : goal.returns-clause-leads
returns-clause-leads c = λ params k. c.in_ok-ty.ensures.leads (λ ty n. with_param k params ty None n)
