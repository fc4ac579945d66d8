-- The type and the name, and then the rest of the prototype.
use Rattle.std.proofs.Common.{◌∙◌}
use Rattle.std.proofs.lemmas.Result.{err_from_is_err_and}
use Rattle.sg_parse.specs.declared.tree.Ret.TheVariants.{Plain}
use Rattle.sg_parse.specs.Grammar.Inside.States.{declared, proto_rest, trees}
use Rattle.sg_rules.proofs.sg_lex.Automata.{leads_along}
use Rattle.sg_parse.proofs.statements.plain.Goals as goal

pub returns-in_err-ty-clause-leads : goal.returns-in_err-ty-clause-leads
returns-in_err-ty-clause-leads c = λ go.
    let p = err_from_is_err_and c.from_residual-in_err-ty.result c.from_residual-in_err-ty.ensures.1 in
    rw (p.1, p.2) (λ ne.
    c.in_ok-spelled.ensures.leads (declared (λ ty n. proto_rest go (Plain ty) n))
    ∙ c.in_err-ty.ensures.leads (λ ty n. proto_rest go (Plain ty) n) ne)

pub returns-clause-leads : goal.returns-clause-leads
returns-clause-leads c = λ go.
    leads_along trees _ _ c.proto.result go c.proto.new.reader
    (c.in_ok-spelled.ensures.leads (declared (λ ty n. proto_rest go (Plain ty) n))
    ∙ c.in_ok-ty.ensures.leads (λ ty n. proto_rest go (Plain ty) n))
    (c.proto.ensures.leads go)
