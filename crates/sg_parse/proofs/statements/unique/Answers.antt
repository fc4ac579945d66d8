-- The fields in their brackets, and the semicolon.
use Rattle.std.proofs.Common.{◌∙◌, List, [], ◌∷◌}
use Rattle.std.proofs.lemmas.Result.{err_from_is_err_and}
use Rattle.sg_rules.specs.sg_lex.Lexeme.{Spelling as Named}
use Rattle.sg_parse.specs.declared.tree.Statement.{Statement}
use Rattle.sg_parse.specs.declared.tree.Statement.TheVariants.{Unique}
use Rattle.sg_parse.specs.declared.words.Sort.TheVariants.{Name}
use Rattle.sg_parse.specs.Grammar.Inside.Forms.{semicolon}
use Rattle.sg_parse.specs.Grammar.Inside.States.{State, due, fielded, want}
use Rattle.sg_parse.proofs.statements.unique.Goals as goal

-- after the fields, and before them
abbrev behind : (Statement → State) → List Named → State
behind go fields = due semicolon (go (Unique fields))

abbrev before : (Statement → State) → State
before go = want Name (λ first. fielded (first ∷ []) (behind go))

pub returns-in_err-fields-clause-leads : goal.returns-in_err-fields-clause-leads
returns-in_err-fields-clause-leads c = λ go.
    let p = err_from_is_err_and c.from_residual-in_err-fields.result c.from_residual-in_err-fields.ensures.1 in
    rw (p.1, p.2) (λ ne. c.in_ok-mark.ensures.leads (before go) ∙ c.in_err-fields.ensures.leads (behind go) ne)

pub returns-in_err-mark-2-clause-leads : goal.returns-in_err-mark-2-clause-leads
returns-in_err-mark-2-clause-leads c = λ go.
    let p = err_from_is_err_and c.from_residual-in_err-mark-2.result c.from_residual-in_err-mark-2.ensures.1 in
    rw (p.1, p.2) (λ ne.
    c.in_ok-mark.ensures.leads (before go)
    ∙ c.in_ok-fields.ensures.leads (behind go)
    ∙ c.in_err-mark-2.ensures.leads (go (Unique c.in_ok-fields.fields)) ne)

pub returns-clause-leads : goal.returns-clause-leads
returns-clause-leads c = λ go.
    c.in_ok-mark.ensures.leads (before go)
    ∙ c.in_ok-fields.ensures.leads (behind go)
    ∙ c.in_ok-mark-2.ensures.leads (go (Unique c.in_ok-fields.fields))
