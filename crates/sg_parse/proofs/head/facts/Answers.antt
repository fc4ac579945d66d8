-- What a text begins with, and then its facts by its version.
use Rattle.std.proofs.Common.{◌∙◌, [], ap}
use Rattle.std.specs.Prelude.{codes}
use Rattle.std.proofs.lemmas.Result.{err_from_is_err_and}
use Rattle.sg_rules.specs.sg_lex.Inside.Automata.{read}
use Rattle.sg_rules.proofs.sg_lex.Automata.{leads_along}
use Rattle.sg_parse.specs.Grammar.Inside.States.{State, first_end, fork, head0, newer_end, newer_rest, statements, trees}
use Rattle.sg_parse.specs.Inside.{one_of}
use Rattle.sg_parse.proofs.head.facts.Goals as goal

-- before the rest of the head of a text of version 2 or 3, and of version 1
abbrev newer : State
newer = newer_rest (head0 (newer_end 2)) (head0 (newer_end 3))

abbrev first : State
first = head0 first_end

pub returns-in_err-forked : goal.returns-in_err-forked
returns-in_err-forked c =
    let p = err_from_is_err_and c.from_residual-in_err-forked.result c.from_residual-in_err-forked.ensures.1 in
    rw (p.1, p.2) (λ ne.
    c.in_ok-opening.ensures (fork (codes "version") newer first)
    ∙ c.in_err-forked.ensures.leads newer first ne)

pub returns-then-branch : goal.returns-then-branch
returns-then-branch c =
    leads_along trees _ _ c.newer_facts.result (λ facts. statements facts []) c.newer_facts.new.reader
    (c.in_ok-opening.ensures (fork (codes "version") newer first)
    ∙ c.in_ok-forked.ensures.leads newer first
    ∙ ap (λ b. read trees (one_of newer first b) c.forked.new.reader) c.if-branch.true)
    c.newer_facts.ensures

pub returns-else-branch : goal.returns-else-branch
returns-else-branch c =
    leads_along trees _ _ c.first_facts.result (λ facts. statements facts []) c.first_facts.new.reader
    (c.in_ok-opening.ensures (fork (codes "version") newer first)
    ∙ c.in_ok-forked.ensures.leads newer first
    ∙ ap (λ b. read trees (one_of newer first b) c.forked.new.reader) c.if-branch.false)
    c.first_facts.ensures
