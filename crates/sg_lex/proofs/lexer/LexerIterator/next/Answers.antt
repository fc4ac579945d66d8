use Rattle.std.proofs.Common.{◌+◌, length, drop, ◌∷◌, sym, ap, ◌∙◌, rules, Ok}
use Rattle.sg_lex.specs.Tokens.{later_answers}
use Rattle.sg_lex.proofs.Steps.{token_answered}
use Rattle.sg_lex.proofs.lexer.LexerIterator.next.Goals as goal

pub returns-in-Token-clause-steps : goal.returns-in-Token-clause-steps
returns-in-Token-clause-steps c =
    let at = c.after_gaps-at.result.0 in
    let text = c.self.inside.text.now in
    sym c.self.view_is ∙ (sym c.after_gaps-at.ensures.answers
    ∙ (token_answered at c.in-Token.len c.in-Token.kind text (sym c.in-Token.is ∙ c.after_gaps-at.ensures.front)
    ∙ ap (λ token. Ok token ∷ later_answers 0 (at + c.in-Token.len) (drop (at + c.in-Token.len) text)) (sym c.token_at.ensures)))

pub returns-in-Token-clause-goes : goal.returns-in-Token-clause-goes
returns-in-Token-clause-goes c =
    let fewer = ap length (returns-in-Token-clause-steps c) in
    search (rules, fewer)
