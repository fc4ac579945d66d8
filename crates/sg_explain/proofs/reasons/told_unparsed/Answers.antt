-- A fault of the parser has a kind and a place, and nothing is told besides.
use Rattle.std.proofs.Common.{refl, subst, Err}
use Rattle.sg_input.specs.declared.refusal.RefusalKind.TheVariants.{Lex, Syntax}
use Rattle.sg_input.specs.sg_parse.Grammar.Parses.{Parses}
use Rattle.sg_explain.proofs.Refusing.{tells_at}
use Rattle.sg_explain.proofs.reasons.told_unparsed.Goals as goal

pub returns-in-Lex : goal.returns-in-Lex
returns-in-Lex c =
    tells_at c.args.text.now c.told_at.result Lex c.in-Lex.at (λ services. subst (λ e. Parses c.args.text.now (Err e)) c.in-Lex.is c.requires) (λ services. refl)
    c.told_at.ensures

pub returns-in-Syntax : goal.returns-in-Syntax
returns-in-Syntax c =
    tells_at c.args.text.now c.told_at-in-Syntax.result Syntax c.in-Syntax.at (λ services. subst (λ e. Parses c.args.text.now (Err e)) c.in-Syntax.is c.requires)
    (λ services. refl) c.told_at-in-Syntax.ensures
