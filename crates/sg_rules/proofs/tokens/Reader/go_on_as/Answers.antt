-- The words of the one version or of the other are turned.
use Rattle.std.proofs.Common.{◌∙◌, ap, map, sym}
use Rattle.sg_lex.specs.Inside.Automata.{Reading}
use Rattle.sg_rules.specs.declared.version.Newer.TheVariants.{Second, Third}
use Rattle.sg_rules.specs.Inside.Seen.{seen_answer}
use Rattle.sg_rules.proofs.Seen.{second_turned, third_turned}
use Rattle.sg_rules.proofs.tokens.Reader.go_on_as.Goals as goal

pub returns-in-Second-clause-rest : goal.returns-in-Second-clause-rest
returns-in-Second-clause-rest c =
    second_turned c.self.inside.second c.self.inside.third c.self.inside.tokens.rest
    ∙ ap (λ (r : Reading). map (seen_answer Second) r.rest) c.self.view_is
    ∙ ap (λ v. map (seen_answer v) c.args.self.now.rest) (sym c.in-Second.is)

pub returns-in-Third-clause-rest : goal.returns-in-Third-clause-rest
returns-in-Third-clause-rest c =
    third_turned c.self.inside.second c.self.inside.third c.self.inside.tokens.rest
    ∙ ap (λ (r : Reading). map (seen_answer Third) r.rest) c.self.view_is
    ∙ ap (λ v. map (seen_answer v) c.args.self.now.rest) (sym c.in-Third.is)
