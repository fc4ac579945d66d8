-- A form comes after the type.
use Rattle.std.proofs.Common.{◌∙◌, ap}
use Rattle.std.specs.Prelude.{None, Some}
use Rattle.sg_parse.specs.declared.words.Sort.TheVariants.{Name}
use Rattle.sg_rules.specs.sg_lex.Lexeme.{Spelling as Named}
use Rattle.sg_parse.specs.Grammar.Inside.Forms.{open_bracket, close_bracket}
use Rattle.sg_parse.specs.Grammar.Inside.States.{due, want, declared, with_param, type_of, trees}
use Rattle.sg_rules.specs.sg_lex.Inside.Automata.{read}
use Rattle.sg_parse.specs.Inside.{either_of}
use Rattle.sg_rules.proofs.sg_lex.Automata.{leads_along}
use Rattle.sg_parse.proofs.params.after_type.Goals as goal

pub returns-in-Some-clause-leads : goal.returns-in-Some-clause-leads
returns-in-Some-clause-leads c = λ params k.
    let s = c.args.spelled in
    let with_form = λ (form : Named). due open_bracket (want Name (λ n. due close_bracket (with_param k params (type_of s.front s.last s.stars) (Some form) n))) in
    let without = declared (λ ty n. with_param k params ty None n) s.front s.last s.stars in
    leads_along trees _ _ c.formed.result _ c.formed.new.reader
    (c.in_ok-form.ensures.leads with_form without
    ∙ ap (λ o. read trees (either_of with_form without o) c.form.new.reader) c.in-Some.is)
    (c.formed.ensures.leads params k)
