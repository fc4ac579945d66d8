-- The number and its marks, and then the text as its version has it.
use Rattle.std.proofs.Common.{◌≡◌, ◌∙◌, ap, refl}
use Rattle.sg_rules.specs.sg_lex.Inside.Automata.{read}
use Rattle.sg_rules.specs.declared.version.Newer.{Newer}
use Rattle.sg_rules.specs.declared.version.Newer.TheVariants.{Second, Third}
use Rattle.sg_parse.specs.Grammar.Inside.Forms.{comma}
use Rattle.sg_parse.specs.Grammar.Inside.States.{State, due, in_newer, second_rest, third_rest, trees, versioned}
use Rattle.sg_parse.specs.Inside.{version_of}
use Rattle.sg_parse.proofs.head.newer_version.Goals as goal

-- after the comma, a text as its version has it
abbrev behind : State → State → Newer → State
behind two three version = version_of (in_newer Second two) (in_newer Second (in_newer Third three)) version

comma_due : (two three : State) (version : Newer) → version_of (second_rest two) (third_rest three) version ≡ due comma (behind two three version)
comma_due two three Second = refl
comma_due two three Third = refl

pub returns : goal.returns
returns c = λ two three.
    let v = c.in_ok-version.version in
    c.in_ok-mark.ensures.leads (versioned (second_rest two) (third_rest three))
    ∙ c.in_ok-version.ensures.leads (second_rest two) (third_rest three)
    ∙ ap (λ s. read trees s c.version.new.reader) (comma_due two three v)
    ∙ c.in_ok-mark-2.ensures.leads (behind two three v)
    ∙ c.go_on_as.ensures two three
