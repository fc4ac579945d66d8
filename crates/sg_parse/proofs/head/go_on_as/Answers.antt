-- The words of version 2 are turned, and for a text of version 3 those of version 3 too.
use Rattle.std.proofs.Common.{◌∙◌, ap, sym}
use Rattle.sg_rules.specs.sg_lex.Inside.Automata.{read}
use Rattle.sg_rules.specs.declared.version.Newer.TheVariants.{Second, Third}
use Rattle.sg_parse.specs.Grammar.Inside.States.{in_newer, trees}
use Rattle.sg_parse.specs.Inside.{version_of}
use Rattle.sg_parse.proofs.Grammar.Readings.{turned_read}
use Rattle.sg_parse.proofs.head.go_on_as.Goals as goal

pub returns-in-Second : goal.returns-in-Second
returns-in-Second c = λ two three.
    let old = c.args.reader.now in
    let new = c.go_on_as.new.self in
    ap (λ v. read trees (version_of (in_newer Second two) (in_newer Second (in_newer Third three)) v) old) c.in-Second.is
    ∙ turned_read Second two old new c.go_on_as.ensures.rest c.go_on_as.ensures.end
    ∙ ap (λ v. read trees (version_of two three v) new) (sym c.in-Second.is)

pub returns-in-Third : goal.returns-in-Third
returns-in-Third c = λ two three.
    let old = c.args.reader.now in
    let mid = c.go_on_as.new.self in
    let new = c.go_on_as-in-Third.new.self in
    ap (λ v. read trees (version_of (in_newer Second two) (in_newer Second (in_newer Third three)) v) old) c.in-Third.is
    ∙ turned_read Second (in_newer Third three) old mid c.go_on_as.ensures.rest c.go_on_as.ensures.end
    ∙ turned_read Third three mid new c.go_on_as-in-Third.ensures.rest c.go_on_as-in-Third.ensures.end
    ∙ ap (λ v. read trees (version_of two three v) new) (sym c.in-Third.is)
