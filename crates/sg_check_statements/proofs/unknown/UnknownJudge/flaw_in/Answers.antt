-- Name by name.
use Rattle.std.proofs.Common.{sym, ◌∙◌, ap}
use Rattle.sg_facts.specs.Facts.{facts_of}
use Rattle.sg_check_statements.specs.Inside.Pieces.{unknown}
use Rattle.sg_check_statements.proofs.Sets.{two_names}
use Rattle.sg_check_statements.proofs.unknown.UnknownJudge.flaw_in.Goals as goal

pub returns-in-One : goal.returns-in-One
returns-in-One c = c.bare.ensures ∙ ap (unknown (facts_of c.args.self.now.shape.now) c.args.self.now.protos.now) (sym c.in-One.is)

pub returns-in-Two : goal.returns-in-Two
returns-in-Two c = two_names (facts_of c.args.self.now.shape.now) c.args.self.now.protos.now c.args.statement.now c.in-Two.word c.in-Two.first c.in-Two.second
    c.word.inside.slice.now c.word.inside.at c.or.result c.bare-in-Two.result c.bare_second.result
    c.or.ensures c.bare-in-Two.ensures c.bare_second.ensures c.word.view_is c.in-Two.is
