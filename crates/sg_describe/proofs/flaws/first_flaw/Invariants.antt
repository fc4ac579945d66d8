-- No statement so far has the flaw.
use Rattle.std.proofs.Common.{◌≡◌, [], take}
use Rattle.std.specs.List.{filter_map}
use Rattle.sg_shape.specs.sg_facts.Facts.{facts_of}
use Rattle.sg_describe.specs.AnswerFlaws.{statement_flaw}
use Rattle.sg_describe.proofs.flaws.first_flaw.Given as goal

abbrev pub invariant-statements : goal.invariant-statements
invariant-statements l = filter_map (statement_flaw l.kind (facts_of l.shape)) (take l.statement-index l.statements) ≡ []
