-- No statement so far says something a second time.
use Rattle.std.proofs.Common.{◌≡◌, [], drop, take}
use Rattle.sg_describe.specs.AnswerFlaws.{repeat_place}
use Rattle.sg_describe.proofs.flaws.repeat_place.Given as goal

abbrev pub invariant-statements : goal.invariant-statements
invariant-statements l = repeat_place l.kind (take l.number l.statements) (drop l.number l.statements) ≡ repeat_place l.kind [] l.statements
