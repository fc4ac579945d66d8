-- No parameter so far is a text in a field.
use Rattle.std.proofs.Common.{◌≡◌, [], take}
use Rattle.std.specs.List.{filter_map}
use Rattle.sg_describe.specs.AnswerFlaws.{text_param}
use Rattle.sg_describe.proofs.flaws.first_text_param.Given as goal

abbrev pub invariant-params : goal.invariant-params
invariant-params l = filter_map text_param (take l.param-index l.params) ≡ []
