-- The input is what its script is.
use Rattle.std.proofs.Common.{◌∙◌, ap}
use Rattle.sg_judge.specs.AnyInputs.{interfaces_of}
use Rattle.sg_judge.proofs.AnyInputs.{multi_ready, multi_refused}
use Rattle.sg_judge.proofs.members.with_script.Goals as goal

pub returns-in-Ready : goal.returns-in-Ready
returns-in-Ready c = λ input texts services divided are.
    multi_ready services input texts c.args.script.now c.args.members c.as_slice-2.result.now (c.as_slice-2.ensures ∙ c.in_ok-interfaces.ensures ∙ ap interfaces_of c.as_slice.ensures) are c.in_ok-script.field-0
    c.in-Ready.script divided c.in_ok-script.ensures c.in-Ready.is

pub returns-in-Refused : goal.returns-in-Refused
returns-in-Refused c = λ input texts services divided are.
    multi_refused services input texts c.args.script.now c.args.members c.as_slice-2.result.now (c.as_slice-2.ensures ∙ c.in_ok-interfaces.ensures ∙ ap interfaces_of c.as_slice.ensures) are c.in_ok-script.field-0
    c.in-Refused.line divided c.in_ok-script.ensures c.in-Refused.is
