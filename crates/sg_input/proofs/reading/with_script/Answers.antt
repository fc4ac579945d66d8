-- The input is what its script is.
use Rattle.sg_input.specs.Inputs.{IsScriptOf, judged_by, most_script}
use Rattle.sg_input.proofs.ReadAs.{read_as, refused_second}
use Rattle.sg_input.proofs.reading.with_script.Goals as goal

pub returns-in-Ready : goal.returns-in-Ready
returns-in-Ready c = λ input interface services texts accepted.
    read_as most_script IsScriptOf (judged_by services) input interface c.args.script.now c.args.accepted c.interface.result.now c.in_ok-script.field-0 texts accepted
    c.interface.ensures.same c.in_ok-script.ensures c.in-Ready.script c.in-Ready.is

pub returns-in-Refused : goal.returns-in-Refused
returns-in-Refused c = λ input interface services texts accepted.
    refused_second most_script IsScriptOf (judged_by services) input interface c.args.script.now c.args.accepted c.interface.result.now c.in_ok-script.field-0 texts accepted
    c.interface.ensures.same c.in_ok-script.ensures c.in-Refused.line c.in-Refused.is
