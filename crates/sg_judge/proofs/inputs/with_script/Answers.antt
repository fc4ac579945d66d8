-- The input is what its script is.
use Rattle.sg_judge.proofs.AnyInputs.{script_ready, script_refused}
use Rattle.sg_judge.proofs.inputs.with_script.Goals as goal

pub returns-in-Ready : goal.returns-in-Ready
returns-in-Ready c = λ input interface services texts served.
    script_ready services input interface c.args.script.now c.args.any c.interface.result.now c.interface.ensures.same served c.in_ok-script.field-0 c.in-Ready.script texts
    c.in_ok-script.ensures c.in-Ready.is

pub returns-in-Refused : goal.returns-in-Refused
returns-in-Refused c = λ input interface services texts served.
    script_refused services input interface c.args.script.now c.args.any c.interface.result.now c.interface.ensures.same served c.in_ok-script.field-0 c.in-Refused.line texts
    c.in_ok-script.ensures c.in-Refused.is
