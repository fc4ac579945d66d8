-- A history is judged, and no run was made.
use Rattle.std.proofs.Common.{◌≡◌, sym, subst}
use Rattle.std.specs.Result.{IfOk}
use Rattle.sg_top.specs.Answer.{IsOutput}
use Rattle.sg_top.specs.Inside.Pieces.{IsVerified}
use Rattle.sg_top.specs.declared.command.Command.{Command}
use Rattle.sg_top.specs.declared.output.Ran.TheVariants.{Nothing}
use Rattle.sg_top.proofs.Running.{of_two}
use Rattle.sg_top.proofs.output.output_of.Goals as goal

pub returns-in-Verify : goal.returns-in-Verify
returns-in-Verify c =
    subst (λ (k : Command). IfOk c.verified.result (λ o. IsOutput k c.args.bytes.now o.ran o.status o.text)) (sym c.in-Verify.is)
    (of_two c.verified.result (λ o. o.ran ≡ Nothing) (λ o. IsVerified c.args.bytes.now o.status o.text) _ (λ o ran said. (ran, said)) c.verified.ensures.ran c.verified.ensures.said)
