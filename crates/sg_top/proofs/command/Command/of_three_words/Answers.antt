-- A name that no service has says nothing.
use Rattle.std.proofs.Common.{◌∙◌, subst, sym}
use Rattle.std.specs.Prelude.{MatchOption}
use Rattle.sg_top.specs.declared.command.Command.{Command}
use Rattle.sg_top.specs.Inside.Words.{IsLoadOf}
use Rattle.sg_top.proofs.Commands.{no_service}
use Rattle.sg_top.proofs.command.Command.of_three_words.Goals as goal

pub returns-in_err-service : goal.returns-in_err-service
returns-in_err-service c =
    subst (λ o. MatchOption o ((command : Command) → IsLoadOf c.args.word.now c.args.name.now c.args.digits.now command → ⊥) (IsLoadOf c.args.word.now c.args.name.now c.args.digits.now))
    (sym c.from_residual.ensures)
    (no_service c.args.word.now c.args.name.now c.args.digits.now (λ kind is. c.in_err-service.ensures kind (c.as_bytes.ensures.value ∙ is)))
