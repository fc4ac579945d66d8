-- The lexer's fault is an error from each state.
use Rattle.std.proofs.Common.{◌∙◌, ap, sym}
use Rattle.std.specs.Prelude.{Err}
use Rattle.sg_rules.specs.Grammar.Inside.States.{take}
use Rattle.sg_rules.proofs.ByToken.{no_token_came}
use Rattle.sg_rules.proofs.reader.take_wanted.Goals as goal

pub returns-in-Err-clause-leads : goal.returns-in-Err-clause-leads
returns-in-Err-clause-leads c = λ k other ne.
    no_token_came (take c.args.what k other) c.args.reader.now c.in-Err.fault c.take.new.self.rest c.in-Err.ensures.fault ∙ ap Err (sym c.fault_error.ensures)
