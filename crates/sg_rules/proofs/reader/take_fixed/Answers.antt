-- The lexer's fault is an error from each state.
use Rattle.std.proofs.Common.{◌∙◌, ap, sym}
use Rattle.std.specs.Prelude.{Err}
use Rattle.sg_rules.proofs.ByToken.{no_token_came}
use Rattle.sg_rules.proofs.reader.take_fixed.Goals as goal

pub returns-in-Err-clause-fault : goal.returns-in-Err-clause-fault
returns-in-Err-clause-fault c = λ s.
    no_token_came s c.args.reader.now c.in-Err.fault c.take.new.self.rest c.in-Err.ensures.fault ∙ ap Err (sym c.fault_error.ensures)
