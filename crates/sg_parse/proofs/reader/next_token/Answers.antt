-- The lexer's fault is an error from each state.
use Rattle.std.proofs.Common.{rules}
use Rattle.sg_parse.proofs.ByToken.{no_token_told}
use Rattle.sg_parse.proofs.reader.next_token.Goals as goal

pub returns-clause-fault : goal.returns-clause-fault
returns-clause-fault c =
    no_token_told c.args.reader.now c.next.new.self.rest c.next.result c.map_err.result _ (λ fault error p. search rules) c.next.ensures.fault c.map_err.ensures.cases
