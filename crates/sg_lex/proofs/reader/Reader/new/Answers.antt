-- A lexer answers no more often than the text has bytes.
use Rattle.std.proofs.Common.{◌≤◌, List, length, sym, subst}
use Rattle.sg_lex.specs.Tokens.{Answer}
use Rattle.sg_lex.proofs.Lengths.{answers_fit}
use Rattle.sg_lex.proofs.reader.Reader.new.Goals as goal

pub invariant_of-result : goal.invariant_of-result
invariant_of-result c =
    subst (λ (v : List Answer). length v ≤ length c.args.text.now) (sym c.new.ensures) (answers_fit c.args.text.now)
