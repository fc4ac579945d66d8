-- What the parser's own clauses cite beside the automaton of scripts.
pub mod Args
use Rattle.sg_lex.specs.declared.token.TokenKind.{TokenKind}
use Rattle.sg_lex.specs.Lexeme.{Lexeme, Spelling}

-- the token of a kind that is spelt so
abbrev pub spelt_token : TokenKind → Spelling → Lexeme
spelt_token kind s = record { kind = kind; bytes = s.bytes; at = s.at }
