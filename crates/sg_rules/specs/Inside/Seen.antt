-- Tokens as a text of their version has them.
use Rattle.std.specs.Prelude.{ℕ, Bool, true, false, if◌then◌else◌, List, map, Ok, Err}
use Rattle.sg_lex.specs.declared.token.TokenKind.{TokenKind}
use Rattle.sg_lex.specs.declared.token.TokenKind.TheVariants.{Word, Mark}
use Rattle.sg_lex.specs.Lexeme.{Lexeme}
use Rattle.sg_lex.specs.Tokens.{Answer}
use Rattle.sg_rules.specs.declared.version.Newer.{Newer}
use Rattle.sg_rules.specs.declared.version.Newer.TheVariants.{Second, Third}
use Rattle.sg_rules.specs.Versions.{is_kept, seen}

-- the other kind of a kept word: it's a mark in a text of the version, and a word in one of an earlier version
abbrev pub turned : TokenKind → TokenKind
turned Word = Mark
turned Mark = Word
turned kind = kind

-- the kind of a token of these bytes in a text of a version
abbrev pub kind_seen : Newer → List ℕ → TokenKind → TokenKind
kind_seen version bytes kind = if is_kept version bytes then turned kind else kind

-- a token as a text of a version has it, where the flag says that it's of the version
abbrev pub seen_if : Bool → Newer → Lexeme → Lexeme
seen_if true version token = seen version token
seen_if false version token = token

-- a token as a text has it, where the flags say of which versions it is
abbrev pub token_seen : Bool → Bool → Lexeme → Lexeme
token_seen second third token = seen_if third Third (seen_if second Second token)

-- an answer of the lexer, as a text of a version has it
abbrev pub seen_answer : Newer → Answer → Answer
seen_answer version (Ok token) = Ok (seen version token)
seen_answer version (Err fault) = Err fault

-- what the lexer answers, as a text of a version has it, where the flag says that it's of the version
abbrev pub answers_if : Bool → Newer → List Answer → List Answer
answers_if true version answers = map (seen_answer version) answers
answers_if false version answers = answers

-- what the lexer answers, as a text has it, where the flags say of which versions it is
abbrev pub answers_seen : Bool → Bool → List Answer → List Answer
answers_seen second third answers = answers_if third Third (answers_if second Second answers)
