-- What the parser's own clauses cite beside the automaton of trees.
use Rattle.std.specs.Prelude.{ℕ, Bool, true, false, None, Some}
use Rattle.std.specs.declared.option.Option.{Option}
use Rattle.sg_rules.specs.sg_lex.declared.token.TokenKind.TheVariants.{Word, Number}
use Rattle.sg_rules.specs.sg_lex.Lexeme.{Lexeme, Spelling}
use Rattle.sg_rules.specs.declared.version.Newer.{Newer}
use Rattle.sg_rules.specs.declared.version.Newer.TheVariants.{Second, Third}
use Rattle.sg_parse.specs.Grammar.Inside.States.{State}

-- the word that is a name
abbrev pub named_token : Spelling → Lexeme
named_token n = record { kind = Word; bytes = n.bytes; at = n.at }

-- the number that is spelt so
abbrev pub number_token : Spelling → Lexeme
number_token n = record { kind = Number; bytes = n.bytes; at = n.at }

-- the state after a form that may have come
abbrev pub either_of : (Spelling → State) → State → Option Spelling → State
either_of k s None = s
either_of k s (Some form) = k form

-- the state after a word that may have come, or else the other
abbrev pub one_of : State → State → Bool → State
one_of s other true = s
one_of s other false = other

-- the state after the number of a version
abbrev pub version_of : State → State → Newer → State
version_of two three Second = two
version_of two three Third = three

-- the number of a version after the first
abbrev pub number_of : Newer → ℕ
number_of Second = 2
number_of Third = 3
