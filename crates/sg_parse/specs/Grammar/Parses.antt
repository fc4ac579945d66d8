-- What a parser has to answer on a text.
use Rattle.std.specs.Prelude.{◌≡◌, ℕ, List, Ok, Err, length, map}
use Rattle.std.specs.declared.result.Result.{Result}
use Rattle.sg_rules.specs.sg_lex.Lexeme.{Lexeme}
use Rattle.sg_rules.specs.sg_lex.Sentences.{Fails, IsNoToken, EndsAt}
use Rattle.sg_rules.specs.sg_lex.Tokens.{answers_of}
use Rattle.sg_rules.specs.declared.error.ParseError.{ParseError}
use Rattle.sg_rules.specs.declared.error.ParseError.TheVariants.{NoMemory, Lex, Syntax}
use Rattle.sg_parse.specs.declared.tree.Tree.{Tree}
use Rattle.sg_parse.specs.Grammar.Sentence.{IsSentence}

-- what a parser may answer on a text: the tree of the sentence that its tokens are, or the place up to which they begin one and at which none goes on; out of memory
-- may be answered at any time
abbrev pub Parses : List ℕ → Result Tree ParseError → Type 0
Parses text (Ok tree) = (tokens : List Lexeme) × (answers_of text ≡ map Ok tokens) × IsSentence tokens tree
Parses text (Err NoMemory) = Unit {0}
Parses text (Err (Lex place)) = Fails Tree IsSentence (answers_of text) (IsNoToken place)
Parses text (Err (Syntax place)) = Fails Tree IsSentence (answers_of text) (EndsAt IsSentence (length text) place)
