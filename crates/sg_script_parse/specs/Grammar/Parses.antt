-- What a parser has to answer on the text of a script.
use Rattle.std.specs.Prelude.{◌≡◌, ◌⊎◌, ℕ, Bool, List, Ok, Err, length, map}
use Rattle.std.specs.declared.result.Result.{Result}
use Rattle.sg_lex.specs.Lexeme.{Lexeme}
use Rattle.sg_lex.specs.Sentences.{Fails, IsNoToken, EndsAt}
use Rattle.sg_lex.specs.Tokens.{answers_of}
use Rattle.sg_script_parse.specs.declared.error.ScriptSyntax.{ScriptSyntax}
use Rattle.sg_script_parse.specs.declared.error.ScriptSyntax.TheVariants.{NoMemory, Syntax}
use Rattle.sg_script_parse.specs.declared.tree.Part.{Part}
use Rattle.sg_script_parse.specs.Grammar.Sentence.{IsScriptSentence}

-- what a parser may answer on a text, which is to be a script for several services or for one: the parts of the script that its tokens are, or the place up to which they begin one and at which none goes on; out of memory
-- may be answered at any time
abbrev pub ScriptParses : Bool → List ℕ → Result (List Part) ScriptSyntax → Type 0
ScriptParses several text (Ok parts) = (tokens : List Lexeme) × (answers_of text ≡ map Ok tokens) × IsScriptSentence several tokens parts
ScriptParses several text (Err NoMemory) = Unit {0}
ScriptParses several text (Err (Syntax place)) =
    Fails (List Part) (IsScriptSentence several) (answers_of text) (IsNoToken place)
    ⊎ Fails (List Part) (IsScriptSentence several) (answers_of text) (EndsAt (IsScriptSentence several) (length text) place)
