-- What is read on a text is the one answer that a parser may give, out of memory aside.
use Rattle.std.proofs.Common.{◌≡◌, ◌≢◌, ◌⊎◌, ℕ, inl, inr, Bool, false, List, [], ◌∷◌, map, refl, sym, ap, subst, ◌∙◌}
use Rattle.std.specs.Prelude.{None, Some, Ok, Err}
use Rattle.std.specs.Option.{option_map_or}
use Rattle.std.specs.declared.option.Option.{Option}
use Rattle.std.specs.declared.result.Result.{Result}
use Rattle.sg_lex.specs.Lexeme.{Lexeme}
use Rattle.sg_lex.specs.Sentences.{Fails, IsNoToken, EndsAt}
use Rattle.sg_lex.specs.Tokens.{Answer}
use Rattle.sg_lex.specs.Inside.Automata.{read_from}
use Rattle.sg_lex.proofs.Automata.{reads_no_other}
use Rattle.sg_lex.proofs.Answers.{may_answer as any_may, only_value, only_byte, only_token}
use Rattle.sg_script_parse.specs.declared.error.ScriptSyntax.{ScriptSyntax}
use Rattle.sg_script_parse.specs.declared.error.ScriptSyntax.TheVariants.{NoMemory, Syntax}
use Rattle.sg_script_parse.specs.declared.tree.Part.{Part}
use Rattle.sg_script_parse.specs.Grammar.Sentence.{IsScriptSentence}
use Rattle.sg_script_parse.specs.Grammar.Inside.States.{ScriptState, script_start, scripts, scripts_for, step}
use Rattle.sg_script_parse.proofs.Grammar.Runs.{just}

-- what may be answered where a lexer answers so on a text of that length, which is to be a script for several services or for one
abbrev pub ScriptParsesTo : Bool → List Answer → ℕ → Result (List Part) ScriptSyntax → Type 0
ScriptParsesTo several answers end (Ok parts) = (tokens : List Lexeme) × (answers ≡ map Ok tokens) × IsScriptSentence several tokens parts
ScriptParsesTo several answers end (Err NoMemory) = Unit {0}
ScriptParsesTo several answers end (Err (Syntax place)) =
    Fails (List Part) (IsScriptSentence several) answers (IsNoToken place) ⊎ Fails (List Part) (IsScriptSentence several) answers (EndsAt (IsScriptSentence several) end place)

-- how reading goes on doesn't depend on where the automaton starts
same_reading : (several : Bool) (end : ℕ) (s : ScriptState) (answers : List Answer) → read_from (scripts_for several) end s answers ≡ read_from scripts end s answers
unfolding read_from
same_reading several end s [] = refl
same_reading several end s (Err fault ∷ behind) = refl
same_reading several end s (Ok token ∷ behind) = by (step s token) (λ next. same_reading several end next behind)
  where
    by : (o : Option ScriptState) → ((next : ScriptState) → read_from (scripts_for several) end next behind ≡ read_from scripts end next behind)
        → option_map_or (λ next. read_from (scripts_for several) end next behind) o (Err (Syntax token.at))
        ≡ option_map_or (λ next. read_from scripts end next behind) o (Err (Syntax token.at))
    by None more = refl
    by (Some next) more = more next

pub may_answer : (several : Bool) (length : ℕ) (answers : List Answer) → ScriptParsesTo several answers length (read_from scripts length (script_start several) answers)
may_answer several length answers =
    subst (ScriptParsesTo several answers length) (same_reading several length (script_start several) answers)
    (any_may (scripts_for several) (IsScriptSentence several) (just several) answers length (ScriptParsesTo several answers length) (record {
      value = λ parts f. f;
      byte = λ place f. inl f;
      token = λ place f. inr f;
    }))

pub only_answer : (several : Bool) (length : ℕ) (answers : List Answer) (other : Result (List Part) ScriptSyntax) → ScriptParsesTo several answers length other → other ≢ Err NoMemory
    → read_from scripts length (script_start several) answers ≡ other
only_answer several length answers other h n = sym (same_reading several length (script_start several) answers) ∙ by other h n
  where
    by : (other : Result (List Part) ScriptSyntax) → ScriptParsesTo several answers length other → other ≢ Err NoMemory
        → read_from (scripts_for several) length (script_start several) answers ≡ other
    by (Ok parts) h n = only_value (scripts_for several) (IsScriptSentence several) (just several) answers length parts h
    by (Err NoMemory) h n = absurd (n refl)
    by (Err (Syntax place)) h n =
        elim h [
          | inl f ↦ only_byte (scripts_for several) (IsScriptSentence several) (just several) answers length place f
          | inr f ↦ only_token (scripts_for several) (IsScriptSentence several) (just several) answers length place f
        ]

-- reading is never out of memory
pub reads_no_memory : (length : ℕ) (s : ScriptState) (answers : List Answer) → read_from scripts length s answers ≢ Err NoMemory
reads_no_memory length s answers = reads_no_other scripts length s answers NoMemory (λ at e. cc) (λ at e. cc)
