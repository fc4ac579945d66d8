-- How an automaton over tokens reads a text. A grammar's automaton is proved to read just the grammar's sentences, and
-- says in what steps the grammar's parser goes.
use Rattle.std.specs.Prelude.{◌≡◌, ◌≢◌, ℕ, List, [], ◌∷◌, None, Some, Ok, Err}
use Rattle.std.specs.declared.option.Option.{Option}
use Rattle.std.specs.declared.result.Result.{Result}
use Rattle.std.specs.Option.{option_map_or}
use Rattle.sg_lex.specs.Lexeme.{Lexeme}
use Rattle.sg_lex.specs.Tokens.{Answer}

-- the first state; the state after a token, None where the token may not come; the value, where the text may end; and
-- the errors, by their places: no token begins there, no sentence goes on so there, and out of memory
pub record Automaton (S V E : Type 0) : Type 0 where
  pub start : S
  pub step : S → Lexeme → Option S
  pub value_at : S → Option V
  pub no_token : ℕ → E
  pub no_sentence : ℕ → E
  pub no_memory : E

-- the answer at the end of a text of that length
abbrev pub ended : {S V E : Type 0} → Automaton S V E → ℕ → Option V → Result V E
ended a end None = Err (a.no_sentence end)
ended a end (Some value) = Ok value

-- the answer where a lexer goes on with these answers, on a text of that length
unfoldable pub read_from : {S V E : Type 0} → Automaton S V E → ℕ → S → List Answer → Result V E
read_from a end s [] = ended a end (a.value_at s)
read_from a end s (Err fault ∷ behind) = Err (a.no_token fault.at)
read_from a end s (Ok token ∷ behind) =
    option_map_or (λ next. read_from a end next behind) (a.step s token) (Err (a.no_sentence token.at))

-- what is still to be read: the answers of the lexer that are to come, and the length of the text
pub record Reading : Type 0 where
  pub rest : List Answer
  pub end : ℕ

-- the answer where reading goes on from a state
abbrev pub read : {S V E : Type 0} → Automaton S V E → S → Reading → Result V E
read a s reading = read_from a reading.end s reading.rest

-- the answer where reading goes on from the state after this token, if there is one
abbrev pub read_on : {S V E : Type 0} → Automaton S V E → Option S → Lexeme → Reading → Result V E
read_on a None token reading = Err (a.no_sentence token.at)
read_on a (Some s) token reading = read a s reading

-- a part of a parser before which this was to be read, and that gave a value, goes on in the state of that value; an error
-- is what was to be read, out of memory aside
abbrev pub Leads : {S V E X : Type 0} → Automaton S V E → Result V E → Result X E → (X → S) → Reading → Type 0
Leads a before (Ok value) go new = before ≡ read a (go value) new
Leads a before (Err error) go new = error ≢ a.no_memory → before ≡ Err error

-- an answer is what was to be read, or out of memory
abbrev pub Answers : {S V E : Type 0} → Automaton S V E → Result V E → Result V E → Type 0
Answers a before result = result ≢ Err a.no_memory → before ≡ result
