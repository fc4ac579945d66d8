-- How an automaton reads a part of a text: it goes on while it can, and where its part may end it leaves what can't go on.
use Rattle.std.specs.Prelude.{◌≡◌, ◌≢◌, ℕ, List, [], ◌∷◌, None, Some, Ok, Err}
use Rattle.std.specs.declared.option.Option.{Option}
use Rattle.std.specs.declared.result.Result.{Result}
use Rattle.std.specs.Option.{option_map_or}
use Rattle.sg_lex.specs.Tokens.{Answer}
use Rattle.sg_lex.specs.Inside.Automata.{Automaton, Reading}

-- the answer where nothing goes on: the part's value with what is left, or the error at this place
abbrev pub part_ended : {S V E : Type 0} → Automaton S V E → ℕ → Reading → Option V → Result (V × Reading) E
part_ended a place left None = Err (a.no_sentence place)
part_ended a place left (Some value) = Ok (value, left)

-- the answer where a lexer goes on with these answers, on a text of that length
unfoldable pub part_from : {S V E : Type 0} → Automaton S V E → ℕ → S → List Answer → Result (V × Reading) E
part_from a end s [] = part_ended a end (record { rest = []; end = end }) (a.value_at s)
part_from a end s (Err fault ∷ behind) = Err (a.no_token fault.at)
part_from a end s (Ok token ∷ behind) =
    option_map_or (λ next. part_from a end next behind) (a.step s token) (part_ended a token.at (record { rest = Ok token ∷ behind; end = end }) (a.value_at s))

-- the answer where reading goes on from a state
abbrev pub part : {S V E : Type 0} → Automaton S V E → S → Reading → Result (V × Reading) E
part a s reading = part_from a reading.end s reading.rest

-- a function of a parser before which this was to be read, and that gave a value, goes on in the state of that value; an error is what was
-- to be read, out of memory aside
abbrev pub LeadsOn : {S V E X : Type 0} → Automaton S V E → Result (V × Reading) E → Result X E → (X → S) → Reading → Type 0
LeadsOn a before (Ok value) go new = before ≡ part a (go value) new
LeadsOn a before (Err error) go new = error ≢ a.no_memory → before ≡ Err error

-- an answer is what was to be read, and what is left is what was to be left; or out of memory
abbrev pub EndsPart : {S V E : Type 0} → Automaton S V E → Result (V × Reading) E → Result V E → Reading → Type 0
EndsPart a before (Ok value) new = before ≡ Ok (value, new)
EndsPart a before (Err error) new = error ≢ a.no_memory → before ≡ Err error

-- no fault comes next
abbrev pub HasNoFault : List Answer → Type 0
HasNoFault [] = Unit {0}
HasNoFault (Ok token ∷ answers) = Unit {0}
HasNoFault (Err fault ∷ answers) = ⊥
