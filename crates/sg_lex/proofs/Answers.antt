-- What an automaton reads on a text is the one answer that a parser may give, out of memory aside, where the automaton
-- reads just the sentences of a grammar.
use Rattle.std.proofs.Common.{◌≡◌, ℕ, List, [], ◌∷◌, ◌++◌, refl, sym, ap, subst, ◌∙◌, append_assoc}
use Rattle.std.specs.Prelude.{None, Some, Ok, Err}
use Rattle.std.specs.declared.option.Option.{Option}
use Rattle.std.specs.declared.result.Result.{Result}
use Rattle.std.proofs.lemmas.List.{append-nil}
use Rattle.sg_lex.specs.Lexeme.{Lexeme}
use Rattle.sg_lex.specs.Tokens.{Answer}
use Rattle.sg_lex.specs.Sentences.{Begins, Fails, IsNoToken, EndsAt}
use Rattle.sg_lex.specs.Inside.Ahead.{answered}
use Rattle.sg_lex.specs.Inside.Automata.{Automaton, ended, read_from}
use Rattle.sg_lex.proofs.Automata.{read_token, read_stuck, read_fault, read_nothing, Runs, runs-append, one_end, cut, reads, reads_all, answered-append}

-- a state that reading the tokens leads to
pub record Begun (S V E : Type 0) (a : Automaton S V E) (tokens : List Lexeme) : Type 0 where
  pub end : S
  pub runs : Runs a a.start tokens end

-- a state that reading the tokens leads to, and in which this is the value
pub record Reached (S V E : Type 0) (a : Automaton S V E) (tokens : List Lexeme) (value : V) : Type 0 where
  pub end : S
  pub runs : Runs a a.start tokens end
  pub is : a.value_at end ≡ Some value

-- the automaton reads just the sentences, each to its value, and just what begins one
pub record ReadsJust (S V E : Type 0) (a : Automaton S V E) (IsSentence : List Lexeme → V → Type 0) : Type 0 where
  pub reached : (tokens : List Lexeme) (value : V) → IsSentence tokens value → Reached S V E a tokens value
  pub sentence_of : (tokens : List Lexeme) (value : V) (end : S) → Runs a a.start tokens end → a.value_at end ≡ Some value → IsSentence tokens value
  pub begins_of : (tokens : List Lexeme) (end : S) → Runs a a.start tokens end → Begins IsSentence tokens

none_some : {A : Type 0} (y : A) → None ≡ Some y → ⊥
none_some y e = cc

some_is : {A : Type 0} (x y : A) → Some x ≡ Some y → x ≡ y
some_is x y e = cc

-- what begins a sentence is read
begun : {S V E : Type 0} (a : Automaton S V E) (IsSentence : List Lexeme → V → Type 0) → ReadsJust S V E a IsSentence → (tokens : List Lexeme) → Begins IsSentence tokens
    → Begun S V E a tokens
begun a IsSentence just tokens h =
    let r = just.reached (tokens ++ h.0) h.1 h.2 in
    let c = cut a a.start r.end tokens h.0 r.runs in
    record { end = c.mid; runs = c.first }

-- a lexer answers a sentence's tokens, and this is the sentence's value
abbrev pub Accepts : (V : Type 0) → (List Lexeme → V → Type 0) → List Answer → V → Type 0
Accepts V IsSentence answers value = (tokens : List Lexeme) × (answers ≡ answered tokens) × IsSentence tokens value

-- what may be answered: each answer by its cause
pub record MayAnswer (S V E : Type 0) (a : Automaton S V E) (IsSentence : List Lexeme → V → Type 0) (answers : List Answer) (length : ℕ) (May : Result V E → Type 0) : Type 0 where
  pub value : (value : V) → Accepts V IsSentence answers value → May (Ok value)
  pub byte : (place : ℕ) → Fails V IsSentence answers (IsNoToken place) → May (Err (a.no_token place))
  pub token : (place : ℕ) → Fails V IsSentence answers (EndsAt IsSentence length place) → May (Err (a.no_sentence place))

-- ---- what is read may be answered

answer_at_end : {S V E : Type 0} (a : Automaton S V E) (IsSentence : List Lexeme → V → Type 0) → ReadsJust S V E a IsSentence
    → (whole : List Answer) (length : ℕ) (May : Result V E → Type 0) → MayAnswer S V E a IsSentence whole length May
    → (s : S) (before : List Lexeme) → whole ≡ answered before ++ [] → Runs a a.start before s
    → (o : Option V) → a.value_at s ≡ o → May (ended a length o)
answer_at_end a IsSentence just whole length May may s before all h None e = may.token length (record {
  tokens = before;
  behind = [];
  all = all;
  begin = just.begins_of before s h;
  stop = (
    refl,
    λ value is.
        let r = just.reached before value is in
        let same = one_end a a.start r.end s before r.runs h in
        none_some value (sym e ∙ ap a.value_at (sym same) ∙ r.is),
  );
})
answer_at_end a IsSentence just whole length May may s before all h (Some value) e =
    may.value value (before, all ∙ append-nil (answered before), just.sentence_of before value s h e)

answers_from : {S V E : Type 0} (a : Automaton S V E) (IsSentence : List Lexeme → V → Type 0) → ReadsJust S V E a IsSentence
    → (whole : List Answer) (length : ℕ) (May : Result V E → Type 0) → MayAnswer S V E a IsSentence whole length May
    → (s : S) (before : List Lexeme) (behind : List Answer) → whole ≡ answered before ++ behind → Runs a a.start before s
    → May (read_from a length s behind)
answers_from a IsSentence just whole length May may s before [] all h =
    subst May (sym (read_nothing a length s))
    (answer_at_end a IsSentence just whole length May may s before all h (a.value_at s) refl)
answers_from a IsSentence just whole length May may s before (Err fault ∷ behind) all h =
    subst May (sym (read_fault a length s fault behind))
    (may.byte fault.at (record { tokens = before; behind = Err fault ∷ behind; all = all; begin = just.begins_of before s h; stop = (behind, refl) }))
answers_from {S = S} a IsSentence just whole length May may s before (Ok token ∷ behind) all h =
    by (λ next e. answers_from a IsSentence just whole length May may next (before ++ token ∷ []) behind
    (all ∙ sym (append_assoc (answered before) (Ok token ∷ []) behind) ∙ ap (λ v. v ++ behind) (sym (answered-append before (token ∷ []))))
    (runs-append a a.start s next before (token ∷ []) h (next, e, refl)))
    (a.step s token) refl
  where
    by : ((next : S) → a.step s token ≡ Some next → May (read_from a length next behind)) → (o : Option S) → a.step s token ≡ o
        → May (read_from a length s (Ok token ∷ behind))
    by go None e = subst May (sym (read_stuck a length s token behind e))
        (may.token token.at (record {
          tokens = before;
          behind = Ok token ∷ behind;
          all = all;
          begin = just.begins_of before s h;
          stop = (
            refl,
            λ more.
                let b = begun a IsSentence just (before ++ token ∷ []) more in
                let c = cut a a.start b.end before (token ∷ []) b.runs in
                let same = one_end a a.start c.mid s before c.first h in
                none_some c.second.0 (sym e ∙ ap (λ v. a.step v token) (sym same) ∙ c.second.1),
          );
        }))
    by go (Some next) e = subst May (sym (read_token a length s next token behind e)) (go next e)

pub may_answer : {S V E : Type 0} (a : Automaton S V E) (IsSentence : List Lexeme → V → Type 0) → ReadsJust S V E a IsSentence
    → (answers : List Answer) (length : ℕ) (May : Result V E → Type 0) → MayAnswer S V E a IsSentence answers length May
    → May (read_from a length a.start answers)
may_answer a IsSentence just answers length May may = answers_from a IsSentence just answers length May may a.start [] answers refl refl

-- ---- nothing else may be

pub only_value : {S V E : Type 0} (a : Automaton S V E) (IsSentence : List Lexeme → V → Type 0) → ReadsJust S V E a IsSentence
    → (answers : List Answer) (length : ℕ) (value : V) → Accepts V IsSentence answers value → read_from a length a.start answers ≡ Ok value
only_value a IsSentence just answers length value f =
    let r = just.reached f.0 value f.2 in
    reads_all a length r.end answers f.0 f.1 r.runs ∙ ap (ended a length) r.is

pub only_byte : {S V E : Type 0} (a : Automaton S V E) (IsSentence : List Lexeme → V → Type 0) → ReadsJust S V E a IsSentence
    → (answers : List Answer) (length place : ℕ) → Fails V IsSentence answers (IsNoToken place) → read_from a length a.start answers ≡ Err (a.no_token place)
only_byte a IsSentence just answers length place f =
    let b = begun a IsSentence just f.tokens f.begin in
    ap (read_from a length a.start) (f.all ∙ ap (λ v. answered f.tokens ++ v) f.stop.1)
    ∙ reads a length a.start b.end f.tokens (Err (record { at = place }) ∷ f.stop.0) b.runs
    ∙ read_fault a length b.end (record { at = place }) f.stop.0

-- behind tokens that begin a sentence comes a token with which they begin none
stuck_at : {S V E : Type 0} (a : Automaton S V E) (IsSentence : List Lexeme → V → Type 0) → ReadsJust S V E a IsSentence
    → (answers : List Answer) (length place : ℕ) (tokens : List Lexeme) (token : Lexeme) (behind : List Answer)
    → answers ≡ answered tokens ++ Ok token ∷ behind → Begins IsSentence tokens → token.at ≡ place → (Begins IsSentence (tokens ++ token ∷ []) → ⊥)
    → read_from a length a.start answers ≡ Err (a.no_sentence place)
stuck_at {S = S} a IsSentence just answers length place tokens token behind all begin at ends =
    let b = begun a IsSentence just tokens begin in
    ap (read_from a length a.start) all ∙ reads a length a.start b.end tokens (Ok token ∷ behind) b.runs
    ∙ read_stuck a length b.end token behind (stuck b.end b.runs (a.step b.end token) refl) ∙ ap (λ v. Err (a.no_sentence v)) at
  where
    stuck : (end : S) → Runs a a.start tokens end → (o : Option S) → a.step end token ≡ o → a.step end token ≡ None
    stuck end runs None e = e
    stuck end runs (Some next) e =
        absurd (ends (just.begins_of (tokens ++ token ∷ []) next (runs-append a a.start end next tokens (token ∷ []) runs (next, e, refl))))

-- tokens that begin a sentence are all, and are none
open_at_end : {S V E : Type 0} (a : Automaton S V E) (IsSentence : List Lexeme → V → Type 0) → ReadsJust S V E a IsSentence
    → (answers : List Answer) (length place : ℕ) (tokens : List Lexeme) → answers ≡ answered tokens → Begins IsSentence tokens → place ≡ length
    → ((value : V) → IsSentence tokens value → ⊥) → read_from a length a.start answers ≡ Err (a.no_sentence place)
open_at_end {S = S} {V = V} a IsSentence just answers length place tokens all begin at none =
    let b = begun a IsSentence just tokens begin in
    reads_all a length b.end answers tokens all b.runs
    ∙ ap (ended a length) (open_ended b.end b.runs (a.value_at b.end) refl) ∙ ap (λ v. Err (a.no_sentence v)) (sym at)
  where
    open_ended : (end : S) → Runs a a.start tokens end → (o : Option V) → a.value_at end ≡ o → a.value_at end ≡ None
    open_ended end runs None e = e
    open_ended end runs (Some value) e = absurd (none value (just.sentence_of tokens value end runs e))

pub only_token : {S V E : Type 0} (a : Automaton S V E) (IsSentence : List Lexeme → V → Type 0) → ReadsJust S V E a IsSentence
    → (answers : List Answer) (length place : ℕ) → Fails V IsSentence answers (EndsAt IsSentence length place)
    → read_from a length a.start answers ≡ Err (a.no_sentence place)
only_token a IsSentence just answers length place f = by f.behind f.all f.stop
  where
    by : (behind : List Answer) → answers ≡ answered f.tokens ++ behind → EndsAt IsSentence length place f.tokens behind
        → read_from a length a.start answers ≡ Err (a.no_sentence place)
    by [] all stop = open_at_end a IsSentence just answers length place f.tokens (all ∙ append-nil (answered f.tokens)) f.begin stop.0 stop.1
    by (Ok token ∷ more) all stop = stuck_at a IsSentence just answers length place f.tokens token more all f.begin stop.0 stop.1
    by (Err fault ∷ more) all stop = absurd stop

-- tokens are a sentence of one value at most
pub one_value : {S V E : Type 0} (a : Automaton S V E) (IsSentence : List Lexeme → V → Type 0) → ReadsJust S V E a IsSentence
    → (tokens : List Lexeme) (one other : V) → IsSentence tokens one → IsSentence tokens other → one ≡ other
one_value a IsSentence just tokens one other h g =
    let r = just.reached tokens one h in
    let q = just.reached tokens other g in
    some_is one other (sym r.is ∙ ap a.value_at (one_end a a.start r.end q.end tokens r.runs q.runs) ∙ q.is)
