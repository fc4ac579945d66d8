-- What an automaton over tokens reads: by the token that comes next, and over tokens one after another.
use Rattle.std.proofs.Common.{◌≡◌, ◌≢◌, ℕ, Bool, false, List, [], ◌∷◌, ◌++◌, refl, sym, ap, subst, ◌∙◌}
use Rattle.std.specs.Prelude.{None, Some, Ok, Err}
use Rattle.std.specs.declared.option.Option.{Option}
use Rattle.std.specs.declared.result.Result.{Result}
use Rattle.std.specs.Option.{option_map_or}
use Rattle.std.proofs.lemmas.List.{append-nil}
use Rattle.sg_lex.specs.declared.token.LexFault.{LexFault}
use Rattle.sg_lex.specs.Lexeme.{Lexeme}
use Rattle.sg_lex.specs.Tokens.{Answer}
use Rattle.sg_lex.specs.Inside.Ahead.{answered, Off}
use Rattle.sg_lex.specs.Inside.Automata.{Automaton, Reading, ended, read_from, read, read_on, Leads}

-- ---- one answer of the lexer

pub read_token : {S V E : Type 0} (a : Automaton S V E) (length : ℕ) (s next : S) (token : Lexeme) (behind : List Answer) → a.step s token ≡ Some next
    → read_from a length s (Ok token ∷ behind) ≡ read_from a length next behind
unfolding read_from
read_token a length s next token behind e = ap (λ v. option_map_or (λ next. read_from a length next behind) v (Err (a.no_sentence token.at))) e

pub read_stuck : {S V E : Type 0} (a : Automaton S V E) (length : ℕ) (s : S) (token : Lexeme) (behind : List Answer) → a.step s token ≡ None
    → read_from a length s (Ok token ∷ behind) ≡ Err (a.no_sentence token.at)
unfolding read_from
read_stuck a length s token behind e = ap (λ v. option_map_or (λ next. read_from a length next behind) v (Err (a.no_sentence token.at))) e

pub read_fault : {S V E : Type 0} (a : Automaton S V E) (length : ℕ) (s : S) (fault : LexFault) (behind : List Answer)
    → read_from a length s (Err fault ∷ behind) ≡ Err (a.no_token fault.at)
unfolding read_from
read_fault a length s fault behind = refl

pub read_nothing : {S V E : Type 0} (a : Automaton S V E) (length : ℕ) (s : S) → read_from a length s [] ≡ ended a length (a.value_at s)
unfolding read_from
read_nothing a length s = refl

-- ---- what is still to be read

-- the token that comes next decides
pub read_next : {S V E : Type 0} (a : Automaton S V E) (s : S) (old new : Reading) (token : Lexeme) → old.rest ≡ Ok token ∷ new.rest → new.end ≡ old.end
    → read a s old ≡ read_on a (a.step s token) token new
read_next {S = S} a s old new token e g =
    ap (λ v. read_from a old.end s v) e ∙ ap (λ v. read_from a v s (Ok token ∷ new.rest)) (sym g) ∙ by (a.step s token) refl
  where
    by : (o : Option S) → a.step s token ≡ o → read_from a new.end s (Ok token ∷ new.rest) ≡ read_on a (a.step s token) token new
    by None h = read_stuck a new.end s token new.rest h ∙ ap (λ v. read_on a v token new) (sym h)
    by (Some next) h = read_token a new.end s next token new.rest h ∙ ap (λ v. read_on a v token new) (sym h)

-- at the end the state does
pub read_end : {S V E : Type 0} (a : Automaton S V E) (s : S) (old : Reading) → old.rest ≡ [] → read a s old ≡ ended a old.end (a.value_at s)
read_end a s old e = ap (λ v. read_from a old.end s v) e ∙ read_nothing a old.end s

-- at a fault there is its error
pub read_failed : {S V E : Type 0} (a : Automaton S V E) (s : S) (old : Reading) (fault : LexFault) (behind : List Answer) → old.rest ≡ Err fault ∷ behind
    → read a s old ≡ Err (a.no_token fault.at)
read_failed a s old fault behind e = ap (λ v. read_from a old.end s v) e ∙ read_fault a old.end s fault behind

-- a token with which the state goes on
pub goes_on : {S V E : Type 0} (a : Automaton S V E) (s next : S) (old new : Reading) (token : Lexeme) → old.rest ≡ Ok token ∷ new.rest → new.end ≡ old.end
    → a.step s token ≡ Some next → read a s old ≡ read a next new
goes_on a s next old new token e g h = read_next a s old new token e g ∙ ap (λ v. read_on a v token new) h

-- two states that go on alike at a token on which a test fails
pub alike : {S V E : Type 0} (a : Automaton S V E) (s other : S) (test : Lexeme → Bool) (old : Reading)
    → ((token : Lexeme) → test token ≡ false → a.step s token ≡ a.step other token) → a.value_at s ≡ a.value_at other
    → Off test old.rest → read a s old ≡ read a other old
alike a s other test old h g o = by old.rest refl o
  where
    by : (answers : List Answer) → old.rest ≡ answers → Off test answers → read a s old ≡ read a other old
    by [] e o = read_end a s old e ∙ ap (ended a old.end) g ∙ sym (read_end a other old e)
    by (Ok token ∷ answers) e o =
        let new : Reading = record { rest = answers; end = old.end } in
        read_next a s old new token e refl ∙ ap (λ v. read_on a v token new) (h token o) ∙ sym (read_next a other old new token e refl)
    by (Err fault ∷ answers) e o = absurd o

-- a part that follows others: what was to be read before them is what is to be read before the part
pub leads_along : {S V E X : Type 0} (a : Automaton S V E) (before mid : Result V E) (r : Result X E) (go : X → S) (new : Reading)
    → before ≡ mid → Leads a mid r go new → Leads a before r go new
leads_along a before mid (Ok v) go new e h = e ∙ h
leads_along a before mid (Err error) go new e h = λ ne. e ∙ h ne

-- ---- tokens one after another

-- reading the tokens leads from the one state to the other
abbrev pub Runs : {S V E : Type 0} → Automaton S V E → S → List Lexeme → S → Type 0
Runs a s [] end = s ≡ end
Runs {S = S} a s (token ∷ tokens) end = (next : S) × (a.step s token ≡ Some next) × Runs a next tokens end

pub runs-append : {S V E : Type 0} (a : Automaton S V E) (s mid end : S) (xs ys : List Lexeme) → Runs a s xs mid → Runs a mid ys end → Runs a s (xs ++ ys) end
runs-append a s mid end [] ys h g = subst (λ v. Runs a v ys end) (sym h) g
runs-append a s mid end (x ∷ xs) ys h g = (h.0, h.1, runs-append a h.0 mid end xs ys h.2 g)

some_is : {A : Type 0} (x y : A) → Some x ≡ Some y → x ≡ y
some_is x y e = cc

none_some : {A : Type 0} (y : A) → None ≡ Some y → ⊥
none_some y e = cc

-- reading has one end
pub one_end : {S V E : Type 0} (a : Automaton S V E) (s one other : S) (xs : List Lexeme) → Runs a s xs one → Runs a s xs other → one ≡ other
one_end a s one other [] h g = sym h ∙ g
one_end a s one other (x ∷ xs) h g =
    let e : h.0 ≡ g.0 = some_is h.0 g.0 (sym h.1 ∙ g.1) in
    one_end a g.0 one other xs (subst (λ v. Runs a v xs one) e h.2) g.2

-- what was read of two lists of tokens was read of the first and then of the second
pub record Cut (S V E : Type 0) (a : Automaton S V E) (s end : S) (xs ys : List Lexeme) : Type 0 where
  pub mid : S
  pub first : Runs a s xs mid
  pub second : Runs a mid ys end

pub cut : {S V E : Type 0} (a : Automaton S V E) (s end : S) (xs ys : List Lexeme) → Runs a s (xs ++ ys) end → Cut S V E a s end xs ys
cut a s end [] ys h = record { mid = s; first = refl; second = h }
cut a s end (x ∷ xs) ys h =
    let c = cut a h.0 end xs ys h.2 in
    record { mid = c.mid; first = (h.0, h.1, c.first); second = c.second }

-- what is read after tokens, and of tokens alone
pub reads : {S V E : Type 0} (a : Automaton S V E) (length : ℕ) (s end : S) (tokens : List Lexeme) (behind : List Answer) → Runs a s tokens end
    → read_from a length s (answered tokens ++ behind) ≡ read_from a length end behind
reads a length s end [] behind h = ap (λ v. read_from a length v behind) h
reads a length s end (t ∷ ts) behind h = read_token a length s h.0 t (answered ts ++ behind) h.1 ∙ reads a length h.0 end ts behind h.2

pub reads_all : {S V E : Type 0} (a : Automaton S V E) (length : ℕ) (end : S) (answers : List Answer) (tokens : List Lexeme) → answers ≡ answered tokens
    → Runs a a.start tokens end → read_from a length a.start answers ≡ ended a length (a.value_at end)
reads_all a length end answers tokens e h =
    ap (read_from a length a.start) (e ∙ sym (append-nil (answered tokens))) ∙ reads a length a.start end tokens [] h ∙ read_nothing a length end

pub answered-append : (xs ys : List Lexeme) → answered (xs ++ ys) ≡ answered xs ++ answered ys
answered-append [] ys = refl
answered-append (x ∷ xs) ys = ap (λ v. Ok x ∷ v) (answered-append xs ys)

-- reading gives no error but the two that have places
pub reads_no_other : {S V E : Type 0} (a : Automaton S V E) (length : ℕ) (s : S) (answers : List Answer) (other : E)
    → ((at : ℕ) → a.no_token at ≢ other) → ((at : ℕ) → a.no_sentence at ≢ other) → read_from a length s answers ≢ Err other
reads_no_other {V = V} a length s [] other p q e = by (a.value_at s) (sym (read_nothing a length s) ∙ e)
  where
    by : (o : Option V) → ended a length o ≡ Err other → ⊥
    by None g = q length (let f : a.no_sentence length ≡ other = cc in f)
    by (Some value) g = cc
reads_no_other a length s (Err fault ∷ behind) other p q e =
    p fault.at (let g = sym (read_fault a length s fault behind) ∙ e in let f : a.no_token fault.at ≡ other = cc in f)
reads_no_other {S = S} a length s (Ok token ∷ behind) other p q e = by (λ next g. reads_no_other a length next behind other p q g) (a.step s token) refl
  where
    by : ((next : S) → read_from a length next behind ≡ Err other → ⊥) → (o : Option S) → a.step s token ≡ o → ⊥
    by deeper None g = q token.at (let h = sym (read_stuck a length s token behind g) ∙ e in let f : a.no_sentence token.at ≡ other = cc in f)
    by deeper (Some next) g = deeper next (sym (read_token a length s next token behind g) ∙ e)
