-- What is read from a state, by the token that comes next.
use Rattle.std.proofs.Common.{◌≡◌, ℕ, Bool, true, false, List, [], ◌∷◌, ◌++◌, refl, sym, ap, ◌∙◌}
use Rattle.std.specs.Prelude.{None, Some, Ok, Err}
use Rattle.std.specs.Option.{option_map_or}
use Rattle.sg_lex.specs.declared.token.LexFault.{LexFault}
use Rattle.sg_lex.specs.Lexeme.{Lexeme, Spelling}
use Rattle.sg_lex.specs.Tokens.{Answer}
use Rattle.sg_lex.specs.Inside.Ahead.{Off, Came}
use Rattle.sg_lex.specs.Inside.Automata.{Automaton, Reading}
use Rattle.sg_rules.proofs.Grammar.Basics.{if_then, if_else}
use Rattle.sg_rules.specs.declared.error.ParseError.TheVariants.{Lex, Syntax}
use Rattle.sg_rules.specs.declared.words.Fixed.{Fixed}
use Rattle.sg_rules.specs.declared.words.Fixed.TheVariants.{Comma}
use Rattle.sg_rules.specs.declared.words.Wanted.{Wanted}
use Rattle.sg_rules.specs.declared.tree.Pick.{Pick}
use Rattle.sg_rules.specs.declared.tree.Rule.{Rule}
use Rattle.sg_rules.specs.declared.tree.Term.{Term}
use Rattle.sg_rules.specs.declared.tree.Test.{Test}
use Rattle.sg_rules.specs.declared.tree.Tests.{Tests}
use Rattle.sg_rules.specs.Grammar.Inside.States.{RuleState, dead, ended, fork, take, termed, picked, tested, ruled, fits, wants, spelt_by, term, pick, tests_from, rule_or, with_rule, any_rules, step, rules_at, rule_reader}
use Rattle.sg_rules.specs.Inside.Parts.{part, part_from, part_ended, HasNoFault}

-- ---- any automaton

-- a token with which the state goes on
pub goes_on : {S V E : Type 0} (a : Automaton S V E) (s next : S) (old new : Reading) (token : Lexeme) → old.rest ≡ Ok token ∷ new.rest → new.end ≡ old.end
    → a.step s token ≡ Some next → part a s old ≡ part a next new
unfolding part_from
goes_on a s next old new token e g h =
    ap (λ v. part_from a old.end s v) e
    ∙ ap (λ v. option_map_or (λ next. part_from a old.end next new.rest) v (part_ended a token.at (record { rest = Ok token ∷ new.rest; end = old.end }) (a.value_at s))) h
    ∙ ap (λ v. part_from a v next new.rest) (sym g)

-- a token with which the state doesn't
pub stays : {S V E : Type 0} (a : Automaton S V E) (s : S) (old : Reading) (token : Lexeme) (behind : List Answer) → old.rest ≡ Ok token ∷ behind
    → a.step s token ≡ None → part a s old ≡ part_ended a token.at old (a.value_at s)
unfolding part_from
stays a s old token behind e h =
    ap (λ v. part_from a old.end s v) e
    ∙ ap (λ v. option_map_or (λ next. part_from a old.end next behind) v (part_ended a token.at (record { rest = Ok token ∷ behind; end = old.end }) (a.value_at s))) h
    ∙ ap (λ v. part_ended a token.at (record { rest = v; end = old.end }) (a.value_at s)) (sym e)

-- the end
pub at_end : {S V E : Type 0} (a : Automaton S V E) (s : S) (old : Reading) → old.rest ≡ [] → part a s old ≡ part_ended a old.end old (a.value_at s)
unfolding part_from
at_end a s old e = ap (λ v. part_from a old.end s v) e ∙ ap (λ v. part_ended a old.end (record { rest = v; end = old.end }) (a.value_at s)) (sym e)

-- a fault
pub failed : {S V E : Type 0} (a : Automaton S V E) (s : S) (old : Reading) (fault : LexFault) (behind : List Answer) → old.rest ≡ Err fault ∷ behind
    → part a s old ≡ Err (a.no_token fault.at)
unfolding part_from
failed a s old fault behind e = ap (λ v. part_from a old.end s v) e

-- two states that go on alike at a token on which a test fails
pub alike : {S V E : Type 0} (a : Automaton S V E) (s other : S) (test : Lexeme → Bool) (old : Reading)
    → ((token : Lexeme) → test token ≡ false → a.step s token ≡ a.step other token) → a.value_at s ≡ a.value_at other
    → Off test old.rest → part a s old ≡ part a other old
unfolding part_from
alike {V = V} {E = E} a s other test old h g o = by old.rest o
  where
    by : (answers : List Answer) → Off test answers → part_from a old.end s answers ≡ part_from a old.end other answers
    by [] o = ap (part_ended a old.end (record { rest = []; end = old.end })) g
    by (Ok token ∷ answers) o =
        ap (λ v. option_map_or (λ next. part_from a old.end next answers) v (part_ended a token.at (record { rest = Ok token ∷ answers; end = old.end }) (a.value_at s))) (h token o)
        ∙ ap (λ v. option_map_or (λ next. part_from a old.end next answers) (a.step other token) (part_ended a token.at (record { rest = Ok token ∷ answers; end = old.end }) v)) g
    by (Err fault ∷ answers) o = absurd o

-- ---- rules

pub no_token_came : (s : RuleState) (old : Reading) (fault : LexFault) (behind : List Answer) → old.rest ≡ Err fault ∷ behind → part rule_reader s old ≡ Err (Lex fault.at)
no_token_came s old fault behind e = failed rule_reader s old fault behind e

pub dead_token : (old new : Reading) (token : Lexeme) → old.rest ≡ Ok token ∷ new.rest → part rule_reader dead old ≡ Err (Syntax token.at)
unfolding step rules_at
dead_token old new token e = stays rule_reader dead old token new.rest e refl

pub dead_end : (old : Reading) → old.rest ≡ [] → part rule_reader dead old ≡ Err (Syntax old.end)
unfolding rules_at
dead_end old e = at_end rule_reader dead old e

pub fork_came : (p : Fixed) (s other : RuleState) (old new : Reading) → Came (fits p) old.rest new.rest → new.end ≡ old.end
    → part rule_reader (fork p s other) old ≡ part rule_reader s new
unfolding step
fork_came p s other old new m g = goes_on rule_reader (fork p s other) s old new m.token m.all g (if_then (fits p m.token) (Some s) (step other m.token) m.is)

pub fork_missing : (p : Fixed) (s other : RuleState) (old : Reading) → Off (fits p) old.rest → part rule_reader (fork p s other) old ≡ part rule_reader other old
unfolding step rules_at
fork_missing p s other old o = alike rule_reader (fork p s other) other (fits p) old (λ token h. if_else (fits p token) (Some s) (step other token) h) refl o

pub take_came : (w : Wanted) (k : Spelling → RuleState) (other : RuleState) (old new : Reading) (token : Lexeme) → old.rest ≡ Ok token ∷ new.rest → wants w token ≡ true
    → new.end ≡ old.end → part rule_reader (take w k other) old ≡ part rule_reader (k (spelt_by token)) new
unfolding step
take_came w k other old new token e h g =
    goes_on rule_reader (take w k other) (k (spelt_by token)) old new token e g (if_then (wants w token) (Some (k (spelt_by token))) (step other token) h)

pub take_missing : (w : Wanted) (k : Spelling → RuleState) (other : RuleState) (old : Reading) → Off (wants w) old.rest
    → part rule_reader (take w k other) old ≡ part rule_reader other old
unfolding step rules_at
take_missing w k other old o =
    alike rule_reader (take w k other) other (wants w) old (λ token h. if_else (wants w token) (Some (k (spelt_by token))) (step other token) h) refl o

-- ---- lists

pub term_came : (ts : List Term) (k : List Term → RuleState) (old new : Reading) → Came (fits Comma) old.rest new.rest → new.end ≡ old.end
    → part rule_reader (termed ts k) old ≡ part rule_reader (term (λ t. termed (ts ++ t ∷ []) k)) new
unfolding step
term_came ts k old new m g =
    goes_on rule_reader (termed ts k) (term (λ t. termed (ts ++ t ∷ []) k)) old new m.token m.all g
    (if_then (fits Comma m.token) (Some (term (λ t. termed (ts ++ t ∷ []) k))) (step (k ts) m.token) m.is)

pub terms_over : (ts : List Term) (k : List Term → RuleState) (old : Reading) → Off (fits Comma) old.rest → part rule_reader (termed ts k) old ≡ part rule_reader (k ts) old
unfolding step rules_at
terms_over ts k old o =
    alike rule_reader (termed ts k) (k ts) (fits Comma) old (λ token h. if_else (fits Comma token) (Some (term (λ t. termed (ts ++ t ∷ []) k))) (step (k ts) token) h) refl o

pub pick_came : (ps : List Pick) (k : List Pick → RuleState) (old new : Reading) → Came (fits Comma) old.rest new.rest → new.end ≡ old.end
    → part rule_reader (picked ps k) old ≡ part rule_reader (pick (λ p. picked (ps ++ p ∷ []) k)) new
unfolding step
pick_came ps k old new m g =
    goes_on rule_reader (picked ps k) (pick (λ p. picked (ps ++ p ∷ []) k)) old new m.token m.all g
    (if_then (fits Comma m.token) (Some (pick (λ p. picked (ps ++ p ∷ []) k))) (step (k ps) m.token) m.is)

pub picks_over : (ps : List Pick) (k : List Pick → RuleState) (old : Reading) → Off (fits Comma) old.rest → part rule_reader (picked ps k) old ≡ part rule_reader (k ps) old
unfolding step rules_at
picks_over ps k old o =
    alike rule_reader (picked ps k) (k ps) (fits Comma) old (λ token h. if_else (fits Comma token) (Some (pick (λ p. picked (ps ++ p ∷ []) k))) (step (k ps) token) h) refl o

pub test_came : (ts : List Test) (k : Tests → RuleState) (old new : Reading) → Came (fits Comma) old.rest new.rest → new.end ≡ old.end
    → part rule_reader (tested ts k) old ≡ part rule_reader (tests_from ts k) new
unfolding step
test_came ts k old new m g =
    goes_on rule_reader (tested ts k) (tests_from ts k) old new m.token m.all g
    (if_then (fits Comma m.token) (Some (tests_from ts k)) (step (k (record { tests = ts; rows = None })) m.token) m.is)

pub tests_over : (ts : List Test) (k : Tests → RuleState) (old : Reading) → Off (fits Comma) old.rest
    → part rule_reader (tested ts k) old ≡ part rule_reader (k (record { tests = ts; rows = None })) old
unfolding step rules_at
tests_over ts k old o =
    alike rule_reader (tested ts k) (k (record { tests = ts; rows = None })) (fits Comma) old
    (λ token h. if_else (fits Comma token) (Some (tests_from ts k)) (step (k (record { tests = ts; rows = None })) token) h) refl o

-- before a further rule: a rule, or the end of them
pub rule_choice : (rules : List Rule) (old : Reading) → part rule_reader (ruled rules) old ≡ part rule_reader (rule_or (with_rule rules) (ended rules)) old
unfolding part_from step rules_at rule_or
rule_choice rules old = by old.rest
  where
    by : (answers : List Answer) → part_from rule_reader old.end (ruled rules) answers ≡ part_from rule_reader old.end (rule_or (with_rule rules) (ended rules)) answers
    by [] = refl
    by (Ok token ∷ answers) = refl
    by (Err fault ∷ answers) = refl

-- the end of rules, where there are any
pub rules_end : (rules : List Rule) (old : Reading) → HasNoFault old.rest → (rules ≡ [] → ⊥) → part rule_reader (ended rules) old ≡ Ok (rules, old)
unfolding step rules_at
rules_end rules old h some = by old.rest refl h
  where
    any : (rules : List Rule) (place : ℕ) → (rules ≡ [] → ⊥) → part_ended rule_reader place old (any_rules rules) ≡ Ok (rules, old)
    any [] place some = absurd (some refl)
    any (x ∷ more) place some = refl

    by : (answers : List Answer) → old.rest ≡ answers → HasNoFault answers → part rule_reader (ended rules) old ≡ Ok (rules, old)
    by [] e h = at_end rule_reader (ended rules) old e ∙ any rules old.end some
    by (Ok token ∷ answers) e h = stays rule_reader (ended rules) old token answers e refl ∙ any rules token.at some
    by (Err fault ∷ answers) e h = absurd h
