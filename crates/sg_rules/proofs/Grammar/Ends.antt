-- Each state that has been read can be completed.
use Rattle.std.proofs.Common.{◌≡◌, ◌≢◌, true, false, List, [], ◌∷◌, ◌++◌, refl, subst, ◌∙◌, append-nil}
use Rattle.std.specs.Prelude.{None, Some, codes}
use Rattle.sg_lex.specs.declared.token.TokenKind.TheVariants.{Word, Number as number_kind}
use Rattle.sg_lex.specs.Lexeme.{Lexeme}
use Rattle.sg_lex.proofs.Automata.{Runs}
use Rattle.sg_rules.specs.declared.words.Keyword.TheVariants.{Give as give_word}
use Rattle.sg_rules.specs.declared.words.Fixed.TheVariants.{Key, Comma, Semicolon}
use Rattle.sg_rules.specs.declared.words.Wanted.{Wanted}
use Rattle.sg_rules.specs.declared.words.Wanted.TheVariants.{Name as a_name, Number as a_number, Key as a_word}
use Rattle.sg_rules.specs.declared.tree.Operand.TheVariants.{Number}
use Rattle.sg_rules.specs.declared.tree.Rule.{Rule}
use Rattle.sg_rules.specs.declared.tree.Tests.{Tests}
use Rattle.sg_rules.specs.declared.tree.Rule.TheVariants.{Give}
use Rattle.sg_rules.specs.Grammar.Pieces.{RulePiece}
use Rattle.sg_rules.specs.Grammar.Inside.States.{RuleState, ended, fork, take, termed, picked, tested, ruled, fits, wants, spelt_by, term, pick, tests_from, after_first, given, give_rest, no_tests, with_rule, step, rule_reader}
use Rattle.sg_rules.proofs.Grammar.Basics.{if_then, if_else, token_of, fits_own, true_not}
use Rattle.sg_rules.proofs.Grammar.Grown.{HasRead, Opens}

-- a token that is wanted
abbrev example : Wanted → Lexeme
example a_name = record { kind = Word; bytes = codes "x"; at = 0 }
example a_number = record { kind = number_kind; bytes = codes "0"; at = 0 }
example (a_word keyword) = token_of (Key keyword)

example_wanted : (w : Wanted) → wants w (example w) ≡ true
example_wanted a_name = refl
example_wanted a_number = refl
example_wanted (a_word keyword) = fits_own (Key keyword)

-- tokens that complete rules from a state
abbrev complete : RuleState → List Lexeme
complete (ended rules) = []
complete (fork p s other) = token_of p ∷ complete s
complete (take w k other) = example w ∷ complete (k (spelt_by (example w)))
complete (termed ts k) = complete (k ts)
complete (picked ps k) = complete (k ps)
complete (tested ts k) = complete (k (record { tests = ts; rows = None }))
complete (ruled []) = token_of (Key give_word) ∷ example a_number ∷ token_of Semicolon ∷ []
complete (ruled (x ∷ rules)) = []

-- reading some tokens from a state leads to rules that may end
pub record CanEnd (s : RuleState) : Type 0 where
  pub tokens : List Lexeme
  pub rules : List Rule
  pub some : rules ≢ []
  pub runs : Runs rule_reader s tokens (ruled rules)

-- a state that goes on at other tokens than commas as one that begins with none
through : (u s end : RuleState) → ((token : Lexeme) → fits Comma token ≡ false → step u token ≡ step s token) → Opens s → Runs rule_reader s (complete s) end
    → Runs rule_reader u (complete s) end
through u (fork p s other) end alike opens r = (r.0, alike (token_of p) (true_not (fits Comma (token_of p)) opens) ∙ r.1, r.2)
through u (ended rules) end alike opens r = absurd opens
through u (take w k other) end alike opens r = absurd opens
through u (termed ts k) end alike opens r = absurd opens
through u (picked ps k) end alike opens r = absurd opens
through u (tested ts k) end alike opens r = absurd opens
through u (ruled rules) end alike opens r = absurd opens

-- the tokens that complete a state do
record Completes (s : RuleState) : Type 0 where
  rules : List Rule
  some : rules ≢ []
  runs : Runs rule_reader s (complete s) (ruled rules)

zero_given : Rule
zero_given = Give 0 (record { first = Number (record { bytes = codes "0"; at = 0 }); more = None }) no_tests

completes : (s : RuleState) (f : List RulePiece → List RulePiece) → HasRead false s f → Completes s
unfolding step zero_given term give_rest given
completes (ended rules) f h = absurd (let e : false ≡ true = h.0 in cc)
completes (fork p s other) f h =
    let c = completes s _ h.0 in
    record { rules = c.rules; some = c.some; runs = (s, if_then (fits p (token_of p)) (Some s) (step other (token_of p)) (fits_own p), c.runs) }
completes (take w k other) f h =
    let n = spelt_by (example w) in
    let c = completes (k n) _ (h.0 n) in
    record { rules = c.rules; some = c.some; runs = (k n, if_then (wants w (example w)) (Some (k n)) (step other (example w)) (example_wanted w), c.runs) }
completes (termed ts k) f h =
    let c = completes (k ts) f (subst (λ v. HasRead false (k v) f) (append-nil ts) (h.0 [])) in
    record {
      rules = c.rules;
      some = c.some;
      runs = through (termed ts k) (k ts) (ruled c.rules) (λ token e. if_else (fits Comma token) (Some (term (λ t. termed (ts ++ t ∷ []) k))) (step (k ts) token) e) (h.1 ts) c.runs;
    }
completes (picked ps k) f h =
    let c = completes (k ps) f (subst (λ v. HasRead false (k v) f) (append-nil ps) (h.0 [])) in
    record {
      rules = c.rules;
      some = c.some;
      runs = through (picked ps k) (k ps) (ruled c.rules) (λ token e. if_else (fits Comma token) (Some (pick (λ p. picked (ps ++ p ∷ []) k))) (step (k ps) token) e) (h.1 ps) c.runs;
    }
completes (tested ts k) f h =
    let none : Tests = record { tests = ts; rows = None } in
    let c = completes (k none) f (subst (λ v. HasRead false (k (record { tests = v; rows = None })) f) (append-nil ts) (h.0 [])) in
    record {
      rules = c.rules;
      some = c.some;
      runs = through (tested ts k) (k none) (ruled c.rules) (λ token e. if_else (fits Comma token) (Some (tests_from ts k)) (step (k none) token) e) (h.2 none) c.runs;
    }
completes (ruled []) f h =
    record {
      rules = zero_given ∷ [];
      some = λ e. cc;
      runs = (
        give_rest (with_rule []) 0,
        refl,
        (after_first (given (with_rule []) 0) (Number (record { bytes = codes "0"; at = 0 })), refl, (ruled (zero_given ∷ []), refl, refl)),
      );
    }
completes (ruled (x ∷ rules)) f h = record { rules = x ∷ rules; some = λ e. cc; runs = refl }

pub can_end : (s : RuleState) (f : List RulePiece → List RulePiece) → HasRead false s f → CanEnd s
can_end s f h = let c = completes s f h in record { tokens = complete s; rules = c.rules; some = c.some; runs = c.runs }
