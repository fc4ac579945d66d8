-- Tokens read one after another, and the rules that they are.
use Rattle.std.proofs.Common.{◌≡◌, ◌≢◌, false, true, List, [], ◌∷◌, ◌++◌, refl, sym, ap, subst, ◌∙◌, append-nil}
use Rattle.std.specs.Prelude.{None, Some, All, Bool}
use Rattle.std.specs.List.{flat_map}
use Rattle.std.proofs.lemmas.List.Elements.{All-nil}
use Rattle.sg_lex.specs.Lexeme.{Lexeme}
use Rattle.sg_lex.specs.Sentences.{Begins, ArePieces}
use Rattle.sg_lex.proofs.Automata.{Runs, runs-append}
use Rattle.sg_lex.proofs.Answers.{ReadsJust}
use Rattle.sg_rules.specs.declared.error.ParseError.{ParseError}
use Rattle.sg_rules.specs.declared.tree.Rule.{Rule}
use Rattle.sg_rules.specs.Grammar.Pieces.{RulePiece, IsRulePiece}
use Rattle.sg_rules.specs.Grammar.Sentence.{rule_pieces, IsRule, AreRules}
use Rattle.sg_rules.specs.Grammar.Inside.States.{RuleState, ended, fork, take, termed, picked, tested, ruled, any_rules, rules_at, rule_reader}
use Rattle.sg_rules.proofs.Grammar.Basics.{some_is, none_some}
use Rattle.sg_rules.proofs.Grammar.Steps.{GoesOn, there, onward, spelt_from, runs_along}
use Rattle.sg_rules.proofs.Grammar.Thens.{rules_then, rules_are}
use Rattle.sg_rules.proofs.Grammar.Grown.{HasRead, grown}
use Rattle.sg_rules.proofs.Grammar.Ends.{CanEnd, can_end}
use Rattle.sg_rules.proofs.Grammar.Goes.{rules_go}

-- ---- what has been read

-- before the first rule nothing has been read
start_read : HasRead false (ruled []) (λ r. r)
start_read = (λ r. refl, All-nil IsRule)

read_on : (s end : RuleState) (f : List RulePiece → List RulePiece) (qs : List RulePiece) → HasRead false s f → GoesOn s qs end → HasRead false end (λ r. f (qs ++ r))
read_on s end f [] h g = by s end h g
  where
    by : (s end : RuleState) → HasRead false s f → GoesOn s [] end → HasRead false end f
    by s end h there = h
read_on s end f (q ∷ qs) h (onward {next = next} g more) = read_on next end (λ r. f (q ∷ r)) qs (grown false s f q next h g) more

read_by : (qs : List RulePiece) (end : RuleState) → GoesOn (ruled []) qs end → HasRead false end (λ r. qs ++ r)
read_by qs end g = read_on (ruled []) end (λ r. r) qs start_read g

-- the pieces of rules lead to them
pub pieces_go : (rules : List Rule) → All IsRule rules → GoesOn (ruled []) (flat_map rule_pieces rules) (ruled rules)
pieces_go rules each = subst (λ v. GoesOn (ruled []) v (ruled rules)) (sym (rules_are rules)) (rules_go rules [] each)

-- from what is reached by tokens rules can be completed
pub reached_end : (tokens : List Lexeme) (end : RuleState) → Runs rule_reader (ruled []) tokens end → CanEnd end
reached_end tokens end h =
    let s = spelt_from (ruled []) end tokens h in
    can_end end (λ r. s.pieces ++ r) (read_by s.pieces end s.goes)

-- ---- at the end

some_rules : (rules : List Rule) → rules ≢ [] → any_rules rules ≡ Some rules
some_rules [] h = absurd (h refl)
some_rules (x ∷ rules) h = refl

pub rules_at_end : (rules : List Rule) → rules ≢ [] → rules_at (ruled rules) ≡ Some rules
unfolding rules_at
rules_at_end rules h = some_rules rules h

-- rules that end here are those that were read
record Whole (f : List RulePiece → List RulePiece) (rules : List Rule) : Type 0 where
  pieces : f [] ≡ rules_then rules []
  some : rules ≢ []
  each : All IsRule rules

any_is : (all rules : List Rule) → any_rules all ≡ Some rules → (all ≡ rules) × (rules ≢ [])
any_is [] rules e = none_some (([] ≡ rules) × (rules ≢ [])) rules e
any_is (x ∷ all) rules e =
    let same : x ∷ all ≡ rules = some_is (x ∷ all) rules e in
    (same, λ none. let f : x ∷ all ≡ [] = same ∙ none in cc)

whole : (may : Bool) (s : RuleState) (f : List RulePiece → List RulePiece) (rules : List Rule) → HasRead may s f → rules_at s ≡ Some rules → Whole f rules
unfolding rules_at
whole may (ended all) f rules h e = absurd ((any_is all rules e).1 (sym (any_is all rules e).0 ∙ h.1))
whole may (fork p s other) f rules h e = whole true other f rules h.1 e
whole may (take w k other) f rules h e = whole true other f rules h.1 e
whole may (termed ts k) f rules h e = whole false (k ts) f rules (subst (λ v. HasRead false (k v) f) (append-nil ts) (h.0 [])) e
whole may (picked ps k) f rules h e = whole false (k ps) f rules (subst (λ v. HasRead false (k v) f) (append-nil ps) (h.0 [])) e
whole may (tested ts k) f rules h e =
    whole false (k (record { tests = ts; rows = None })) f rules (subst (λ v. HasRead false (k (record { tests = v; rows = None })) f) (append-nil ts) (h.0 [])) e
whole may (ruled all) f rules h e =
    let a = any_is all rules e in
    record { pieces = h.0 [] ∙ ap (λ v. rules_then v []) a.0; some = a.1; each = subst (All IsRule) a.0 h.1 }

-- pieces that lead to where rules may end are theirs
pub rules_ended : (qs : List RulePiece) (end : RuleState) (rules : List Rule) → GoesOn (ruled []) qs end → rules_at end ≡ Some rules
    → (qs ≡ flat_map rule_pieces rules) × (rules ≢ []) × All IsRule rules
rules_ended qs end rules g e =
    let w = whole false end (λ r. qs ++ r) rules (read_by qs end g) e in
    (sym (append-nil qs) ∙ w.pieces ∙ sym (rules_are rules), w.some, w.each)

-- ---- sentences

reached : (tokens : List Lexeme) (rules : List Rule) → AreRules tokens rules → Runs rule_reader (ruled []) tokens (ruled rules)
reached tokens rules h = runs_along (ruled []) (ruled rules) tokens (flat_map rule_pieces rules) h.pieces (pieces_go rules h.each)

sentence_of : (tokens : List Lexeme) (rules : List Rule) (end : RuleState) → Runs rule_reader (ruled []) tokens end → rules_at end ≡ Some rules → AreRules tokens rules
sentence_of tokens rules end h e =
    let s = spelt_from (ruled []) end tokens h in
    let w = rules_ended s.pieces end rules s.goes e in
    record { pieces = subst (ArePieces IsRulePiece tokens) w.0 s.are; some = w.1; each = w.2 }

-- what is read begins rules
begins_of : (tokens : List Lexeme) (end : RuleState) → Runs rule_reader (ruled []) tokens end → Begins AreRules tokens
begins_of tokens end h =
    let c = reached_end tokens end h in (
      c.tokens,
      c.rules,
      sentence_of (tokens ++ c.tokens) c.rules (ruled c.rules) (runs-append rule_reader (ruled []) end (ruled c.rules) tokens c.tokens h c.runs) (rules_at_end c.rules c.some),
    )

-- the automaton reads just the rules
pub just : ReadsJust RuleState (List Rule) ParseError rule_reader AreRules
just = record {
  reached = λ tokens rules is. record { end = ruled rules; runs = reached tokens rules is; is = rules_at_end rules is.some };
  sentence_of = sentence_of;
  begins_of = begins_of;
}
