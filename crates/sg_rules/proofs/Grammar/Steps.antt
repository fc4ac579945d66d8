-- One piece, and then others: by what pieces a state goes on, and that tokens lead on as the pieces that they are.
use Rattle.std.proofs.Common.{◌≡◌, ℕ, ◌⊎◌, inl, inr, true, List, [], ◌∷◌, ◌++◌, refl, sym, ap, subst, ◌∙◌}
use Rattle.std.specs.Prelude.{None, Some}
use Rattle.sg_lex.specs.Lexeme.{Lexeme, Spelling}
use Rattle.sg_lex.specs.Sentences.{ArePieces}
use Rattle.sg_lex.proofs.Automata.{Runs}
use Rattle.sg_rules.specs.declared.words.Keyword.TheVariants.{Refuse as refuse_word, Wait as wait_word, Give as give_word}
use Rattle.sg_rules.specs.declared.words.Fixed.TheVariants.{Comma}
use Rattle.sg_rules.specs.declared.words.Wanted.TheVariants.{Key as a_word}
use Rattle.sg_rules.specs.declared.tree.Rule.{Rule}
use Rattle.sg_rules.specs.Grammar.Words.{word_of}
use Rattle.sg_rules.specs.Grammar.Pieces.{RulePiece, fixed, word_at, IsRulePiece}
use Rattle.sg_rules.specs.Grammar.Inside.States.{RuleState, ended, fork, take, termed, picked, tested, ruled, fits, wants, spelt_by, term, pick, tests_from, refuse_rest, wait_rest, give_rest, with_rule, rule_after, step, rule_reader}
use Rattle.sg_rules.proofs.Grammar.Basics.{by_test, some_is, none_some, if_then, if_else, chosen, apart, misses, spelt, IsOwn, fits-is, is-fits, apart-fits, fits-apart, wants-is, wants-own, is-wants, is-spelt, misses-wants, wants-misses}

-- ---- pieces

-- this piece is the first word of a rule, and leads to this state
abbrev pub Begins : (Rule → RuleState) → RulePiece → RuleState → Type 0
Begins go q next =
    ((at : ℕ) × (q ≡ word_at refuse_word at) × (refuse_rest go at ≡ next))
    ⊎ (((at : ℕ) × (q ≡ word_at wait_word at) × (wait_rest go at ≡ next))
    ⊎ ((at : ℕ) × (q ≡ word_at give_word at) × (give_rest go at ≡ next)))

-- this piece leads from a state to the next
abbrev pub Goes : RuleState → RulePiece → RuleState → Type 0
Goes (ended rules) q next = ⊥
Goes (fork p s other) q next = ((q ≡ fixed p) × (s ≡ next)) ⊎ ((apart p q ≡ true) × Goes other q next)
Goes (take w k other) q next = ((n : Spelling) × (q ≡ spelt w n) × IsOwn w n × (k n ≡ next)) ⊎ ((misses w q ≡ true) × Goes other q next)
Goes (termed ts k) q next = ((q ≡ fixed Comma) × (term (λ t. termed (ts ++ t ∷ []) k) ≡ next)) ⊎ ((apart Comma q ≡ true) × Goes (k ts) q next)
Goes (picked ps k) q next = ((q ≡ fixed Comma) × (pick (λ p. picked (ps ++ p ∷ []) k) ≡ next)) ⊎ ((apart Comma q ≡ true) × Goes (k ps) q next)
Goes (tested ts k) q next =
    ((q ≡ fixed Comma) × (tests_from ts k ≡ next)) ⊎ ((apart Comma q ≡ true) × Goes (k (record { tests = ts; rows = None })) q next)
Goes (ruled rules) q next = Begins (with_rule rules) q next

-- these pieces lead from the one state to the other
pub data GoesOn : RuleState → List RulePiece → RuleState → Type 0 where
  there : {s : RuleState} → GoesOn s [] s
  onward : {s next end : RuleState} {q : RulePiece} {qs : List RulePiece} → Goes s q next → GoesOn next qs end → GoesOn s (q ∷ qs) end

-- ---- by the token to the piece

-- the token is a piece that leads to the next state
pub record PieceOf (s : RuleState) (token : Lexeme) (next : RuleState) : Type 0 where
  pub piece : RulePiece
  pub is : IsRulePiece token piece
  pub goes : Goes s piece next

first_back : (go : Rule → RuleState) (token : Lexeme) (next : RuleState) → rule_after go token ≡ Some next
    → (q : RulePiece) × IsRulePiece token q × Begins go q next
first_back go token next e =
    chosen ((q : RulePiece) × IsRulePiece token q × Begins go q next) (wants (a_word refuse_word) token) (refuse_rest go token.at) _ next e
    (λ h g. (word_at refuse_word token.at, wants-is (a_word refuse_word) token h, inl (token.at, refl, g)))
    (λ _ e1. chosen ((q : RulePiece) × IsRulePiece token q × Begins go q next) (wants (a_word wait_word) token) (wait_rest go token.at) _ next e1
    (λ h g. (word_at wait_word token.at, wants-is (a_word wait_word) token h, inr (inl (token.at, refl, g))))
    (λ _ e2. chosen ((q : RulePiece) × IsRulePiece token q × Begins go q next) (wants (a_word give_word) token) (give_rest go token.at) None next e2
    (λ h g. (word_at give_word token.at, wants-is (a_word give_word) token h, inr (inr (token.at, refl, g))))
    (λ _ e3. none_some ((q : RulePiece) × IsRulePiece token q × Begins go q next) next e3)))

pub back : (s : RuleState) (token : Lexeme) (next : RuleState) → step s token ≡ Some next → PieceOf s token next
unfolding step
back (ended rules) token next e = none_some (PieceOf (ended rules) token next) next e
back (fork p s other) token next e =
    by_test (fits p token)
    (λ h. record { piece = fixed p; is = fits-is p token h; goes = inl (refl, some_is s next (sym (if_then (fits p token) (Some s) (step other token) h) ∙ e)) })
    (λ h.
    let c = back other token next (sym (if_else (fits p token) (Some s) (step other token) h) ∙ e) in
    record { piece = c.piece; is = c.is; goes = inr (fits-apart p c.piece token h c.is, c.goes) })
back (take w k other) token next e =
    by_test (wants w token)
    (λ h. record {
      piece = spelt w (spelt_by token);
      is = wants-is w token h;
      goes = inl (
        spelt_by token,
        refl,
        wants-own w token h,
        some_is (k (spelt_by token)) next (sym (if_then (wants w token) (Some (k (spelt_by token))) (step other token) h) ∙ e),
      );
    })
    (λ h.
    let c = back other token next (sym (if_else (wants w token) (Some (k (spelt_by token))) (step other token) h) ∙ e) in
    record { piece = c.piece; is = c.is; goes = inr (wants-misses w c.piece token h c.is, c.goes) })
back (termed ts k) token next e =
    by_test (fits Comma token)
    (λ h. record {
      piece = fixed Comma;
      is = fits-is Comma token h;
      goes = inl (refl, some_is (term (λ t. termed (ts ++ t ∷ []) k)) next (sym (if_then (fits Comma token) (Some (term (λ t. termed (ts ++ t ∷ []) k))) (step (k ts) token) h) ∙ e));
    })
    (λ h.
    let c = back (k ts) token next (sym (if_else (fits Comma token) (Some (term (λ t. termed (ts ++ t ∷ []) k))) (step (k ts) token) h) ∙ e) in
    record { piece = c.piece; is = c.is; goes = inr (fits-apart Comma c.piece token h c.is, c.goes) })
back (picked ps k) token next e =
    by_test (fits Comma token)
    (λ h. record {
      piece = fixed Comma;
      is = fits-is Comma token h;
      goes = inl (refl, some_is (pick (λ p. picked (ps ++ p ∷ []) k)) next (sym (if_then (fits Comma token) (Some (pick (λ p. picked (ps ++ p ∷ []) k))) (step (k ps) token) h) ∙ e));
    })
    (λ h.
    let c = back (k ps) token next (sym (if_else (fits Comma token) (Some (pick (λ p. picked (ps ++ p ∷ []) k))) (step (k ps) token) h) ∙ e) in
    record { piece = c.piece; is = c.is; goes = inr (fits-apart Comma c.piece token h c.is, c.goes) })
back (tested ts k) token next e =
    by_test (fits Comma token)
    (λ h. record {
      piece = fixed Comma;
      is = fits-is Comma token h;
      goes = inl (refl, some_is (tests_from ts k) next (sym (if_then (fits Comma token) (Some (tests_from ts k)) (step (k (record { tests = ts; rows = None })) token) h) ∙ e));
    })
    (λ h.
    let c = back (k (record { tests = ts; rows = None })) token next (sym (if_else (fits Comma token) (Some (tests_from ts k)) (step (k (record { tests = ts; rows = None })) token) h) ∙ e) in
    record { piece = c.piece; is = c.is; goes = inr (fits-apart Comma c.piece token h c.is, c.goes) })
back (ruled rules) token next e =
    let f = first_back (with_rule rules) token next e in
    record { piece = f.0; is = f.1; goes = f.2 }

-- ---- by the piece to the token

-- a token that is another first word of a rule
first_forth : (go : Rule → RuleState) (q : RulePiece) (token : Lexeme) (next : RuleState) → IsRulePiece token q → Begins go q next → rule_after go token ≡ Some next
first_forth go q token next is (inl g) =
    let is1 : IsRulePiece token (word_at refuse_word g.0) = subst (IsRulePiece token) g.1 is in
    if_then (wants (a_word refuse_word) token) _ _ (is-wants (a_word refuse_word) token (record { bytes = word_of refuse_word; at = g.0 }) is1)
    ∙ ap (λ v. Some (refuse_rest go v)) is1.2 ∙ ap Some g.2
first_forth go q token next is (inr (inl g)) =
    let is1 : IsRulePiece token (word_at wait_word g.0) = subst (IsRulePiece token) g.1 is in
    if_else (wants (a_word refuse_word) token) _ _ (misses-wants (a_word refuse_word) (word_at wait_word g.0) token refl is1)
    ∙ if_then (wants (a_word wait_word) token) _ _ (is-wants (a_word wait_word) token (record { bytes = word_of wait_word; at = g.0 }) is1)
    ∙ ap (λ v. Some (wait_rest go v)) is1.2 ∙ ap Some g.2
first_forth go q token next is (inr (inr g)) =
    let is1 : IsRulePiece token (word_at give_word g.0) = subst (IsRulePiece token) g.1 is in
    if_else (wants (a_word refuse_word) token) _ _ (misses-wants (a_word refuse_word) (word_at give_word g.0) token refl is1)
    ∙ if_else (wants (a_word wait_word) token) _ _ (misses-wants (a_word wait_word) (word_at give_word g.0) token refl is1)
    ∙ if_then (wants (a_word give_word) token) _ _ (is-wants (a_word give_word) token (record { bytes = word_of give_word; at = g.0 }) is1)
    ∙ ap (λ v. Some (give_rest go v)) is1.2 ∙ ap Some g.2

pub forth : (s : RuleState) (q : RulePiece) (token : Lexeme) (next : RuleState) → IsRulePiece token q → Goes s q next → step s token ≡ Some next
unfolding step
forth (ended rules) q token next is g = absurd g
forth (fork p s other) q token next is (inl g) =
    if_then (fits p token) _ _ (is-fits p token (subst (IsRulePiece token) g.0 is)) ∙ ap Some g.1
forth (fork p s other) q token next is (inr g) = if_else (fits p token) _ _ (apart-fits p q token g.0 is) ∙ forth other q token next is g.1
forth (take w k other) q token next is (inl g) =
    let is1 : IsRulePiece token (spelt w g.0) = subst (IsRulePiece token) g.1 is in
    if_then (wants w token) _ _ (is-wants w token g.0 is1) ∙ ap (λ v. Some (k v)) (is-spelt w token g.0 is1 g.2) ∙ ap Some g.3
forth (take w k other) q token next is (inr g) = if_else (wants w token) _ _ (misses-wants w q token g.0 is) ∙ forth other q token next is g.1
forth (termed ts k) q token next is (inl g) =
    if_then (fits Comma token) _ _ (is-fits Comma token (subst (IsRulePiece token) g.0 is)) ∙ ap Some g.1
forth (termed ts k) q token next is (inr g) = if_else (fits Comma token) _ _ (apart-fits Comma q token g.0 is) ∙ forth (k ts) q token next is g.1
forth (picked ps k) q token next is (inl g) =
    if_then (fits Comma token) _ _ (is-fits Comma token (subst (IsRulePiece token) g.0 is)) ∙ ap Some g.1
forth (picked ps k) q token next is (inr g) = if_else (fits Comma token) _ _ (apart-fits Comma q token g.0 is) ∙ forth (k ps) q token next is g.1
forth (tested ts k) q token next is (inl g) =
    if_then (fits Comma token) _ _ (is-fits Comma token (subst (IsRulePiece token) g.0 is)) ∙ ap Some g.1
forth (tested ts k) q token next is (inr g) =
    if_else (fits Comma token) _ _ (apart-fits Comma q token g.0 is) ∙ forth (k (record { tests = ts; rows = None })) q token next is g.1
forth (ruled rules) q token next is g = first_forth (with_rule rules) q token next is g

-- ---- pieces and tokens one after another

-- the pieces that tokens are which lead from the one state to the other
pub record Spelt (s end : RuleState) (tokens : List Lexeme) : Type 0 where
  pub pieces : List RulePiece
  pub are : ArePieces IsRulePiece tokens pieces
  pub goes : GoesOn s pieces end

pub spelt_from : (s end : RuleState) (tokens : List Lexeme) → Runs rule_reader s tokens end → Spelt s end tokens
spelt_from s end [] h = record { pieces = []; are = tt; goes = subst (GoesOn s []) h there }
spelt_from s end (t ∷ ts) h =
    let c = back s t h.0 h.1 in
    let i = spelt_from h.0 end ts h.2 in
    record { pieces = c.piece ∷ i.pieces; are = (c.is, i.are); goes = onward c.goes i.goes }

-- tokens that are pieces lead where the pieces do
pub runs_along : (s end : RuleState) (tokens : List Lexeme) (qs : List RulePiece) → ArePieces IsRulePiece tokens qs → GoesOn s qs end → Runs rule_reader s tokens end
runs_along s end [] [] are g = ends s end g
  where
    ends : (s end : RuleState) → GoesOn s [] end → s ≡ end
    ends s end there = refl
runs_along s end [] (q ∷ qs) are g = absurd are
runs_along s end (t ∷ ts) [] are g = absurd are
runs_along s end (t ∷ ts) (q ∷ qs) are (onward {next = next} g more) = (next, forth s q t next are.0 g, runs_along next end ts qs are.1 more)
