-- Of a text at most one thing is first wrong.
use Rattle.std.proofs.Common.{◌≡◌, ◌⊎◌, ℕ, ◌<◌, List, [], ◌∷◌, ◌++◌, Some, refl, sym, ◌∙◌, ap, subst, inl, inr, arith}
use Rattle.std.specs.declared.option.Option.{Option}
use Rattle.std.specs.Prelude.{codes}
use Rattle.std.proofs.lemmas.Bool.{cases_lt}
use Rattle.std.proofs.lemmas.Bool.Decides.{eqb_tells}
use Rattle.sg_check_statements.specs.sg_facts.Facts.{Facts}
use Rattle.sg_check_statements.specs.sg_parse.declared.tree.Statement.{Statement}
use Rattle.sg_check_statements.specs.sg_parse.declared.tree.Statement.TheVariants.{Proto}
use Rattle.sg_check_statements.specs.sg_parse.declared.tree.Tree.{Tree}
use Rattle.sg_check_statements.specs.declared.fault.CheckKind.{CheckKind}
use Rattle.sg_check_statements.specs.declared.fault.CheckKind.TheVariants.{UnknownService, DuplicateName, UnknownFunction, BadParams, WrongFact, WrongFlag, WrongEffect, ForeignTransition, ForeignRecover, NoCreation, Unreached, NoWalk}
use Rattle.sg_check_statements.specs.Faults.{FirstOf, IsFault, IsFirstStatement, interface_of, kind_rank}
use Rattle.sg_check_statements.specs.Inside.Pieces.{IsOf, IsUnreached, bad_params, no_creation, unknown, wrong_effect, wrong_flag}
use Rattle.sg_check_statements.specs.Flaws.{HasNoWalk, IsProtoWhere, duplicate, foreign, wrong_fact}
use Rattle.sg_check_statements.proofs.Clear.{one_service, same_kind}

-- two places at which one list is split are one, or one is before the other
two_splits : (before after before' after' : List Statement) (one other : Statement) → before ++ one ∷ after ≡ before' ++ other ∷ after'
    → ((before ≡ before') × (one ≡ other)) ⊎ (((rest : List Statement) × (before' ≡ before ++ one ∷ rest)) ⊎ ((rest : List Statement) × (before ≡ before' ++ other ∷ rest)))
two_splits [] after [] after' one other is = inl (refl, cc is)
two_splits [] after (y ∷ before') after' one other is = let same : one ≡ y = cc is in inr (inl (before', ap (λ z. z ∷ before') (sym same)))
two_splits (x ∷ before) after [] after' one other is = let same : x ≡ other = cc is in inr (inr (before, ap (λ z. z ∷ before) same))
two_splits (x ∷ before) after (y ∷ before') after' one other is =
    let same : x ≡ y = cc is in
    let rest : before ++ one ∷ after ≡ before' ++ other ∷ after' = cc is in
    elim (two_splits before after before' after' one other rest) [
      | inl (all, both) ↦ inl (ap (λ z. x ∷ z) all ∙ ap (λ z. z ∷ before') same, both)
      | inr apart ↦ elim apart [
        | inl (more, split) ↦ inr (inl (more, ap (λ z. z ∷ before') (sym same) ∙ ap (λ z. x ∷ z) split))
        | inr (more, split) ↦ inr (inr (more, ap (λ z. x ∷ z) split ∙ ap (λ z. z ∷ before' ++ other ∷ more) same))
      ]
    ]

-- where a statement has a flaw at one place alone, so has a text
first_once : (Flaw : List Statement → Statement → ℕ → Type 0) → ((before : List Statement) (one : Statement) (here there : ℕ) → Flaw before one here → Flaw before one there → here ≡ there)
    → (statements : List Statement) (here there : ℕ) → IsFirstStatement Flaw statements here → IsFirstStatement Flaw statements there → here ≡ there
first_once Flaw once statements here there first other =
    elim (two_splits first.before first.after other.before other.after first.one other.one (sym first.split ∙ other.split)) [
      | inl (all, both) ↦ once first.before first.one here there first.flaw
          (subst (λ b. Flaw b first.one there) (sym all) (subst (λ s. Flaw other.before s there) (sym both) other.flaw))
      | inr apart ↦ elim apart [
        | inl (rest, split) ↦ absurd (other.none first.before first.one rest here split first.flaw)
        | inr (rest, split) ↦ absurd (first.none other.before other.one rest there split other.flaw)
      ]
    ]

one_place : (found : Option ℕ) (here there : ℕ) → found ≡ Some here → found ≡ Some there → here ≡ there
one_place found here there is other = let same : Some here ≡ Some there = sym is ∙ other in cc same

proto_once : (facts : Facts) (P : ℕ → Type 0) (one : Statement) (here there : ℕ) → IsProtoWhere facts P one here → IsProtoWhere facts P one there → here ≡ there
proto_once facts P (Proto ret name params) here there is other = sym is.0 ∙ other.0
proto_once facts P _ here there is other = absurd is

module _ (services : List Facts) (tree : Tree) where
  of_one_service : (Flaw : Facts → List Statement → Statement → ℕ → Type 0)
      → ((facts : Facts) (before : List Statement) (one : Statement) (here there : ℕ) → Flaw facts before one here → Flaw facts before one there → here ≡ there)
      → (here there : ℕ) → ((facts : Facts) × IsOf services tree facts × IsFirstStatement (Flaw facts) tree.statements here)
      → ((facts : Facts) × IsOf services tree facts × IsFirstStatement (Flaw facts) tree.statements there) → here ≡ there
  of_one_service Flaw once here there (facts, is, first) (facts', is', other) =
      first_once (Flaw facts) (once facts) tree.statements here there first
      (subst (λ f. IsFirstStatement (Flaw f) tree.statements there) (one_service services tree facts' facts is' is) other)

  found_once : (found : Facts → Option ℕ) (here there : ℕ) → ((facts : Facts) × IsOf services tree facts × (found facts ≡ Some here))
      → ((facts : Facts) × IsOf services tree facts × (found facts ≡ Some there)) → here ≡ there
  found_once found here there (facts, is, first) (facts', is', other) =
      one_place (found facts) here there first (ap found (one_service services tree facts facts' is is') ∙ other)

  same_place : (kind : CheckKind) (here there : ℕ) → FirstOf services tree kind here → FirstOf services tree kind there → here ≡ there
  same_place UnknownService here there first other = sym first.1 ∙ other.1
  same_place DuplicateName here there first other =
      first_once (λ before s p. duplicate before s ≡ Some p) (λ before s. one_place (duplicate before s)) tree.statements here there first other
  same_place UnknownFunction here there first other =
      of_one_service (λ facts before s p. unknown facts tree.statements s ≡ Some p) (λ facts before s. one_place (unknown facts tree.statements s)) here there first other
  same_place BadParams here there first other =
      of_one_service (λ facts before s p. bad_params facts s ≡ Some p) (λ facts before s. one_place (bad_params facts s)) here there first other
  same_place WrongFact here there first other = found_once (λ facts. wrong_fact facts tree.facts) here there first other
  same_place WrongFlag here there first other =
      of_one_service (λ facts before s p. wrong_flag facts tree.statements s ≡ Some p) (λ facts before s. one_place (wrong_flag facts tree.statements s)) here there first other
  same_place WrongEffect here there first other =
      of_one_service (λ facts before s p. wrong_effect facts tree.statements s ≡ Some p) (λ facts before s. one_place (wrong_effect facts tree.statements s)) here there first other
  same_place ForeignTransition here there first other =
      of_one_service (λ facts before s p. foreign (codes "sm_transition") facts.moves facts s ≡ Some p)
      (λ facts before s. one_place (foreign (codes "sm_transition") facts.moves facts s)) here there first other
  same_place ForeignRecover here there first other =
      of_one_service (λ facts before s p. foreign (codes "sm_recover") facts.steps facts s ≡ Some p)
      (λ facts before s. one_place (foreign (codes "sm_recover") facts.steps facts s)) here there first other
  same_place NoCreation here there first other = found_once (λ facts. no_creation facts tree.statements) here there first other
  same_place Unreached here there first other =
      of_one_service (λ facts before s p. IsProtoWhere facts (IsUnreached (interface_of facts tree)) s p)
      (λ facts before s. proto_once facts (IsUnreached (interface_of facts tree)) s) here there first other
  same_place NoWalk here there first other =
      of_one_service (λ facts before s p. IsProtoWhere facts (HasNoWalk (interface_of facts tree)) s p)
      (λ facts before s. proto_once facts (HasNoWalk (interface_of facts tree)) s) here there first other

-- one number is another, is less, or is greater
either_way : (m n : ℕ) → (m ≡ n) ⊎ ((m < n) ⊎ (n < m))
either_way m n = elim (eqb_tells m n) [
  | inl (t, same) ↦ inl same
  | inr (t, other) ↦ inr (elim (cases_lt m n) [ inl less ↦ inl less | inr more ↦ inr (omega (arith, more, other)) ])
]

pub same_fault : (services : List Facts) (tree : Tree) (one other : CheckKind) (here there : ℕ) → IsFault services tree one here → IsFault services tree other there
    → (one ≡ other) × (here ≡ there)
same_fault services tree one other here there is is' = elim (either_way (kind_rank one) (kind_rank other)) [
  | inl same ↦
      let kinds : one ≡ other = same_kind one other same in
      (kinds, same_place services tree other here there (subst (λ k. FirstOf services tree k here) kinds is.here) is'.here)
  | inr apart ↦ elim apart [
    | inl less ↦ absurd (is'.earliest one here less is.here)
    | inr more ↦ absurd (is.earliest other there more is'.here)
  ]
]
