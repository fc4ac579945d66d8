-- One kind of flaw after the other.
use Rattle.std.proofs.Common.{◌≡◌, ◌⊎◌, ℕ, zero, suc, ◌+◌, ◌<◌, ◌≤◌, None, Some, Ok, Err, get_or, rules, refl, sym, ◌∙◌, ap, subst, inl, inr, arith}
use Rattle.std.proofs.Math.Nat.{eq-or-lt_of_le}
use Rattle.std.proofs.lemmas.Bool.{cases_order}
use Rattle.std.specs.declared.option.Option.{Option}
use Rattle.std.specs.declared.result.Result.{Result}
use Rattle.std.specs.Result.{MatchResult}
use Rattle.sg_shape.specs.sg_check_statements.sg_parse.declared.tree.Tree.{Tree}
use Rattle.sg_describe.specs.declared.fault.AnswerError.{AnswerError}
use Rattle.sg_describe.specs.declared.fault.AnswerError.TheVariants.{Fault}
use Rattle.sg_describe.specs.declared.fault.AnswerFaultKind.{AnswerFaultKind}
use Rattle.sg_describe.specs.declared.fault.AnswerFaultKind.TheVariants.{NotYet, UnknownField, UnknownCode, GuardsCode, NoArgument, TooBig, TwoAnswers, TwoLimits, MayNotBlock, NoWord, EndsWithWord, NotExternal}
use Rattle.sg_describe.specs.AnswerFaults.{HasNoAnswerFlaw, IsFirstAnswerError, IsFirstAnswerFlaw, answer_place, answer_kinds, answer_rank}
use Rattle.sg_describe.specs.Inside.Stages.{AreClear}

-- ---- kinds and their places

at_rank : (kind : AnswerFaultKind) → get_or answer_kinds (answer_rank kind) NotExternal ≡ kind
at_rank NotYet = refl
at_rank UnknownField = refl
at_rank UnknownCode = refl
at_rank GuardsCode = refl
at_rank NoArgument = refl
at_rank TooBig = refl
at_rank TwoAnswers = refl
at_rank TwoLimits = refl
at_rank MayNotBlock = refl
at_rank NoWord = refl
at_rank EndsWithWord = refl
at_rank NotExternal = refl

-- no two kinds are looked for at once
pub same_kind : (one other : AnswerFaultKind) → answer_rank one ≡ answer_rank other → one ≡ other
same_kind one other same = sym (at_rank one) ∙ ap (λ n. get_or answer_kinds n NotExternal) same ∙ at_rank other

-- each kind is looked for
pub ranked : (kind : AnswerFaultKind) → answer_rank kind < 12
ranked NotYet = omega arith
ranked UnknownField = omega arith
ranked UnknownCode = omega arith
ranked GuardsCode = omega arith
ranked NoArgument = omega arith
ranked TooBig = omega arith
ranked TwoAnswers = omega arith
ranked TwoLimits = omega arith
ranked MayNotBlock = omega arith
ranked NoWord = omega arith
ranked EndsWithWord = omega arith
ranked NotExternal = omega arith

-- the kinds stand in their order
rank_at : (n : ℕ) → n < 12 → answer_rank (get_or answer_kinds n NotExternal) ≡ n
rank_at n listed = search rules

-- ---- one verdict

module _ (tree : Tree) where
  -- nothing is wrong of the first kinds, none of them
  pub none_clear : AreClear tree 0
  none_clear kind less = absurd (omega (arith, less))

  -- where nothing of the next kind is wrong, one kind more is clear
  pub clear_more : (kind : AnswerFaultKind) → AreClear tree (answer_rank kind) → answer_place tree kind ≡ None → AreClear tree (answer_rank kind + 1)
  clear_more kind clear none other less = elim (eq-or-lt_of_le {n = answer_rank other} {m = answer_rank kind} (omega arith)) [
    | inl same ↦ ap (answer_place tree) (same_kind other kind same) ∙ none
    | inr before ↦ clear other before
  ]

  -- all kinds are clear
  pub all_clear : AreClear tree 12 → HasNoAnswerFlaw tree
  all_clear clear kind = clear kind (ranked kind)

  -- what a kind answers
  pub stage : (kind : AnswerFaultKind) (place : Option ℕ) (r : Result (Unit {0}) AnswerError) → AreClear tree (answer_rank kind) → place ≡ answer_place tree kind
      → MatchResult r (λ _. place ≡ None) (λ error. (at : ℕ) × (place ≡ Some at) × (error ≡ Fault (record { kind = kind; at = at })))
      → MatchResult r (λ _. AreClear tree (answer_rank kind + 1)) (IsFirstAnswerError tree)
  stage kind place (Ok x) clear is none = clear_more kind clear (sym is ∙ none)
  stage kind place (Err error) clear is (at, some, told) =
      subst (IsFirstAnswerError tree) (sym told) (record { here = sym is ∙ some; earliest = clear })

  below : (n : ℕ) → n ≤ 12 → AreClear tree n ⊎ ((kind : AnswerFaultKind) × (at : ℕ) × IsFirstAnswerFlaw tree kind at)
  below zero within = inl none_clear
  below (suc n) within = elim (below n (omega arith)) [
    | inl clear ↦ next (answer_place tree (get_or answer_kinds n NotExternal)) refl clear
    | inr first ↦ inr first
  ]
    where
      kind : AnswerFaultKind
      kind = get_or answer_kinds n NotExternal

      rank : answer_rank (get_or answer_kinds n NotExternal) ≡ n
      rank = rank_at n (omega arith)

      next : (o : Option ℕ) → answer_place tree (get_or answer_kinds n NotExternal) ≡ o → AreClear tree n → AreClear tree (suc n) ⊎ ((kind : AnswerFaultKind) × (at : ℕ) × IsFirstAnswerFlaw tree kind at)
      next None told clear =
          let more : answer_rank (get_or answer_kinds n NotExternal) + 1 ≡ suc n = omega (arith, rank) in
          inl (subst (AreClear tree) more (clear_more (get_or answer_kinds n NotExternal) (subst (AreClear tree) (sym rank) clear) told))
      next (Some at) told clear = inr (get_or answer_kinds n NotExternal, at, record { here = told; earliest = subst (AreClear tree) (sym rank) clear })

  -- either nothing is wrong with a text, or something is first wrong
  pub some_verdict : HasNoAnswerFlaw tree ⊎ ((kind : AnswerFaultKind) × (at : ℕ) × IsFirstAnswerFlaw tree kind at)
  some_verdict = elim (below 12 (omega arith)) [ inl clear ↦ inl (all_clear clear) | inr first ↦ inr first ]

  -- not both
  pub not_both : (kind : AnswerFaultKind) (at : ℕ) → HasNoAnswerFlaw tree → IsFirstAnswerFlaw tree kind at → ⊥
  not_both kind at sound first = let wrong : None ≡ Some at = sym (sound kind) ∙ first.here in cc wrong

  -- and that is one thing, at one place
  pub one_first : (kind other : AnswerFaultKind) (at place : ℕ) → IsFirstAnswerFlaw tree kind at → IsFirstAnswerFlaw tree other place → (kind ≡ other) × (at ≡ place)
  one_first kind other at place first second = elim (cases_order (answer_rank kind) (answer_rank other)) [
    | inl same ↦
        let one : kind ≡ other = same_kind kind other same in
        let both : Some at ≡ Some place = sym first.here ∙ ap (answer_place tree) one ∙ second.here in
        (one, cc both)
    | inr apart ↦ elim apart [
      | inl less ↦ let wrong : None ≡ Some at = sym (second.earliest kind less) ∙ first.here in absurd (cc wrong)
      | inr less ↦ let wrong : None ≡ Some place = sym (first.earliest other less) ∙ second.here in absurd (cc wrong)
    ]
  ]
