-- One kind of flaw after the other.
use Rattle.std.proofs.Common.{◌≡◌, ◌⊎◌, ℕ, zero, suc, ◌+◌, ◌<◌, ◌≤◌, None, Some, Ok, Err, get_or, rules, refl, sym, ◌∙◌, ap, subst, inl, inr, arith}
use Rattle.std.proofs.Math.Nat.{eq-or-lt_of_le}
use Rattle.std.proofs.lemmas.Bool.{cases_order}
use Rattle.std.specs.declared.option.Option.{Option}
use Rattle.std.specs.declared.result.Result.{Result}
use Rattle.std.specs.Result.{MatchResult}
use Rattle.sg_check_statements.specs.sg_parse.declared.tree.Tree.{Tree}
use Rattle.sg_shape.specs.declared.fault.ShapeError.{ShapeError}
use Rattle.sg_shape.specs.declared.fault.ShapeError.TheVariants.{Fault}
use Rattle.sg_shape.specs.declared.fault.ShapeFaultKind.{ShapeFaultKind}
use Rattle.sg_shape.specs.declared.fault.ShapeFaultKind.TheVariants.{Limit, DuplicateName, UnknownFunction, BadParams, MixedField, TwoEffects, Contradiction, PrivateLooksAround, QueryTakes, FileWithoutDesc, TextChanged, BlocksOrMakes, StateOfOther, MakesOn, ActsOnNone, NoParents, ReplayWrites, ArgumentLost, ReplayUnknown, RecoverMakes, WrongFact}
use Rattle.sg_shape.specs.Faults.{HasNoShapeFlaw, IsFirstShapeError, IsFirstShapeFlaw, place_of, shape_kinds, shape_rank}
use Rattle.sg_shape.specs.Inside.Stages.{AreClear}

-- ---- kinds and their places

at_rank : (kind : ShapeFaultKind) → get_or shape_kinds (shape_rank kind) WrongFact ≡ kind
at_rank Limit = refl
at_rank DuplicateName = refl
at_rank UnknownFunction = refl
at_rank BadParams = refl
at_rank MixedField = refl
at_rank TwoEffects = refl
at_rank Contradiction = refl
at_rank PrivateLooksAround = refl
at_rank QueryTakes = refl
at_rank FileWithoutDesc = refl
at_rank TextChanged = refl
at_rank BlocksOrMakes = refl
at_rank StateOfOther = refl
at_rank MakesOn = refl
at_rank ActsOnNone = refl
at_rank NoParents = refl
at_rank ReplayWrites = refl
at_rank ArgumentLost = refl
at_rank ReplayUnknown = refl
at_rank RecoverMakes = refl
at_rank WrongFact = refl

-- no two kinds are looked for at once
pub same_kind : (one other : ShapeFaultKind) → shape_rank one ≡ shape_rank other → one ≡ other
same_kind one other same = sym (at_rank one) ∙ ap (λ n. get_or shape_kinds n WrongFact) same ∙ at_rank other

-- each kind is looked for
pub ranked : (kind : ShapeFaultKind) → shape_rank kind < 21
ranked Limit = omega arith
ranked DuplicateName = omega arith
ranked UnknownFunction = omega arith
ranked BadParams = omega arith
ranked MixedField = omega arith
ranked TwoEffects = omega arith
ranked Contradiction = omega arith
ranked PrivateLooksAround = omega arith
ranked QueryTakes = omega arith
ranked FileWithoutDesc = omega arith
ranked TextChanged = omega arith
ranked BlocksOrMakes = omega arith
ranked StateOfOther = omega arith
ranked MakesOn = omega arith
ranked ActsOnNone = omega arith
ranked NoParents = omega arith
ranked ReplayWrites = omega arith
ranked ArgumentLost = omega arith
ranked ReplayUnknown = omega arith
ranked RecoverMakes = omega arith
ranked WrongFact = omega arith

-- the kinds stand in their order
rank_at : (n : ℕ) → n < 21 → shape_rank (get_or shape_kinds n WrongFact) ≡ n
rank_at n listed = search rules

-- ---- one verdict

module _ (tree : Tree) where
  -- nothing is wrong of the first kinds, none of them
  pub none_clear : AreClear tree 0
  none_clear kind less = absurd (omega (arith, less))

  -- where nothing of the next kind is wrong, one kind more is clear
  pub clear_more : (kind : ShapeFaultKind) → AreClear tree (shape_rank kind) → place_of tree kind ≡ None → AreClear tree (shape_rank kind + 1)
  clear_more kind clear none other less = elim (eq-or-lt_of_le {n = shape_rank other} {m = shape_rank kind} (omega arith)) [
    | inl same ↦ ap (place_of tree) (same_kind other kind same) ∙ none
    | inr before ↦ clear other before
  ]

  -- all kinds are clear
  pub all_clear : AreClear tree 21 → HasNoShapeFlaw tree
  all_clear clear kind = clear kind (ranked kind)

  -- what a kind answers
  pub stage : (kind : ShapeFaultKind) (place : Option ℕ) (r : Result (Unit {0}) ShapeError) → AreClear tree (shape_rank kind) → place ≡ place_of tree kind
      → MatchResult r (λ _. place ≡ None) (λ error. (at : ℕ) × (place ≡ Some at) × (error ≡ Fault (record { kind = kind; at = at })))
      → MatchResult r (λ _. AreClear tree (shape_rank kind + 1)) (IsFirstShapeError tree)
  stage kind place (Ok x) clear is none = clear_more kind clear (sym is ∙ none)
  stage kind place (Err error) clear is (at, some, told) =
      subst (IsFirstShapeError tree) (sym told) (record { here = sym is ∙ some; earliest = clear })

  below : (n : ℕ) → n ≤ 21 → AreClear tree n ⊎ ((kind : ShapeFaultKind) × (at : ℕ) × IsFirstShapeFlaw tree kind at)
  below zero within = inl none_clear
  below (suc n) within = elim (below n (omega arith)) [
    | inl clear ↦ next (place_of tree (get_or shape_kinds n WrongFact)) refl clear
    | inr first ↦ inr first
  ]
    where
      kind : ShapeFaultKind
      kind = get_or shape_kinds n WrongFact

      rank : shape_rank (get_or shape_kinds n WrongFact) ≡ n
      rank = rank_at n (omega arith)

      next : (o : Option ℕ) → place_of tree (get_or shape_kinds n WrongFact) ≡ o → AreClear tree n → AreClear tree (suc n) ⊎ ((kind : ShapeFaultKind) × (at : ℕ) × IsFirstShapeFlaw tree kind at)
      next None told clear =
          let more : shape_rank (get_or shape_kinds n WrongFact) + 1 ≡ suc n = omega (arith, rank) in
          inl (subst (AreClear tree) more (clear_more (get_or shape_kinds n WrongFact) (subst (AreClear tree) (sym rank) clear) told))
      next (Some at) told clear = inr (get_or shape_kinds n WrongFact, at, record { here = told; earliest = subst (AreClear tree) (sym rank) clear })

  -- either nothing is wrong with a text, or something is first wrong
  pub some_verdict : HasNoShapeFlaw tree ⊎ ((kind : ShapeFaultKind) × (at : ℕ) × IsFirstShapeFlaw tree kind at)
  some_verdict = elim (below 21 (omega arith)) [ inl clear ↦ inl (all_clear clear) | inr first ↦ inr first ]

  -- not both
  pub not_both : (kind : ShapeFaultKind) (at : ℕ) → HasNoShapeFlaw tree → IsFirstShapeFlaw tree kind at → ⊥
  not_both kind at sound first = let wrong : None ≡ Some at = sym (sound kind) ∙ first.here in cc wrong

  -- and that is one thing, at one place
  pub one_first : (kind other : ShapeFaultKind) (at place : ℕ) → IsFirstShapeFlaw tree kind at → IsFirstShapeFlaw tree other place → (kind ≡ other) × (at ≡ place)
  one_first kind other at place first second = elim (cases_order (shape_rank kind) (shape_rank other)) [
    | inl same ↦
        let one : kind ≡ other = same_kind kind other same in
        let both : Some at ≡ Some place = sym first.here ∙ ap (place_of tree) one ∙ second.here in
        (one, cc both)
    | inr apart ↦ elim apart [
      | inl less ↦ let wrong : None ≡ Some at = sym (second.earliest kind less) ∙ first.here in absurd (cc wrong)
      | inr less ↦ let wrong : None ≡ Some place = sym (first.earliest other less) ∙ second.here in absurd (cc wrong)
    ]
  ]
