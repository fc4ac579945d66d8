-- One kind after the other.
use Rattle.std.proofs.Common.{◌≡◌, ℕ, ◌+◌, ◌==◌, if◌then◌else◌, List, None, Some, Ok, Err, refl, sym, ◌∙◌, ap, subst, inl, inr, arith}
use Rattle.std.proofs.Math.Nat.{eq-or-lt_of_le}
use Rattle.std.specs.declared.option.Option.{Option}
use Rattle.std.specs.declared.result.Result.{Result}
use Rattle.std.specs.Prelude.{MatchOption}
use Rattle.std.specs.Result.{MatchResult}
use Rattle.sg_facts.specs.Facts.{Facts}
use Rattle.sg_parse.specs.declared.tree.Statement.{Statement}
use Rattle.sg_parse.specs.declared.tree.Tree.{Tree}
use Rattle.sg_check_statements.specs.declared.fault.CheckError.{CheckError}
use Rattle.sg_check_statements.specs.declared.fault.CheckError.TheVariants.{Fault}
use Rattle.sg_check_statements.specs.declared.fault.CheckKind.{CheckKind}
use Rattle.sg_check_statements.specs.declared.fault.CheckKind.TheVariants.{UnknownService, DuplicateName, UnknownFunction, BadParams, WrongFact, WrongFlag, WrongEffect, ForeignTransition, ForeignRecover, NoCreation, Unreached, NoWalk}
use Rattle.sg_check_statements.specs.Faults.{FirstOf, IsFirstStatement, kind_rank}
use Rattle.sg_check_statements.specs.Inside.Pieces.{IsOf, NoStatement}
use Rattle.sg_check_statements.specs.Stages.{IsClear, IsFirstFault}
use Rattle.sg_check_statements.proofs.Firsts.{not_none}

-- no two kinds are looked for at once
kind_at : ℕ → CheckKind
kind_at n =
    if n == 0 then UnknownService else (if n == 1 then DuplicateName else (if n == 2 then UnknownFunction else (if n == 3 then BadParams
    else (if n == 4 then WrongFact else (if n == 5 then WrongFlag else (if n == 6 then WrongEffect else (if n == 7 then ForeignTransition
    else (if n == 8 then ForeignRecover else (if n == 9 then NoCreation else (if n == 10 then Unreached else NoWalk))))))))))

at_rank : (kind : CheckKind) → kind_at (kind_rank kind) ≡ kind
unfolding kind_at
at_rank UnknownService = refl
at_rank DuplicateName = refl
at_rank UnknownFunction = refl
at_rank BadParams = refl
at_rank WrongFact = refl
at_rank WrongFlag = refl
at_rank WrongEffect = refl
at_rank ForeignTransition = refl
at_rank ForeignRecover = refl
at_rank NoCreation = refl
at_rank Unreached = refl
at_rank NoWalk = refl

pub same_kind : (a b : CheckKind) → kind_rank a ≡ kind_rank b → a ≡ b
same_kind a b same = sym (at_rank a) ∙ ap kind_at same ∙ at_rank b

module _ (services : List Facts) (tree : Tree) where
  -- a text has one service
  pub one_service : (f g : Facts) → IsOf services tree f → IsOf services tree g → f ≡ g
  one_service f g is other = let same : Some f ≡ Some g = sym is ∙ other in cc same

  -- where no flaw of the next kind is there, one kind more is clear
  pub clear_more : (facts : Facts) (kind : CheckKind) → IsClear services tree facts (kind_rank kind) → ((at : ℕ) → FirstOf services tree kind at → ⊥) → IsClear services tree facts (kind_rank kind + 1)
  clear_more facts kind clear sound = record {
    service = clear.service;
    none = λ other place less flaw. elim (eq-or-lt_of_le {n = kind_rank other} {m = kind_rank kind} (omega arith)) [
      | inl same ↦ sound place (subst (λ k. FirstOf services tree k place) (same_kind other kind same) flaw)
      | inr before ↦ clear.none other place before flaw
    ];
  }

  -- what a stage answers
  pub stage : {X : Type 0} (facts : Facts) (kind : CheckKind) (flaw : Option ℕ) → IsClear services tree facts (kind_rank kind)
      → MatchOption flaw ((at : ℕ) → FirstOf services tree kind at → ⊥) (FirstOf services tree kind) → (r : Result X CheckError)
      → MatchResult r (λ x. flaw ≡ None) (λ error. (at : ℕ) × (flaw ≡ Some at) × (error ≡ Fault (record { kind = kind; at = at })))
      → MatchResult r (λ x. IsClear services tree facts (kind_rank kind + 1)) (IsFirstFault services tree)
  stage facts kind flaw clear told (Ok x) none =
      clear_more facts kind clear (subst (λ o. MatchOption o ((at : ℕ) → FirstOf services tree kind at → ⊥) (FirstOf services tree kind)) none told)
  stage facts kind flaw clear told (Err error) (at, some, is) =
      subst (IsFirstFault services tree) (sym is)
      record {
        here = subst (λ o. MatchOption o ((at : ℕ) → FirstOf services tree kind at → ⊥) (FirstOf services tree kind)) some told;
        earliest = clear.none;
      }

  not_of_another : (Flaw : Facts → List Statement → Statement → ℕ → Type 0) (facts : Facts) → IsOf services tree facts → NoStatement (Flaw facts) tree.statements
      → (at : ℕ) → ((f : Facts) × IsOf services tree f × IsFirstStatement (Flaw f) tree.statements at) → ⊥
  not_of_another Flaw facts is none at (f, other, first) =
      not_none (Flaw facts) tree.statements at (subst (λ g. IsFirstStatement (Flaw g) tree.statements at) (one_service f facts other is) first) none

  each_of_tree : (Flaw : Facts → List Statement → Statement → ℕ → Type 0) (facts : Facts) (flaw : Option ℕ) → IsOf services tree facts
      → MatchOption flaw (NoStatement (Flaw facts) tree.statements) (IsFirstStatement (Flaw facts) tree.statements)
      → MatchOption flaw ((at : ℕ) → ((f : Facts) × IsOf services tree f × IsFirstStatement (Flaw f) tree.statements at) → ⊥) (λ at. (f : Facts) × IsOf services tree f × IsFirstStatement (Flaw f) tree.statements at)
  each_of_tree Flaw facts None is none = not_of_another Flaw facts is none
  each_of_tree Flaw facts (Some at) is first = (facts, is, first)

  -- a flaw that is looked for in each statement
  pub each_statement : (Flaw : List Statement → Facts → List Statement → Statement → ℕ → Type 0) (facts : Facts) (flaw : Option ℕ) → IsOf services tree facts
      → (own : List Statement) → own ≡ tree.statements → MatchOption flaw (NoStatement (Flaw own facts) own) (IsFirstStatement (Flaw own facts) own)
      → MatchOption flaw ((at : ℕ) → ((f : Facts) × IsOf services tree f × IsFirstStatement (Flaw tree.statements f) tree.statements at) → ⊥)
      (λ at. (f : Facts) × IsOf services tree f × IsFirstStatement (Flaw tree.statements f) tree.statements at)
  each_statement Flaw facts flaw is own same told =
      each_of_tree (Flaw tree.statements) facts flaw is (subst (λ l. MatchOption flaw (NoStatement (Flaw l facts) l) (IsFirstStatement (Flaw l facts) l)) same told)
