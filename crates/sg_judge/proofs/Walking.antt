-- What is told besides of a state without a walk.
use Rattle.std.proofs.Common.{◌≡◌, inl, inr, ℕ, List, [], ◌∷◌, ◌++◌, refl, sym, subst}
use Rattle.sg_explain.specs.sg_facts.Facts.{Facts}
use Rattle.sg_explain.specs.sg_facts.Interface.{Declared}
use Rattle.sg_explain.specs.Stuck.{IsStuckLine}
use Rattle.sg_own.specs.sg_check_statements.Faults.{FirstOf, IsAccepted, IsFault}
use Rattle.sg_own.specs.sg_check_statements.Stages.{IsFirstFault}
use Rattle.sg_own.specs.sg_check_statements.declared.fault.CheckError.{CheckError}
use Rattle.sg_own.specs.sg_check_statements.declared.fault.CheckError.TheVariants.{Fault}
use Rattle.sg_own.specs.sg_check_statements.declared.fault.CheckFault.{CheckFault}
use Rattle.sg_own.specs.sg_check_statements.declared.fault.CheckKind.{CheckKind}
use Rattle.sg_own.specs.sg_check_statements.declared.fault.CheckKind.TheVariants.{NoWalk}
use Rattle.sg_own.specs.sg_shape.ShapeOfText.{shape_of_text}
use Rattle.sg_own.specs.declared.fault.OwnKind.TheVariants.{Walks}
use Rattle.sg_own.specs.Faults.{IsOwnFault}
use Rattle.sg_explain.specs.sg_input.sg_print.sg_parse.declared.tree.Tree.{Tree}
use Rattle.sg_judge.specs.Inside.Told.{TellsWalkMore}
use Rattle.sg_judge.specs.OwnExplained.{external_line}

module _ (tree : Tree) (at : ℕ) (facts : Facts) (its : facts ≡ shape_of_text tree) where
  pub found_fault : (error : CheckError) (fault : CheckFault) → error ≡ Fault fault → IsFirstFault (facts ∷ []) tree error → IsFault (facts ∷ []) tree fault.kind fault.at
  found_fault error fault is found = subst (λ (e : CheckError). IsFirstFault (facts ∷ []) tree e) is found

  -- where the text has a fault as one of the services, that is the state
  pub stuck_fault : IsOwnFault tree (Walks NoWalk) at → (kind : CheckKind) (place : ℕ) → IsFault (facts ∷ []) tree kind place → IsFault (facts ∷ []) tree NoWalk at
  stuck_fault (described, safe, inl fault) kind place found = subst (λ (f : Facts). IsFault (f ∷ []) tree NoWalk at) (sym its) fault
  stuck_fault (described, safe, inr ((i, accepted), external, no_walk)) kind place found =
      absurd (accepted.none kind place (subst (λ (f : Facts). FirstOf (f ∷ []) tree kind place) its found.here))

  pub tells_stuck : (old new : List ℕ) → IsFault (facts ∷ []) tree NoWalk at → ((line : List ℕ) × IsStuckLine (facts ∷ []) tree at line × (new ≡ old ++ line))
      → TellsWalkMore tree at old new
  tells_stuck old new fault (line, stuck, is) = (
    line,
    inl (subst (λ (f : Facts). IsFault (f ∷ []) tree NoWalk at) its fault, subst (λ (f : Facts). IsStuckLine (f ∷ []) tree at line) its stuck),
    is,
  )

  pub tells_external : (old new : List ℕ) (i : Declared) → IsAccepted (facts ∷ []) tree i → new ≡ old ++ external_line → TellsWalkMore tree at old new
  tells_external old new i accepted is = (external_line, inr ((i, subst (λ (f : Facts). IsAccepted (f ∷ []) tree i) its accepted), refl), is)
