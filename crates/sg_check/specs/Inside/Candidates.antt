-- How far what a text declares is found to be good.
use Rattle.std.specs.Prelude.{ℕ, ◌≡◌, ◌+◌, ◌⊎◌, Bool, true, List}
use Rattle.std.specs.declared.result.Result.{Result}
use Rattle.std.specs.Result.{MatchResult}
use Rattle.sg_check_statements.specs.sg_facts.Facts.{Facts, facts_of}
use Rattle.sg_check_statements.specs.sg_facts.Fits.{IsReached}
use Rattle.sg_check_statements.specs.sg_facts.Interface.{Declared}
use Rattle.sg_check_statements.specs.sg_facts.Walks.{IsReachable}
use Rattle.sg_check_statements.specs.sg_parse.declared.tree.Tree.{Tree}
use Rattle.sg_check_statements.specs.declared.fault.CheckError.{CheckError}
use Rattle.sg_check_statements.specs.Faults.{interface_of}
use Rattle.sg_check_statements.specs.Flaws.{HasNoWalk}
use Rattle.sg_check_statements.specs.Stages.{IsClear, IsFirstFault}
use Rattle.sg_check.specs.declared.candidate.Candidate.{Candidate}
use Rattle.sg_check.specs.Inside.Reached.{AreTriples}
use Rattle.sg_check_statements.specs.Shapes.{is_shape}
use Rattle.sg_check.specs.Inside.Stuck.{HasWalk}

-- what a text declares of its service, with all that descriptors can come to; none of the first kinds of faults is there, so
-- many of them
pub record IsCandidate (services : List Facts) (tree : Tree) (c : Candidate) (kinds : ℕ) : Type 0 where
  pub clear : IsClear services tree (facts_of c.shape) kinds
  pub shape : is_shape (facts_of c.shape) ≡ true
  pub declared : c.iface ≡ interface_of (facts_of c.shape) tree
  pub triples : AreTriples c.iface c.triples

-- what is said of a candidate of which so many kinds are clear: one kind more is, or the error tells what is first wrong
abbrev pub IsStageOf : {X : Type 0} → Tree → Candidate → ℕ → Result X CheckError → Type 0
IsStageOf tree c kinds result =
    (services : List Facts) → IsCandidate services tree c kinds → MatchResult result (λ x. IsCandidate services tree c (kinds + 1)) (IsFirstFault services tree)

-- it is known of each function whether it is reached
abbrev pub HasReach : Declared → Type 0
HasReach i = (fun : ℕ) → IsReached i fun ⊎ (IsReached i fun → ⊥)

-- it is known of each state whether all that descriptors can come to in it has a walk
pub record HasWalks (i : Declared) : Type 0 where
  pub known : (state : ℕ) → HasNoWalk i state ⊎ (HasNoWalk i state → ⊥)
  pub walks : (made state : ℕ) (set : List Bool) → IsReachable i made state set → (HasNoWalk i state → ⊥) → HasWalk i made state set
