-- What descriptors come to, and what restores it, depends on no version.
use Rattle.std.proofs.Common.{◌≡◌, ℕ, Bool, List, [], ◌∷◌, None, refl, sym, ◌∙◌, ap}
use Rattle.std.specs.Prelude.{if◌then◌else◌}
use Rattle.sg_facts.specs.declared.shape.Leaves.{Leaves}
use Rattle.sg_facts.specs.declared.shape.Leaves.TheVariants.{Own, Same, Of}
use Rattle.sg_facts.specs.Facts.{fun_at}
use Rattle.sg_facts.specs.Fits.{Fits, IsReached, step, move}
use Rattle.sg_facts.specs.Inside.Walking.{LeavesDeclared, may_begin, may_go_on, restores_at}
use Rattle.sg_facts.specs.Interface.{Declared}
use Rattle.sg_facts.specs.Walks.{IsReachable, Spot, first_spot, made, moved, next_spot, restores, spot_from, spot_of}
use Rattle.sg_check_statements.specs.Flaws.{HasNoWalk}
use Rattle.sg_check_statements.specs.Inside.Pieces.{IsUnreached}

abbrev pub of_version : ℕ → Declared → Declared
of_version v i = record i { version = v }

module _ (i : Declared) (v w : ℕ) where
  reachable_on : (by state : ℕ) (set : List Bool) → IsReachable (of_version v i) by state set → IsReachable (of_version w i) by state set
  reachable_on by state set (made fun set' declared creation leads) = made fun set' declared creation leads
  reachable_on by state set (moved by' fun state' old new reached moves goes_on leads) = moved by' fun state' old new (reachable_on by' state' old reached) moves goes_on leads

  reached_on : (fun : ℕ) → IsReached (of_version v i) fun → IsReached (of_version w i) fun
  reached_on fun (step state steps) = step state steps
  reached_on fun (move by state set reached moves) = move by state set (reachable_on by state set reached) moves

  spots_same : (s : Spot) (walk : List ℕ) → spot_from (of_version v i) s walk ≡ spot_from (of_version w i) s walk
  spots_same s [] = refl
  spots_same s (fun ∷ walk) = ap (λ o. if may_go_on i s fun then o else None) (spots_same (next_spot i.facts fun s) walk)

  spot_same : (walk : List ℕ) → spot_of (of_version v i) walk ≡ spot_of (of_version w i) walk
  spot_same [] = refl
  spot_same (fun ∷ walk) = ap (λ o. if may_begin i fun then o else None) (spots_same (first_spot i.facts fun) walk)

  restores_same : (walk : List ℕ) (state : ℕ) (set : List Bool) → restores (of_version v i) walk state set ≡ restores (of_version w i) walk state set
  restores_same walk state set = ap (λ o. restores_at o state set) (spot_same walk)

  leaves_on : (l : Leaves) → LeavesDeclared (of_version v i) l → LeavesDeclared (of_version w i) l
  leaves_on Own is = tt
  leaves_on Same is = tt
  leaves_on (Of other) is = is

-- each of these of one version is that of another
pub unreached_on : (i : Declared) (v w : ℕ) (fun : ℕ) → IsUnreached (of_version v i) fun → IsUnreached (of_version w i) fun
unreached_on i v w fun is = (is.0, λ reached. is.1 (reached_on i w v fun reached))

pub stuck_on : (i : Declared) (v w : ℕ) (state : ℕ) → HasNoWalk (of_version v i) state → HasNoWalk (of_version w i) state
stuck_on i v w state is = record {
  made = is.made;
  set = is.set;
  reached = reachable_on i v w is.made state is.set is.reached;
  none = λ walk begins short restored. is.none walk begins short (restores_same i v w walk state is.set ∙ restored);
}

pub fits_on : (i : Declared) (v w : ℕ) → Fits (of_version v i) → Fits (of_version w i)
fits_on i v w fit = record {
  funs = fit.funs;
  moves = fit.moves;
  steps = fit.steps;
  moves_declared = fit.moves_declared;
  steps_declared = fit.steps_declared;
  leaves_declared = λ fun declared. leaves_on i v w (fun_at i.facts.funs fun).leaves (fit.leaves_declared fun declared);
  creation = fit.creation;
  reached = λ fun declared needs. reached_on i v w fun (fit.reached fun declared needs);
  walks = λ by state set reached.
      let walk = fit.walks by state set (reachable_on i w v by state set reached) in
      (walk.0, walk.1, sym (restores_same i v w walk.0 state set) ∙ walk.2, walk.3);
}
