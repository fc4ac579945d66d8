-- What helps to prove the laws of a service.
use Rattle.std.proofs.Common.{◌≡◌, ℕ, Bool, true, List, ◌∷◌, Some, sym, ◌∙◌, ap, subst, arith}
use Rattle.std.specs.Prelude.{◌==◌}
use Rattle.std.proofs.lemmas.Bool.Decides.{nat_tests}
use Rattle.sg_facts.specs.Facts.{Facts, fun_at}
use Rattle.sg_facts.specs.Interface.{Declared, has_pair}
use Rattle.sg_facts.specs.Walks.{IsWalkOf, Spot, restores_fields, spot_of}
use Rattle.sg_facts.specs.Inside.Walking.{may_go_on, restores_at}
use Rattle.sg_facts.specs.Fits.{Fits}
use Rattle.sg_facts.proofs.Replaying.Steps.{begins, both_true, first_of, goes_on_with, some_restored}

-- what holds of every interface that is given the facts of a service holds of the interfaces of the service
pub of_facts : (P : Declared → Type 0) (facts : Facts) → ((i : Declared) → P (record i { facts = facts }))
    → (i : Declared) → i.facts ≡ facts → P i
of_facts P facts so i is = subst (λ f. P (record i { facts = f })) (sym is) (so i)

-- the function that begins a walk makes a descriptor
pub begun_by : (i : Declared) (f : ℕ) (rest : List ℕ) (by state : ℕ) (set : List Bool) → IsWalkOf i (f ∷ rest) by state set → (fun_at i.facts.funs f).creation ≡ true
begun_by i f rest by state set walk =
    let s = some_restored (spot_of i (f ∷ rest)) state set walk.restored in
    let b = begins i f (first_of i s.0 f rest s.1).0 in
    b.makes

-- a step is one of the shape's
pub step_of : (i : Declared) (s : Spot) (f : ℕ) → Fits i → may_go_on i s f ≡ true → has_pair i.facts.steps s.state f ≡ true
step_of i s f fits may = let g = goes_on_with i s f may in fits.steps s.state f g.steps

-- where a walk ends
pub record Ends (i : Declared) (walk : List ℕ) (state : ℕ) (set : List Bool) : Type 0 where
  pub spot : Spot
  pub led : spot_of i walk ≡ Some spot
  pub state_is : spot.state ≡ state
  pub marks : restores_fields spot.marks set ≡ true

pub ends : (i : Declared) (walk : List ℕ) (by state : ℕ) (set : List Bool) → IsWalkOf i walk by state set → Ends i walk state set
ends i walk by state set its =
    let s = some_restored (spot_of i walk) state set its.restored in
    let restored : restores_at (Some s.0) state set ≡ true = ap (λ x. restores_at x state set) (sym s.1) ∙ its.restored in
    let parts = both_true (s.0.state == state) (restores_fields s.0.marks set) restored in
    let same = parts.0 in
    record { spot = s.0; led = s.1; state_is = grind (arith, nat_tests, same); marks = parts.1 }
