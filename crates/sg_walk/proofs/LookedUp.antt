-- Least walks that are looked up, by what is known of a walk that is sought alone.
use Rattle.std.proofs.Common.{◌≡◌, ℕ, ◌≤◌, Bool, false, List, length, None, Some, subst, sym}
use Rattle.std.specs.Prelude.{IfNone, IfSome}
use Rattle.std.specs.declared.option.Option.{Option}
use Rattle.sg_facts.specs.Fields.{number_of}
use Rattle.sg_facts.specs.Interface.{Declared}
use Rattle.sg_facts.specs.Walks.{IsWalkOf, begin_of, most_calls, restores}
use Rattle.sg_walk.specs.LeastWalks.{AreLeastWalks, IsTheWalk, walk_at}

is_least : (i : Declared) (made state mask : ℕ) (found : Option (List ℕ)) → IsTheWalk i made state mask found
    → IfSome found (λ walk. (set : List Bool) × (number_of set ≡ mask) × IsWalkOf i walk made state set)
is_least i made state mask (Some walk) is = is
is_least i made state mask None is = tt

is_none : (i : Declared) (made state mask : ℕ) (found : Option (List ℕ)) → IsTheWalk i made state mask found
    → IfNone found ((walk : List ℕ) (set : List Bool) → begin_of walk ≡ made → length walk ≤ most_calls → number_of set ≡ mask → restores i walk state set ≡ false)
is_none i made state mask (Some walk) is = tt
is_none i made state mask None is = is

module _ (i : Declared) (walks : List ((ℕ × ℕ × ℕ) × List ℕ)) (made state mask : ℕ) (found : Option (List ℕ)) (are : AreLeastWalks i walks) (is : found ≡ walk_at walks made state mask) where
  it : IsTheWalk i made state mask found
  it = subst (IsTheWalk i made state mask) (sym is) (are made state mask)

  -- a walk that stands there is the least
  pub least_at : IfSome found (λ walk. (set : List Bool) × (number_of set ≡ mask) × IsWalkOf i walk made state set)
  least_at = is_least i made state mask found it

  -- where none stands, none restores
  pub none_at : IfNone found ((walk : List ℕ) (set : List Bool) → begin_of walk ≡ made → length walk ≤ most_calls → number_of set ≡ mask → restores i walk state set ≡ false)
  none_at = is_none i made state mask found it
