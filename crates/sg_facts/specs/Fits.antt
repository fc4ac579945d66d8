-- Interfaces that can be recovered.
use Rattle.std.specs.Prelude.{ℕ, ◌≡◌, ◌≤◌, Bool, true, ◌||◌, not, List, length}
use Rattle.sg_facts.specs.declared.shape.Leaves.TheVariants.{Of}
use Rattle.sg_facts.specs.Facts.{fun_at}
use Rattle.sg_facts.specs.Interface.{Declared, declares, has_pair, moves_on, steps_on}
use Rattle.sg_facts.specs.Walks.{IsReachable, begin_of, restores, most_calls}

-- a function needs to be reached: it neither makes a descriptor nor is a query
abbrev pub needs_reach : Declared → ℕ → Bool
needs_reach i fun = not ((fun_at i.facts.funs fun).creation || (fun_at i.facts.funs fun).query)

-- a function is reached: it is a recover step, or it may be called in a state that some descriptor can come to
pub data IsReached (i : Declared) (fun : ℕ) : Type 0 where
  step : (state : ℕ) → steps_on i state fun ≡ true → IsReached i fun
  move : (by state : ℕ) (set : List Bool) → IsReachable i by state set → moves_on i state fun ≡ true → IsReached i fun

-- an interface fits: what it declares is of its shape, what it names is declared, some function makes a descriptor, each
-- function is reached, and each state that a descriptor can come to has a walk
pub record Fits (i : Declared) : Type 0 where
  pub funs : (fun : ℕ) → declares i fun ≡ true → fun ≤ length i.facts.funs
  pub moves : (state fun : ℕ) → moves_on i state fun ≡ true → has_pair i.facts.moves state fun ≡ true
  pub steps : (state fun : ℕ) → steps_on i state fun ≡ true → has_pair i.facts.steps state fun ≡ true
  pub moves_declared : (state fun : ℕ) → moves_on i state fun ≡ true → (declares i state ≡ true) × (declares i fun ≡ true)
  pub steps_declared : (state fun : ℕ) → steps_on i state fun ≡ true → (declares i state ≡ true) × (declares i fun ≡ true)
  pub leaves_declared : (fun : ℕ) → declares i fun ≡ true → elim (fun_at i.facts.funs fun).leaves as (λ leaves. Type 0) [ Of other ↦ declares i other ≡ true | _ ↦ Unit {0} ]
  pub creation : (fun : ℕ) × (declares i fun ≡ true) × ((fun_at i.facts.funs fun).creation ≡ true)
  pub reached : (fun : ℕ) → declares i fun ≡ true → needs_reach i fun ≡ true → IsReached i fun
  pub walks : (by state : ℕ) (set : List Bool) → IsReachable i by state set
      → (walk : List ℕ) × (begin_of walk ≡ by) × (restores i walk state set ≡ true) × (length walk ≤ most_calls)
