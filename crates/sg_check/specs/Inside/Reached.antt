-- The states that descriptors can come to, and the functions that can't be reached.
use Rattle.std.specs.Prelude.{ℕ, ◌≡◌, ◌≤◌, ◌==◌, ◌↔◌, ◌⊎◌, Bool, true, ◌&&◌, ◌||◌, not, List}
use Rattle.std.specs.List.{Contains, list_any}
use Rattle.sg_check_statements.specs.sg_facts.Fits.{IsReached, needs_reach}
use Rattle.sg_check_statements.specs.sg_facts.Interface.{Declared}
use Rattle.sg_check_statements.specs.sg_facts.Limits.{most_funs}
use Rattle.sg_walk.specs.declared.place.Triple.{Triple}
use Rattle.sg_walk.specs.ReachedStates.Triples.{IsReachedTriple}
use Rattle.sg_check_statements.specs.Inside.Pieces.{IsUnreached}
use Rattle.sg_check.specs.Inside.Numbers.{has_number}

-- these are all triples that descriptors can come to
pub record AreTriples (i : Declared) (triples : List Triple) : Type 0 where
  pub only : (t : Triple) → Contains triples t → IsReachedTriple i t
  pub all : (t : Triple) → IsReachedTriple i t → Contains triples t

-- these are the states of triples
abbrev pub AreStates : List Triple → List ℕ → Type 0
AreStates triples states = (state : ℕ) → (has_number states state ≡ true) ↔ ((t : Triple) × Contains triples t × (t.state ≡ state))

-- whether a function is a recover step, or may be called in one of these states
abbrev pub is_reached : Declared → List ℕ → ℕ → Bool
is_reached i states fun = list_any (λ p. p.1 == fun) i.steps || list_any (λ p. (p.1 == fun) && has_number states p.0) i.moves

-- whether a function is to be reached and isn't, where descriptors come to these states
abbrev pub is_unreached : Declared → List ℕ → ℕ → Bool
is_unreached i states fun = needs_reach i fun && not (is_reached i states fun)

-- these are, of the numbers that a function may have, those of the functions that are to be reached and aren't; and it is known of each
-- function whether it is reached
pub record AreUnreached (i : Declared) (numbers : List ℕ) : Type 0 where
  pub are : (fun : ℕ) → fun ≤ most_funs → (has_number numbers fun ≡ true) ↔ IsUnreached i fun
  pub known : (fun : ℕ) → IsReached i fun ⊎ (IsReached i fun → ⊥)
