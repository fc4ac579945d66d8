-- In which states a field is never 0: in the most states that keep to this. Each function that leaves such a state sets the field to its
-- caller; or it leaves it alone or adds to it, and was called in such a state. And each recover step from such a state leads to such a state.
use Rattle.std.specs.Prelude.{ℕ, ◌≡◌, zero, suc, ◌==◌, ◌&&◌, Bool, true, false, not, List, [], ◌∷◌, None, Some, filter, length}
use Rattle.std.specs.List.{list_all, list_any}
use Rattle.std.specs.declared.option.Option.{Option}
use Rattle.sg_facts.specs.declared.shape.Effect.{Effect}
use Rattle.sg_facts.specs.declared.shape.Effect.TheVariants.{SetCaller, AddArg, AddRet}
use Rattle.sg_facts.specs.Allowed.{implies}
use Rattle.sg_facts.specs.Facts.{Facts, Fun, fun_at, state_after}
use Rattle.sg_facts.specs.Walks.{effect_on}

-- a test of all elements, which are numbered from a number on
abbrev pub all_from : {A : Type 0} → (ℕ → A → Bool) → ℕ → List A → Bool
all_from p n [] = true
all_from p n (x ∷ xs) = p n x && all_from p (suc n) xs

-- whether a number is listed
abbrev pub is_listed : List ℕ → ℕ → Bool
is_listed ns n = list_any (λ m. m == n) ns

-- whether a field isn't 0 after an effect on it, or none, by whether it wasn't before
abbrev pub leaves_some : Option Effect → Bool → Bool
leaves_some None some = some
leaves_some (Some SetCaller) some = true
leaves_some (Some (AddArg k)) some = some
leaves_some (Some AddRet) some = some
leaves_some (Some _) some = false

-- the states that there are: one of each function
abbrev pub states_from : ℕ → List Fun → List ℕ
states_from n [] = []
states_from n (f ∷ funs) = n ∷ states_from (suc n) funs

module _ (facts : Facts) (x : ℕ) where
  -- a function that makes a descriptor in this state doesn't leave the field 0
  abbrev pub makes_some : ℕ → ℕ → Fun → Bool
  makes_some state fun f = implies (f.creation && (state_after facts fun fun == state)) (leaves_some (effect_on f.effects x) false)

  -- one that is called in a state and leaves this one doesn't either, where the field was never 0 in the listed states
  abbrev pub moves_some : List ℕ → ℕ → ℕ × ℕ → Bool
  moves_some states state m =
      implies (not (fun_at facts.funs m.1).creation && not (fun_at facts.funs m.1).terminal && (state_after facts m.1 m.0 == state))
      (leaves_some (effect_on (fun_at facts.funs m.1).effects x) (is_listed states m.0))

  -- a recover step from this state leads to a listed one
  abbrev pub stays_listed : List ℕ → ℕ → ℕ × ℕ → Bool
  stays_listed states state s = implies (s.0 == state) (is_listed states (state_after facts s.1 s.0))

  -- the field is never 0 in this state, if it never is in the listed ones
  abbrev pub keeps_some : List ℕ → ℕ → Bool
  keeps_some states state = all_from (makes_some state) 1 facts.funs && list_all (moves_some states state) facts.moves && list_all (stays_listed states state) facts.steps

  -- the states that are left of these, when those that don't keep to it have gone so many times
  abbrev pub states_left : ℕ → List ℕ → List ℕ
  states_left zero states = states
  states_left (suc n) states = states_left n (filter (keeps_some states) states)

  -- the states in which the field is never 0
  abbrev pub never_zero : List ℕ
  never_zero = states_left (length facts.funs) (states_from 1 facts.funs)

  -- states that keep to it
  pub record AreNeverZero (states : List ℕ) : Type 0 where
    pub listed : (state : ℕ) → is_listed states state ≡ true → is_listed (states_from 1 facts.funs) state ≡ true
    pub keep : (state : ℕ) → is_listed states state ≡ true → keeps_some states state ≡ true

-- whether a field is never 0 in a state
abbrev pub is_never_zero : Facts → ℕ → ℕ → Bool
is_never_zero facts state x = is_listed (never_zero facts x) state
