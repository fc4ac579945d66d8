-- Calls on timers that were asked little.
use Rattle.std.specs.Prelude.{ℕ, ◌+◌, ◌≤◌, Bool, ◌&&◌, List, [], ◌∷◌, None, Some}
use Rattle.std.specs.declared.option.Option.{Option}
use Rattle.test_asking.specs.sg_facts.sg_base.declared.value.Value.{Value}
use Rattle.test_asking.specs.sg_facts.sg_base.declared.value.Value.TheVariants.{Word}
use Rattle.test_asking.specs.sg_facts.Counted.{most_counted}
use Rattle.test_asking.specs.sg_facts.Facts.{fun_at, takes_desc}
use Rattle.test_asking.specs.sg_facts.Kinds.{kinds_fit}
use Rattle.test_asking.specs.sg_facts.Laws.{slow}
use Rattle.test_asking.specs.sg_facts.Object.{Object}
use Rattle.sg_timer.specs.TimerFacts.{timer_facts}
use Rattle.sg_timer.specs.TimerSound.{IsTimerSound}

-- after so few calls the timers are sound, and when they are due and the ids are far from their ends
pub record AreSmall (calls : ℕ) (o : Object) : Type 0 where
  pub sound : IsTimerSound o
  pub counted : most_counted timer_facts o.rows ≤ slow + calls
  pub given : o.given ≤ calls

-- a number as an argument, where there is one
abbrev pub args_of : Option ℕ → List Value
args_of None = []
args_of (Some n) = Word n ∷ []

-- whether a function is called on a timer, without a number
abbrev pub is_on : ℕ → Bool
is_on fun = takes_desc (fun_at timer_facts.funs fun) && kinds_fit (fun_at timer_facts.funs fun).kinds []
