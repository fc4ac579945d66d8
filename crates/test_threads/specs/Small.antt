-- Calls on threads that were asked little.
use Rattle.std.specs.Prelude.{ℕ, ◌+◌, ◌≤◌, Bool, ◌&&◌, List, [], ◌∷◌, None, Some}
use Rattle.std.specs.declared.option.Option.{Option}
use Rattle.test_asking.specs.sg_facts.sg_base.declared.value.Value.{Value}
use Rattle.test_asking.specs.sg_facts.sg_base.declared.value.Value.TheVariants.{Word}
use Rattle.test_asking.specs.sg_facts.Counted.{most_counted}
use Rattle.test_asking.specs.sg_facts.Facts.{fun_at, takes_desc}
use Rattle.test_asking.specs.sg_facts.Kinds.{kinds_fit}
use Rattle.test_asking.specs.sg_facts.Laws.{slow}
use Rattle.test_asking.specs.sg_facts.Object.{Object}
use Rattle.sg_sched.specs.SchedFacts.{sched_facts}

-- after so few calls the ranks and the ids are far from their ends
pub record AreSmall (calls : ℕ) (o : Object) : Type 0 where
  pub counted : most_counted sched_facts o.rows ≤ slow + calls
  pub given : o.given ≤ calls

-- a number as an argument, where there is one
abbrev pub args_of : Option ℕ → List Value
args_of None = []
args_of (Some n) = Word n ∷ []

-- whether a function is called on a thread, without a number
abbrev pub is_on : ℕ → Bool
is_on fun = takes_desc (fun_at sched_facts.funs fun) && kinds_fit (fun_at sched_facts.funs fun).kinds []
