-- Who waits for a described service goes on to wait.
use Rattle.std.specs.Prelude.{ℕ, ◌+◌, ◌-◌, ◌==◌, ◌&&◌, ◌||◌, Bool, true, false, not, nat_le, List, [], ◌∷◌, None, Some, length, take}
use Rattle.std.specs.List.{list_all, list_any}
use Rattle.std.specs.declared.option.Option.{Option}
use Rattle.sg_facts.specs.declared.shape.Effect.{Effect}
use Rattle.sg_facts.specs.declared.shape.Effect.TheVariants.{AddArg, AddRet, Clear, SubOne, SubRet}
use Rattle.sg_facts.specs.Allowed.{implies}
use Rattle.sg_facts.specs.Facts.{Fun, fun_at, state_after}
use Rattle.sg_facts.specs.Interface.{has_pair}
use Rattle.sg_facts.specs.Walks.{effect_on}
use Rattle.sg_described.specs.declared.bounds.Bounds.{Bounds}
use Rattle.sg_described.specs.declared.description.Operand.{Operand}
use Rattle.sg_described.specs.declared.description.Operand.TheVariants.{Own}
use Rattle.sg_described.specs.declared.description.Term.{Term}
use Rattle.sg_described.specs.declared.description.Term.TheVariants.{Only, Plus, Minus, Least, Greatest}
use Rattle.sg_described.specs.declared.description.Relation.{Relation}
use Rattle.sg_described.specs.declared.description.Relation.TheVariants.{Is, IsNot, Below, Above}
use Rattle.sg_described.specs.declared.description.Test.{Test}
use Rattle.sg_described.specs.Described.{Described, Rule, rules_at}
use Rattle.sg_described.specs.Known.{Known, after_tests, between, bounds_after, greatest, is_wait, surely_applies, surely_stops}
use Rattle.sg_described.specs.Meaning.{last_word, most_at}
use Rattle.sg_described.specs.NeverZero.{all_from}

-- ---- what an Ok of another function leaves of a test

-- whether an operand is none of the fields that effects change
abbrev pub is_left : List (ℕ × Effect) → Operand → Bool
is_left effects (Own x) = not (list_any (λ e. e.0 == x) effects)
is_left effects _ = true

-- whether effects leave a term as it is
abbrev pub term_is_left : List (ℕ × Effect) → Term → Bool
term_is_left effects (Only a) = is_left effects a
term_is_left effects (Plus a b) = is_left effects a && is_left effects b
term_is_left effects (Minus a b) = is_left effects a && is_left effects b
term_is_left effects (Least a b) = is_left effects a && is_left effects b
term_is_left effects (Greatest a b) = is_left effects a && is_left effects b

-- whether an effect, or none, never raises its field, and whether it never lowers it
abbrev pub never_raises : Option Effect → Bool
never_raises None = true
never_raises (Some Clear) = true
never_raises (Some SubOne) = true
never_raises (Some SubRet) = true
never_raises (Some _) = false

abbrev pub never_lowers : Option Effect → Bool
never_lowers None = true
never_lowers (Some (AddArg k)) = true
never_lowers (Some AddRet) = true
never_lowers (Some _) = false

-- whether a term is a field that effects never raise, or never lower
abbrev pub field_where : (Option Effect → Bool) → List (ℕ × Effect) → Term → Bool
field_where p effects t = elim t [ Only a ↦ elim a [ Own x ↦ p (effect_on effects x) | _ ↦ false ] | _ ↦ false ]

-- whether effects never raise a term, and whether they never lower it
abbrev pub never_rises : List (ℕ × Effect) → Term → Bool
never_rises effects t = term_is_left effects t || field_where never_raises effects t

abbrev pub never_falls : List (ℕ × Effect) → Term → Bool
never_falls effects t = term_is_left effects t || field_where never_lowers effects t

-- whether two numbers go on to stand so to each other
abbrev pub stands_on : Relation → List (ℕ × Effect) → Term → Term → Bool
stands_on Is effects a b = false
stands_on IsNot effects a b = false
stands_on Below effects a b = never_rises effects a && never_falls effects b
stands_on Above effects a b = never_falls effects a && never_rises effects b

-- whether a test is left as it is, and whether one that holds goes on to hold
abbrev pub test_is_left : List (ℕ × Effect) → Test → Bool
test_is_left effects t = term_is_left effects t.left && term_is_left effects t.right

abbrev pub test_lasts : List (ℕ × Effect) → Test → Bool
test_lasts effects t = test_is_left effects t || stands_on t.relation effects t.left t.right

-- whether a rule doesn't come in between: effects leave it as it is, or it makes wait too
abbrev pub stays_out : List (ℕ × Effect) → Rule → Bool
stays_out effects r = is_wait r.verdict || list_all (test_is_left effects) r.tests

-- ---- what is known where a rule applies

-- of any call on any row
abbrev pub known_of_all : Described → Known
known_of_all d = record { args = λ a. between 0 last_word; state = between 0 (length d.facts.funs); fields = λ x. between 0 (most_at (greatest d) x) }

-- where a rule applies
abbrev pub known_where : Described → Rule → Known
known_where d r = after_tests (length d.most) r.tests (known_of_all d)

-- after an Ok of a function that keeps the state
abbrev pub known_after : Described → ℕ → Known → Known
known_after d fun k = record {
  args = k.args;
  state = k.state;
  fields = λ x. bounds_after (effect_on (fun_at d.facts.funs fun).effects x) (most_at (greatest d) x) (k.fields x);
}

-- ---- who waits

-- a pair of a state and the other function, where both may be called in it
abbrev pub is_within : Bounds → ℕ → Bool
is_within r n = nat_le r.least n && nat_le n r.most

abbrev pub is_met_at : Described → ℕ → ℕ → Bounds → ℕ × ℕ → Bool
is_met_at d waiter fun states m = (m.1 == fun) && is_within states m.0 && has_pair d.facts.moves m.0 waiter

-- the two are never called in one state
abbrev pub never_meet : Described → ℕ → ℕ → Bounds → Bool
never_meet d waiter fun states = list_all (λ m. not (is_met_at d waiter fun states m)) d.facts.moves

-- the other leaves the state where the two meet
abbrev pub keeps_state : Described → ℕ → ℕ → Bounds → Bool
keeps_state d waiter fun states = list_all (λ m. implies (is_met_at d waiter fun states m) (state_after d.facts fun m.0 == m.0)) d.facts.moves

-- a rule that makes wait goes on to do so after an Ok of the other: neither a rule before it comes in between, nor does it cease to apply
abbrev pub waits_on : Described → ℕ → List Rule → Rule → Known → Bool
waits_on d fun before r k =
    list_all (stays_out (fun_at d.facts.funs fun).effects) before
    && (surely_applies (known_after d fun k) r || list_all (test_lasts (fun_at d.facts.funs fun).effects) r.tests)

-- where a rule made a function's caller wait, the other is never called, or never done, or leaves the caller waiting
abbrev pub leaves_waiting : Described → ℕ → List Rule → Rule → ℕ → Fun → Bool
leaves_waiting d waiter before r fun f =
    f.creation || f.terminal || f.wakeup || never_meet d waiter fun (known_where d r).state || surely_stops (known_where d r) (rules_at d fun)
    || (keeps_state d waiter fun (known_where d r).state && waits_on d fun before r (known_where d r))

-- who waits by the rule of a number, from 1, waits on whatever else is done
abbrev pub rule_waits : Described → ℕ → ℕ → Rule → Bool
rule_waits d waiter n r = not (is_wait r.verdict) || all_from (leaves_waiting d waiter (take (n - 1) (rules_at d waiter)) r) 1 d.facts.funs

-- who waits for a function waits on
abbrev pub waits_well : Described → ℕ → Fun → Bool
waits_well d waiter f = all_from (rule_waits d waiter) 1 (rules_at d waiter)
