-- What the parser's own clauses cite beside the automaton of rules, and what `sg_parse` proves its parser by.
use Rattle.std.specs.Prelude.{Bool, true, false, None, Some}
use Rattle.std.specs.declared.option.Option.{Option}
use Rattle.sg_rules.specs.Grammar.Inside.States.{RuleState}
pub mod Parts
pub mod Seen

-- the state after what may have come, or else the other
abbrev pub either_of : {X : Type 0} → (X → RuleState) → RuleState → Option X → RuleState
either_of k other None = other
either_of k other (Some x) = k x

-- the state after a word that may have come, or else the other
abbrev pub one_of : RuleState → RuleState → Bool → RuleState
one_of s other true = s
one_of s other false = other
