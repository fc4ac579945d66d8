-- What is known of numbers: the least and the greatest that each can be.
use Rattle.std.specs.Prelude.{ℕ, zero, suc, ◌+◌, ◌-◌, ◌==◌, ◌&&◌, ◌||◌, Bool, true, false, not, nat_le, nat_lt, min, max, if◌then◌else◌, List, [], ◌∷◌, None, Some}
use Rattle.std.specs.List.{list_all, list_any}
use Rattle.std.specs.declared.option.Option.{Option}
use Rattle.sg_facts.specs.declared.shape.Effect.{Effect}
use Rattle.sg_facts.specs.declared.shape.Effect.TheVariants.{SetCaller, SetArg, AddArg, SetRet, AddRet, Clear, SubOne, SubRet}
use Rattle.sg_facts.specs.Allowed.{implies}
use Rattle.sg_facts.specs.Facts.{Facts}
use Rattle.sg_facts.specs.Limits.{last_client}
use Rattle.sg_described.specs.declared.bounds.Bounds.{Bounds}
use Rattle.sg_described.specs.declared.description.Operand.{Operand}
use Rattle.sg_described.specs.declared.description.Operand.TheVariants.{Number, Caller, State, Argument, Own}
use Rattle.sg_described.specs.declared.description.Term.{Term}
use Rattle.sg_described.specs.declared.description.Term.TheVariants.{Only, Plus, Minus, Least, Greatest}
use Rattle.sg_described.specs.declared.description.Relation.{Relation}
use Rattle.sg_described.specs.declared.description.Relation.TheVariants.{Is, IsNot, Below, Above}
use Rattle.sg_described.specs.declared.description.Test.{Test}
use Rattle.sg_described.specs.declared.description.Verdict.{Verdict}
use Rattle.sg_described.specs.declared.description.Verdict.TheVariants.{Refuse, Wait, Give}
use Rattle.sg_described.specs.Described.{Described, Rule}
use Rattle.sg_described.specs.Meaning.{last_word, most_at}

-- a number is at least one and at most another
abbrev pub between : ℕ → ℕ → Bounds
between least most = record { least = least; most = most }

-- what is known of a call and its row: of the arguments, the state, and the fields
pub record Known : Type 0 where
  pub args : ℕ → Bounds
  pub state : Bounds
  pub fields : ℕ → Bounds

-- ---- terms and tests

abbrev pub operand_in : Known → Operand → Bounds
operand_in k (Number n) = between n n
operand_in k Caller = between 1 last_client
operand_in k State = k.state
operand_in k (Argument a) = k.args a
operand_in k (Own x) = k.fields x

abbrev pub term_in : Known → Term → Bounds
term_in k (Only a) = operand_in k a
term_in k (Plus a b) = between (min ((operand_in k a).least + (operand_in k b).least) last_word) (min ((operand_in k a).most + (operand_in k b).most) last_word)
term_in k (Minus a b) = between ((operand_in k a).least - (operand_in k b).most) ((operand_in k a).most - (operand_in k b).least)
term_in k (Least a b) = between (min (operand_in k a).least (operand_in k b).least) (min (operand_in k a).most (operand_in k b).most)
term_in k (Greatest a b) = between (max (operand_in k a).least (operand_in k b).least) (max (operand_in k a).most (operand_in k b).most)

-- whether two numbers within these bounds are surely one number, and whether they surely aren't
abbrev pub surely_same : Bounds → Bounds → Bool
surely_same m n = (m.least == m.most) && (n.least == n.most) && (m.least == n.least)

abbrev pub surely_apart : Bounds → Bounds → Bool
surely_apart m n = nat_lt m.most n.least || nat_lt n.most m.least

-- whether two numbers within these bounds surely stand so to each other, and whether they surely don't
abbrev pub surely_stands : Relation → Bounds → Bounds → Bool
surely_stands Is m n = surely_same m n
surely_stands IsNot m n = surely_apart m n
surely_stands Below m n = nat_lt m.most n.least
surely_stands Above m n = nat_lt n.most m.least

abbrev pub never_stands : Relation → Bounds → Bounds → Bool
never_stands Is m n = surely_apart m n
never_stands IsNot m n = surely_same m n
never_stands Below m n = nat_le n.most m.least
never_stands Above m n = nat_le m.most n.least

-- whether a test surely holds, and whether it surely doesn't
abbrev pub surely : Known → Test → Bool
surely k t = surely_stands t.relation (term_in k t.left) (term_in k t.right)

abbrev pub never : Known → Test → Bool
never k t = never_stands t.relation (term_in k t.left) (term_in k t.right)

-- whether a rule surely applies, and whether it surely doesn't
abbrev pub surely_applies : Known → Rule → Bool
surely_applies k r = list_all (surely k) r.tests

abbrev pub never_applies : Known → Rule → Bool
never_applies k r = list_any (never k) r.tests

-- ---- verdicts

-- whether a verdict is to wait, and whether it is an Ok with a word
abbrev pub is_wait : Verdict → Bool
is_wait Wait = true
is_wait (Refuse code) = false
is_wait (Give t) = false

abbrev pub is_give : Verdict → Bool
is_give (Give t) = true
is_give Wait = false
is_give (Refuse code) = false

-- whether a rule may refuse or put off
abbrev pub may_stop : Known → Rule → Bool
may_stop k r = not (is_give r.verdict) && not (never_applies k r)

-- whether rules surely refuse or put off
abbrev pub surely_stops : Known → List Rule → Bool
surely_stops k [] = false
surely_stops k (r ∷ rules) = if is_give r.verdict then never_applies k r && surely_stops k rules else surely_applies k r || surely_stops k rules

-- the greatest word that rules give
abbrev pub word_by : Known → Verdict → ℕ
word_by k (Give t) = (term_in k t).most
word_by k Wait = 0
word_by k (Refuse code) = 0

abbrev pub word_most : Known → List Rule → ℕ
word_most k [] = 0
word_most k (r ∷ rules) = max (word_by k r.verdict) (word_most k rules)

-- ---- what tests that hold tell

-- what is known of a number that stands so to another, by what was known of it
abbrev pub told_by : Relation → ℕ → Bounds → Bounds
told_by Is n r = between n n
told_by IsNot n r = between (if n == r.least then min (n + 1) last_word else r.least) (if n == r.most then n - 1 else r.most)
told_by Below n r = between r.least (min r.most (n - 1))
told_by Above n r = between (max r.least (min (n + 1) last_word)) r.most

abbrev pub with_field : Known → ℕ → Bounds → Known
with_field k x r = record { args = k.args; state = k.state; fields = λ y. if y == x then r else k.fields y }

abbrev pub with_state : Known → Bounds → Known
with_state k r = record { args = k.args; state = r; fields = k.fields }

-- an operand that stands so to a number; there are so many fields
abbrev pub after_told : ℕ → Operand → Relation → ℕ → Known → Known
after_told count (Own x) relation n k = if nat_lt x count then with_field k x (told_by relation n (k.fields x)) else k
after_told count State relation n k = with_state k (told_by relation n k.state)
after_told count _ relation n k = k

-- after a test of the state or a field against a number
abbrev pub after_test : ℕ → Test → Known → Known
after_test count t k = elim t.left [
  | Only a ↦ elim t.right [ Only b ↦ elim b [ Number n ↦ after_told count a t.relation n k | _ ↦ k ] | _ ↦ k ]
  | _ ↦ k
]

abbrev pub after_tests : ℕ → List Test → Known → Known
after_tests count [] k = k
after_tests count (t ∷ ts) k = after_tests count ts (after_test count t k)

-- ---- the greatest number that a field comes to

-- whether an effect leaves a client or none in its field, where one was there
abbrev pub leaves_client : Effect → Bool
leaves_client SetCaller = true
leaves_client Clear = true
leaves_client SubOne = true
leaves_client SubRet = true
leaves_client _ = false

-- whether a field has only ever a client, or none
abbrev pub has_client : Facts → ℕ → Bool
has_client facts x = list_all (λ f. list_all (λ e. implies (e.0 == x) (leaves_client e.1)) f.effects) facts.funs

-- the greatest numbers that fields come to, numbered from a number on
abbrev pub greatest_from : Facts → ℕ → List ℕ → List ℕ
greatest_from facts x [] = []
greatest_from facts x (m ∷ most) = (if has_client facts x then min m last_client else m) ∷ greatest_from facts (suc x) most

abbrev pub greatest : Described → List ℕ
greatest d = greatest_from d.facts 0 d.most

-- ---- fields after effects

-- a field after the effect on it, or none, where the effect's Ok leaves it up to its greatest
abbrev pub bounds_after : Option Effect → ℕ → Bounds → Bounds
bounds_after None most r = r
bounds_after (Some SetCaller) most r = between (min most 1) (min most last_client)
bounds_after (Some (SetArg k)) most r = between 0 most
bounds_after (Some (AddArg k)) most r = between r.least most
bounds_after (Some SetRet) most r = between 0 most
bounds_after (Some AddRet) most r = between r.least most
bounds_after (Some Clear) most r = between 0 0
bounds_after (Some SubOne) most r = between (r.least - 1) (r.most - 1)
bounds_after (Some SubRet) most r = between 0 r.most
