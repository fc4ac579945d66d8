-- What a described service answers.
use Rattle.std.specs.Prelude.{ℕ, ◌+◌, ◌-◌, ◌==◌, ◌&&◌, Bool, true, false, not, nat_le, nat_lt, min, max, if◌then◌else◌, List, [], ◌∷◌, None, Some, map, slice_get, unwrap_or}
use Rattle.std.specs.List.{list_all}
use Rattle.std.specs.Option.{option_map_or}
use Rattle.std.specs.declared.option.Option.{Option}
use Rattle.sg_facts.specs.sg_base.declared.value.Value.{Value}
use Rattle.sg_facts.specs.sg_base.declared.value.Value.TheVariants.{Word, Text}
use Rattle.sg_facts.specs.sg_base.declared.call.Call.{Call}
use Rattle.sg_facts.specs.sg_base.declared.reply.Code.TheVariants.{Overflow}
use Rattle.sg_facts.specs.sg_base.declared.reply.Good.{Good}
use Rattle.sg_facts.specs.sg_base.declared.reply.Reply.{Reply}
use Rattle.sg_facts.specs.sg_base.declared.reply.Reply.TheVariants.{Ok, Refused}
use Rattle.sg_facts.specs.declared.row.Row.{Row}
use Rattle.sg_facts.specs.declared.shape.Effect.{Effect}
use Rattle.sg_facts.specs.Facts.{fun_at}
use Rattle.sg_facts.specs.Legal.{Table}
use Rattle.sg_facts.specs.Track.{row_at, word_of, effect_of, field_at}
use Rattle.sg_facts.specs.Fields.{empty_field}
use Rattle.sg_described.specs.declared.description.Operand.{Operand}
use Rattle.sg_described.specs.declared.description.Operand.TheVariants.{Number, Caller, State, Argument, Own}
use Rattle.sg_described.specs.declared.description.Term.{Term}
use Rattle.sg_described.specs.declared.description.Term.TheVariants.{Only, Plus, Minus, Least, Greatest}
use Rattle.sg_described.specs.declared.description.Relation.{Relation}
use Rattle.sg_described.specs.declared.description.Relation.TheVariants.{Is, IsNot, Below, Above}
use Rattle.sg_described.specs.declared.description.Test.{Test}
use Rattle.sg_described.specs.declared.description.Verdict.{Verdict}
use Rattle.sg_described.specs.declared.description.Verdict.TheVariants.{Refuse, Wait, Give}
use Rattle.sg_described.specs.Described.{Described, Rule, rules_at}

-- ---- numbers and tests

-- what rules see of a call: the caller, the arguments, and the state and the fields of the row
pub record Env : Type 0 where
  pub client : ℕ
  pub args : List Value
  pub state : ℕ
  pub fields : List Value

-- the greatest number of 64 bits
abbrev pub last_word : ℕ
last_word = 18446744073709551615

abbrev pub operand_of : Env → Operand → ℕ
operand_of e (Number n) = n
operand_of e Caller = e.client
operand_of e State = e.state
operand_of e (Argument k) = word_of (unwrap_or (slice_get e.args k) (Word 0))
operand_of e (Own x) = word_of (field_at e.fields x)

abbrev pub term_of : Env → Term → ℕ
term_of e (Only a) = operand_of e a
term_of e (Plus a b) = min (operand_of e a + operand_of e b) last_word
term_of e (Minus a b) = operand_of e a - operand_of e b
term_of e (Least a b) = min (operand_of e a) (operand_of e b)
term_of e (Greatest a b) = max (operand_of e a) (operand_of e b)

abbrev pub stands : Relation → ℕ → ℕ → Bool
stands Is m n = m == n
stands IsNot m n = not (m == n)
stands Below m n = nat_lt m n
stands Above m n = nat_lt n m

abbrev pub holds : Env → Test → Bool
holds e t = stands t.relation (term_of e t.left) (term_of e t.right)

-- whether a rule applies
abbrev pub applies : Env → Rule → Bool
applies e r = list_all (holds e) r.tests

-- the verdict of the first rule that applies
abbrev pub verdict_of : Env → List Rule → Option Verdict
verdict_of e [] = None
verdict_of e (r ∷ rules) = if applies e r then Some r.verdict else verdict_of e rules

-- ---- what an Ok leaves

-- the words of an Ok by a verdict, or by none
abbrev pub words_in : Env → Option Verdict → List ℕ
words_in e None = []
words_in e (Some (Give t)) = term_of e t ∷ []
words_in e (Some Wait) = []
words_in e (Some (Refuse code)) = []

-- an Ok with a descriptor and words
abbrev pub said : ℕ → List ℕ → Good
said desc words = record { desc = desc; words = words; bytes = [] }

abbrev pub call_in : Env → Call
call_in e = record { client = e.client; seq = 0; fun = 0; desc = 0; args = e.args }

-- the greatest number of a field; 0 where there is no such field
abbrev pub most_at : List ℕ → ℕ → ℕ
most_at most x = unwrap_or (slice_get most x) 0

-- whether a field is a word, up to a greatest
abbrev pub is_up_to : ℕ → Value → Bool
is_up_to m (Word n) = nat_le n m
is_up_to m (Text bytes) = false

-- whether each effect leaves its field a word, up to its greatest
abbrev pub fits : List ℕ → Call → Good → List (ℕ × Effect) → List Value → Bool
fits most call good effects fields = list_all (λ e. is_up_to (most_at most e.0) (effect_of call good e.1 (field_at fields e.0))) effects

-- whether an Ok by a verdict leaves fields that fit
abbrev pub leaves_fit : Described → ℕ → Env → Option Verdict → Bool
leaves_fit d fun e v = fits d.most (call_in e) (said 0 (words_in e v)) (fun_at d.facts.funs fun).effects e.fields

-- ---- answers

-- what a verdict, or none, says of a call, by whether its Ok would leave fields that fit
abbrev pub judged : Option Verdict → Bool → Good → Option Reply
judged (Some (Refuse code)) fit good = Some (Refused code)
judged (Some Wait) fit good = None
judged (Some (Give t)) fit good = Some (if fit then Ok good else Refused Overflow)
judged None fit good = Some (if fit then Ok good else Refused Overflow)

-- what a function answers by a verdict, with the descriptor of its Ok
abbrev pub answer_by : Described → ℕ → ℕ → Env → Option Verdict → Option Reply
answer_by d fun desc e v = judged v (leaves_fit d fun e v) (said desc (words_in e v))

-- what a function answers, by what its rules see
abbrev pub answer_in : Described → ℕ → ℕ → Env → Option Reply
answer_in d fun desc e = answer_by d fun desc e (verdict_of e (rules_at d fun))

-- what rules see of a call on a row; one that makes a descriptor sees its own state and empty fields
abbrev pub env_of : Described → Call → Bool → Option Row → Env
env_of d call makes row = record {
  client = call.client;
  args = call.args;
  state = if makes then call.fun else option_map_or (λ r. r.state) row 0;
  fields = if makes then map empty_field d.facts.fields else option_map_or (λ r. r.fields) row [];
}

-- what a call is answered, by whether it makes a descriptor, the number of ids given, and the row of its descriptor
abbrev pub answer_of : Described → Call → Bool → ℕ → Option Row → Option Reply
answer_of d call makes given row = answer_in d call.fun (if makes then given + 1 else 0) (env_of d call makes row)

-- what a described service answers a call at an object; None where the caller has to wait
abbrev pub described_table : Described → Table
described_table d o call = answer_of d call (fun_at d.facts.funs call.fun).creation o.given (row_at o.rows call.desc)

-- the parts of an Ok: two of a function that makes a descriptor, one of the others
abbrev pub described_parts : Described → ℕ → ℕ
described_parts d fun = if (fun_at d.facts.funs fun).creation then 2 else 1
