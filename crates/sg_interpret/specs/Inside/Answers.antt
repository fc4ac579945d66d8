-- What a call is answered.
use Rattle.std.specs.Prelude.{ℕ, ◌≡◌, true, false, List, None, Some, length, map, take}
use Rattle.std.specs.declared.option.Option.{Option}
use Rattle.sg_described.specs.sg_facts.sg_base.declared.value.Value.TheVariants.{Word}
use Rattle.sg_described.specs.sg_facts.sg_base.declared.call.Call.{Call}
use Rattle.sg_described.specs.sg_facts.sg_base.declared.reply.Code.TheVariants.{Overflow}
use Rattle.sg_described.specs.sg_facts.sg_base.declared.reply.Reply.TheVariants.{Ok, Refused as IsRefused}
use Rattle.sg_described.specs.sg_facts.Facts.{Fun, fun_at, state_after}
use Rattle.sg_described.specs.sg_facts.Track.{fields_after}
use Rattle.sg_described.specs.sg_facts.Inside.Rows.{left_by}
use Rattle.sg_described.specs.sg_slots.Carry.{words_of}
use Rattle.sg_described.specs.Described.{Described, rules_at}
use Rattle.sg_described.specs.Meaning.{answer_in, fits, said, verdict_of, words_in}
use Rattle.sg_interpret.specs.declared.answer.Answer.{Answer}
use Rattle.sg_interpret.specs.declared.answer.Answer.TheVariants.{Refused, Waits, Done}
use Rattle.sg_interpret.specs.declared.answer.Left.{Left}
use Rattle.sg_interpret.specs.Inside.Views.{env_at}

-- ---- by the word of an Ok, where no rule refuses or puts off

-- the state and the first fields that an Ok with a word leaves, so many as there are
pub record LeavesBy (most : List ℕ) (call : Call) (f : Fun) (state : ℕ) (fields : List ℕ) (word : Option ℕ) (left : Left) : Type 0 where
  pub fit : fits most call (said 0 (words_of word)) f.effects (map Word fields) ≡ true
  pub state_is : left.state ≡ left_by f.leaves call.fun state
  pub fields_are : map Word (take (length most) left.fields) ≡ fields_after call (said 0 (words_of word)) f.effects (map Word fields)
  pub word_is : left.word ≡ word

-- an Ok, or it would take a field past its greatest
abbrev pub IsAnswerBy : List ℕ → Call → Fun → ℕ → List ℕ → Option ℕ → Answer → Type 0
IsAnswerBy most call f state fields word (Refused code) = (code ≡ Overflow) × (fits most call (said 0 (words_of word)) f.effects (map Word fields) ≡ false)
IsAnswerBy most call f state fields word Waits = ⊥
IsAnswerBy most call f state fields word (Done left) = LeavesBy most call f state fields word left

-- ---- by the description

module _ (d : Described) (call : Call) (state : ℕ) (fields : List ℕ) where
  -- an Ok that leaves a row so
  pub record Leaves (left : Left) : Type 0 where
    pub answered : (desc : ℕ) → answer_in d call.fun desc (env_at call state fields) ≡ Some (Ok (said desc (words_of left.word)))
    pub word_is : words_of left.word ≡ words_in (env_at call state fields) (verdict_of (env_at call state fields) (rules_at d call.fun))
    pub state_is : left.state ≡ state_after d.facts call.fun state
    pub fields_are : map Word (take (length d.most) left.fields) ≡ fields_after call (said 0 (words_of left.word)) (fun_at d.facts.funs call.fun).effects (map Word fields)

  -- the answer is the one by the description, whatever id a new descriptor has
  abbrev pub IsAnswer : Answer → Type 0
  IsAnswer (Refused code) = (desc : ℕ) → answer_in d call.fun desc (env_at call state fields) ≡ Some (IsRefused code)
  IsAnswer Waits = (desc : ℕ) → answer_in d call.fun desc (env_at call state fields) ≡ None
  IsAnswer (Done left) = Leaves left
