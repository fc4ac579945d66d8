-- What a call is answered, by the verdict on it.
use Rattle.std.proofs.Common.{◌≡◌, ℕ, Bool, true, false, cond, List, [], map, None, Some, refl, sym, ◌∙◌, ap}
use Rattle.std.specs.declared.option.Option.{Option}
use Rattle.sg_described.specs.sg_facts.sg_base.declared.value.Value.TheVariants.{Word}
use Rattle.sg_described.specs.sg_facts.sg_base.declared.call.Call.{Call}
use Rattle.sg_described.specs.sg_facts.sg_base.declared.reply.Code.TheVariants.{Overflow}
use Rattle.sg_described.specs.sg_facts.sg_base.declared.reply.Reply.TheVariants.{Ok, Refused as IsRefused}
use Rattle.sg_described.specs.sg_facts.Facts.{Fun, fun_at}
use Rattle.sg_described.specs.sg_facts.Track.{fields_after}
use Rattle.sg_described.specs.sg_facts.Inside.Rows.{left_by}
use Rattle.sg_described.specs.sg_slots.Carry.{words_of}
use Rattle.sg_described.specs.declared.description.Verdict.{Verdict}
use Rattle.sg_described.specs.declared.description.Verdict.TheVariants.{Refuse, Wait, Give}
use Rattle.sg_described.specs.Described.{Described, rules_at}
use Rattle.sg_described.specs.Meaning.{Env, answer_by, answer_in, call_in, fits, leaves_fit, said, verdict_of, words_in}
use Rattle.sg_described.proofs.Keeping.Answering.{done_is, lets_do}
use Rattle.sg_described.proofs.Keeping.Effects.{fits_same}
use Rattle.sg_interpret.specs.declared.answer.Answer.{Answer}
use Rattle.sg_interpret.specs.declared.answer.Answer.TheVariants.{Refused, Waits, Done}
use Rattle.sg_interpret.specs.Inside.Answers.{IsAnswer, IsAnswerBy}
use Rattle.sg_interpret.specs.Inside.Views.{env_at}

module _ (d : Described) (call : Call) (state : ℕ) (fields : List ℕ) where
  abbrev e : Env
  e = env_at call state fields

  -- a rule refuses, or puts off
  pub refused : (code : _) → verdict_of (env_at call state fields) (rules_at d call.fun) ≡ Some (Refuse code) → IsAnswer d call state fields (Refused code)
  refused code is desc = ap (answer_by d call.fun desc e) is

  pub waits : verdict_of (env_at call state fields) (rules_at d call.fun) ≡ Some Wait → IsAnswer d call state fields Waits
  waits is desc = ap (answer_by d call.fun desc e) is

  -- none does
  module _ (v : Option Verdict) (is : verdict_of (env_at call state fields) (rules_at d call.fun) ≡ v) (does : lets_do v ≡ true) (word : Option ℕ) (word_is : words_of word ≡ words_in (env_at call state fields) v) where
    its_word : words_of word ≡ words_in e (verdict_of e (rules_at d call.fun))
    its_word = word_is ∙ ap (words_in e) (sym is)

    its_fit : (b : Bool) → fits d.most call (said 0 (words_of word)) (fun_at d.facts.funs call.fun).effects (map Word fields) ≡ b → leaves_fit d call.fun e (verdict_of e (rules_at d call.fun)) ≡ b
    its_fit b fit =
        fits_same d.most (call_in e) call (said 0 (words_in e (verdict_of e (rules_at d call.fun)))) (said 0 (words_of word)) refl refl (sym its_word) (fun_at d.facts.funs call.fun).effects (map Word fields) ∙ fit

    overflows : (desc : ℕ) → fits d.most call (said 0 (words_of word)) (fun_at d.facts.funs call.fun).effects (map Word fields) ≡ false → answer_in d call.fun desc e ≡ Some (IsRefused Overflow)
    overflows desc out = at v is does
      where
        at : (w : Option Verdict) → verdict_of e (rules_at d call.fun) ≡ w → lets_do w ≡ true → answer_in d call.fun desc e ≡ Some (IsRefused Overflow)
        at None none lets = ap (answer_by d call.fun desc e) none ∙ ap (λ b. Some (cond b (Ok (said desc [])) (IsRefused Overflow))) (ap (leaves_fit d call.fun e) (sym none) ∙ its_fit false out)
        at (Some (Give t)) some lets =
            ap (answer_by d call.fun desc e) some ∙ ap (λ b. Some (cond b (Ok (said desc (words_in e (Some (Give t))))) (IsRefused Overflow))) (ap (leaves_fit d call.fun e) (sym some) ∙ its_fit false out)
        at (Some (Refuse code)) some lets = absurd (cc lets)
        at (Some Wait) some lets = absurd (cc lets)

    answers : (desc : ℕ) → fits d.most call (said 0 (words_of word)) (fun_at d.facts.funs call.fun).effects (map Word fields) ≡ true → answer_in d call.fun desc e ≡ Some (Ok (said desc (words_of word)))
    answers desc fit = done_is d call.fun desc e (ap lets_do is ∙ does) (its_fit true fit) ∙ ap (λ l. Some (Ok (said desc l))) (sym its_word)

    pub done_so : (f : Fun) → f ≡ fun_at d.facts.funs call.fun → (answer : Answer) → IsAnswerBy d.most call f state fields word answer → IsAnswer d call state fields answer
    done_so f same (Refused code) by = λ desc.
        overflows desc (ap (λ (g : Fun). fits d.most call (said 0 (words_of word)) g.effects (map Word fields)) (sym same) ∙ by.1) ∙ ap (λ c. Some (IsRefused c)) (sym by.0)
    done_so f same Waits by = absurd by
    done_so f same (Done left) by = record {
      answered = λ desc. answers desc (ap (λ (g : Fun). fits d.most call (said 0 (words_of word)) g.effects (map Word fields)) (sym same) ∙ by.fit) ∙ ap (λ w. Some (Ok (said desc (words_of w)))) (sym by.word_is);
      word_is = ap words_of by.word_is ∙ its_word;
      state_is = by.state_is ∙ ap (λ (g : Fun). left_by g.leaves call.fun state) same;
      fields_are = by.fields_are ∙ ap (λ (g : Fun). fields_after call (said 0 (words_of word)) g.effects (map Word fields)) same
          ∙ ap (λ w. fields_after call (said 0 (words_of w)) (fun_at d.facts.funs call.fun).effects (map Word fields)) (sym by.word_is);
    }
