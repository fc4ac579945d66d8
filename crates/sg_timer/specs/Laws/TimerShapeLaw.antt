-- The shape of the timer service, and its answers, keep to what every shape allows.
use Rattle.std.proofs.Common.{◌≡◌, ℕ, zero, suc, ◌+◌, ◌<◌, Bool, true, false, cond, [], ◌∷◌, None, Some, length, refl, ap, subst, arith}
use Rattle.std.specs.Prelude.{◌==◌, nat_lt}
use Rattle.std.specs.declared.option.Option.{Option}
use Rattle.std.specs.List.{list_any}
use Rattle.sg_facts.specs.sg_base.declared.call.Call.{Call}
use Rattle.sg_facts.specs.sg_base.declared.reply.Code.TheVariants.{NotOwner, Occupied, Overflow, TooBig}
use Rattle.sg_facts.specs.sg_base.declared.reply.Good.{Good}
use Rattle.sg_facts.specs.sg_base.declared.reply.Reply.TheVariants.{Ok, Refused}
use Rattle.sg_facts.specs.declared.row.Row.{Row}
use Rattle.sg_facts.specs.Allowed.{wants_word}
use Rattle.sg_facts.specs.Facts.{fun_at}
use Rattle.sg_facts.specs.Track.{row_at, word_of, arg_at}
use Rattle.sg_facts.specs.Object.{Object}
use Rattle.sg_facts.specs.Laws.{ShapeAllows}
use Rattle.sg_slots.proofs.RowLaws.{NotGuards}
use Rattle.sg_timer.specs.TimerFacts.{timer_facts}
use Rattle.sg_timer.specs.TimerTable.{timer_table, timer_answer, field_in, first_timer, most_ticks, skipped, tag_of, worded}
use Rattle.sg_timer.specs.Inside.TimerAnswer.{create_answer, first_answer, timer_wait_answer}
use Rattle.sg_timer.specs.Laws.TimerBlockedLaw.{waits}

-- no refusal is the guard's
refuses_at : (fun : ℕ) (o : Object) (timer : Option Row) (call : Call) → NotGuards (timer_answer fun o timer call)
refuses_at zero o timer call = refl
refuses_at (suc zero) o timer call = at (nat_lt most_ticks (word_of (arg_at call 0))) (list_any (λ r. tag_of r == word_of (arg_at call 1)) o.rows)
  where
    at : (a b : Bool) → NotGuards (cond a (Some (Refused TooBig)) (cond b (Some (Refused Occupied)) (worded (o.given + 1) (word_of (arg_at call 0)))))
    at true b = refl
    at false true = refl
    at false false = tt
refuses_at (suc (suc zero)) o timer call = at (nat_lt most_ticks (field_in timer 3 + word_of (arg_at call 0)))
  where
    at : (b : Bool) → NotGuards (cond b (Some (Refused Overflow)) (Some (Ok (record { desc = 0; words = []; bytes = [] }))))
    at true = refl
    at false = tt
refuses_at (suc (suc (suc zero))) o timer call = at (nat_lt (field_in timer 3) (field_in timer 4))
  where
    at : (b : Bool) → NotGuards (cond b None (worded 0 (field_in timer 1)))
    at true = tt
    at false = tt
refuses_at (suc (suc (suc (suc zero)))) o timer call = tt
refuses_at (suc (suc (suc (suc (suc zero))))) o timer call = at (first_timer o.rows)
  where
    at : (found : Option Row) → NotGuards (first_answer found)
    at None = refl
    at (Some r) = tt
refuses_at (suc (suc (suc (suc (suc (suc zero)))))) o timer call = tt
refuses_at (suc (suc (suc (suc (suc (suc (suc zero))))))) o timer call = at (field_in timer 0 == call.client)
  where
    at : (b : Bool) → NotGuards (cond b (Some (Ok (record { desc = 0; words = []; bytes = [] }))) (Some (Refused NotOwner)))
    at true = tt
    at false = refl
refuses_at (suc (suc (suc (suc (suc (suc (suc (suc n)))))))) o timer call = refl

-- an Ok with a word has one
has_word : (desc word : ℕ) (good : Good) → worded desc word ≡ Some (Ok good) → 0 < length good.words
has_word desc word good is =
    let one : record { desc = desc; words = word ∷ []; bytes = [] } ≡ good = cc is in
    let some : 1 ≡ length good.words = ap (λ g. length g.words) one in
    omega (arith, some)

-- an Ok of a function that takes a returned word has one
words_at : (fun : ℕ) (o : Object) (timer : Option Row) (call : Call) (good : Good) → timer_answer fun o timer call ≡ Some (Ok good) → wants_word (fun_at timer_facts.funs fun) ≡ true → 0 < length good.words
words_at zero o timer call good is wants = absurd (cc wants)
words_at (suc zero) o timer call good is wants = at (nat_lt most_ticks (word_of (arg_at call 0))) (list_any (λ r. tag_of r == word_of (arg_at call 1)) o.rows) is
  where
    at : (a b : Bool) → cond a (Some (Refused TooBig)) (cond b (Some (Refused Occupied)) (worded (o.given + 1) (word_of (arg_at call 0)))) ≡ Some (Ok good) → 0 < length good.words
    at true b is = absurd (cc is)
    at false true is = absurd (cc is)
    at false false is = has_word (o.given + 1) (word_of (arg_at call 0)) good is
words_at (suc (suc zero)) o timer call good is wants = absurd (cc wants)
words_at (suc (suc (suc zero))) o timer call good is wants = at (nat_lt (field_in timer 3) (field_in timer 4)) is
  where
    at : (b : Bool) → cond b None (worded 0 (field_in timer 1)) ≡ Some (Ok good) → 0 < length good.words
    at true is = absurd (cc is)
    at false is = has_word 0 (field_in timer 1) good is
words_at (suc (suc (suc (suc zero)))) o timer call good is wants = absurd (cc wants)
words_at (suc (suc (suc (suc (suc zero))))) o timer call good is wants = absurd (cc wants)
words_at (suc (suc (suc (suc (suc (suc zero)))))) o timer call good is wants = has_word 0 (skipped (field_in timer 3) (field_in timer 4) (field_in timer 1)) good is
words_at (suc (suc (suc (suc (suc (suc (suc zero))))))) o timer call good is wants = absurd (cc wants)
words_at (suc (suc (suc (suc (suc (suc (suc (suc n)))))))) o timer call good is wants = absurd (cc wants)

-- only a wait blocks
blocks_at : (o : Object) (call : Call) → timer_table o call ≡ None → (fun_at timer_facts.funs call.fun).block ≡ true
blocks_at o call is =
    let waiting = waits call.fun o (row_at o.rows call.desc) call is in
    ap (λ f. (fun_at timer_facts.funs f).block) waiting.wait

-- the shape of the timer service, and its answers, keep to what every shape allows
pub timer_shape_allows : ShapeAllows timer_facts timer_table
timer_shape_allows = record {
  shape = refl;
  blocks = blocks_at;
  refuses = λ o call code is. subst NotGuards is (refuses_at call.fun o (row_at o.rows call.desc) call);
  words = λ o call good is wants. words_at call.fun o (row_at o.rows call.desc) call good is wants;
}
