-- The shape of the event service, and its answers, keep to what every shape allows; and no returned word counts: the one that there is only lowers a count.
use Rattle.std.proofs.Common.{◌≡◌, ℕ, zero, suc, ◌+◌, ◌<◌, Bool, true, false, cond, [], ◌∷◌, None, Some, length, min, refl, ap, subst, arith}
use Rattle.std.specs.Prelude.{◌==◌, nat_lt}
use Rattle.sg_facts.specs.sg_base.declared.reply.Code.TheVariants.{Overflow}
use Rattle.sg_facts.specs.sg_base.declared.reply.Good.{Good}
use Rattle.sg_facts.specs.sg_base.declared.reply.Reply.TheVariants.{Ok, Refused}
use Rattle.sg_facts.specs.Allowed.{wants_word}
use Rattle.sg_facts.specs.Facts.{fun_at}
use Rattle.sg_facts.specs.Track.{row_at, word_of, arg_at}
use Rattle.sg_facts.specs.Laws.{ShapeAllows, CountsSlowly}
use Rattle.sg_slots.proofs.RowLaws.{NotGuards, never_counts}
use Rattle.sg_event.specs.EventFacts.{event_facts}
use Rattle.sg_event.specs.EventTable.{event_table, event_answer}
use Rattle.sg_event.specs.Inside.EventAnswer.{count_in, most_count}
use Rattle.sg_event.specs.EventSound.{IsEventSound}

-- its one refusal is no refusal of the guard's
refuses_at : (fun given count n : ℕ) → NotGuards (event_answer fun given count n)
refuses_at zero given count n = refl
refuses_at (suc zero) given count n = tt
refuses_at (suc (suc zero)) given count n = at (count == 0)
  where
    at : (b : Bool) → NotGuards (cond b None (Some (Ok (record { desc = 0; words = []; bytes = [] }))))
    at true = tt
    at false = tt
refuses_at (suc (suc (suc zero))) given count n = at (nat_lt most_count (count + n))
  where
    at : (b : Bool) → NotGuards (cond b (Some (Refused Overflow)) (Some (Ok (record { desc = 0; words = []; bytes = [] }))))
    at true = refl
    at false = tt
refuses_at (suc (suc (suc (suc zero)))) given count n = tt
refuses_at (suc (suc (suc (suc (suc zero))))) given count n = tt
refuses_at (suc (suc (suc (suc (suc (suc m)))))) given count n = refl

-- only a wait blocks
blocks_at : (fun given count n : ℕ) → event_answer fun given count n ≡ None → (fun_at event_facts.funs fun).block ≡ true
blocks_at zero given count n is = absurd (cc is)
blocks_at (suc zero) given count n is = absurd (cc is)
blocks_at (suc (suc zero)) given count n is = refl
blocks_at (suc (suc (suc zero))) given count n is = absurd (at (nat_lt most_count (count + n)) is)
  where
    at : (b : Bool) → cond b (Some (Refused Overflow)) (Some (Ok (record { desc = 0; words = []; bytes = [] }))) ≡ None → ⊥
    at true is = cc is
    at false is = cc is
blocks_at (suc (suc (suc (suc zero)))) given count n is = absurd (cc is)
blocks_at (suc (suc (suc (suc (suc zero))))) given count n is = absurd (cc is)
blocks_at (suc (suc (suc (suc (suc (suc m)))))) given count n is = absurd (cc is)

-- only a take gives a word
words_at : (fun given count n : ℕ) (good : Good) → event_answer fun given count n ≡ Some (Ok good) → wants_word (fun_at event_facts.funs fun) ≡ true → 0 < length good.words
words_at zero given count n good is wants = absurd (cc wants)
words_at (suc zero) given count n good is wants = absurd (cc wants)
words_at (suc (suc zero)) given count n good is wants = absurd (cc wants)
words_at (suc (suc (suc zero))) given count n good is wants = absurd (cc wants)
words_at (suc (suc (suc (suc zero)))) given count n good is wants = absurd (cc wants)
words_at (suc (suc (suc (suc (suc zero))))) given count n good is wants =
    let one : record { desc = 0; words = min n count ∷ []; bytes = [] } ≡ good = cc is in
    let some : 1 ≡ length good.words = ap (λ g. length g.words) one in
    omega (arith, some)
words_at (suc (suc (suc (suc (suc (suc m)))))) given count n good is wants = absurd (cc wants)

-- the event service has a shape that is allowed, a call blocks only where its function may, no refusal is the guard's,
-- and an Ok has a word where a field takes one
pub event_shape_allows : ShapeAllows event_facts event_table
event_shape_allows = record {
  shape = refl;
  blocks = λ o call is. blocks_at call.fun o.given (count_in (row_at o.rows call.desc)) (word_of (arg_at call 0)) is;
  refuses = λ o call code is. subst NotGuards is (refuses_at call.fun o.given (count_in (row_at o.rows call.desc)) (word_of (arg_at call 0)));
  words = λ o call good is wants. words_at call.fun o.given (count_in (row_at o.rows call.desc)) (word_of (arg_at call 0)) good is wants;
}

-- the counted words of the event service rise slowly: it has none
pub event_counts_slowly : CountsSlowly event_facts event_table IsEventSound
event_counts_slowly = never_counts event_facts refl event_table IsEventSound
