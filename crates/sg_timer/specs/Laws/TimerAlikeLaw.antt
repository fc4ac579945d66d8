-- The timer service answers alike under other ids.
use Rattle.std.proofs.Common.{◌≡◌, ℕ, zero, suc, ◌+◌, Bool, true, false, cond, List, [], ◌∷◌, None, Some, refl, sym, ◌∙◌, ap, subst}
use Rattle.std.specs.Prelude.{◌==◌, ◌-◌, nat_lt}
use Rattle.std.specs.declared.option.Option.{Option}
use Rattle.std.specs.List.{list_any}
use Rattle.sg_facts.specs.sg_base.declared.value.Value.{Value}
use Rattle.sg_facts.specs.sg_base.declared.call.Call.{Call}
use Rattle.sg_facts.specs.sg_base.declared.reply.Code.TheVariants.{Occupied, TooBig}
use Rattle.sg_facts.specs.sg_base.declared.reply.Reply.TheVariants.{Ok, Refused}
use Rattle.sg_facts.specs.declared.row.Row.{Row}
use Rattle.sg_facts.specs.Facts.{fun_at}
use Rattle.sg_facts.specs.Track.{row_at, word_of, field_at, arg_at}
use Rattle.sg_facts.specs.Object.{Object}
use Rattle.sg_facts.specs.Alike.{named, IsAlike, Serves, SameReply}
use Rattle.sg_facts.specs.Laws.{AnswersAlike, Passes}
use Rattle.sg_slots.proofs.RowLaws.{row_of_call, alike_row, same_either, same_done}
use Rattle.sg_slots.proofs.Alike.{StandForOne, same_any, same_first}
use Rattle.sg_slots.proofs.Firsts.{first_of}
use Rattle.sg_timer.specs.TimerFacts.{timer_facts}
use Rattle.sg_timer.specs.TimerTable.{timer_table, timer_answer, field_in, first_timer, left_of, most_ticks, skipped, tag_of, worded}
use Rattle.sg_timer.specs.Inside.TimerAnswer.{create_answer, first_answer, free_answer, free_of, skip_of, tick_answer, tick_of, timer_wait_answer, wait_of}
use Rattle.sg_timer.specs.Inside.TimerFirst.{any_row, first_of_all}
use Rattle.sg_timer.specs.TimerSound.{IsTimerSound}

-- a new timer, or a refusal, under either service's next id
same_new : (names : List (ℕ × ℕ)) (given given' period : ℕ) (taken taken' : Bool) → taken' ≡ taken → SameReply names true (create_answer given period taken) (create_answer given' period taken')
same_new names given given' period taken taken' same =
    subst (λ b. SameReply names true (create_answer given period taken) (create_answer given' period b)) (sym same) (at (nat_lt most_ticks period) taken)
  where
    at : (a b : Bool) → SameReply names true (cond a (Some (Refused TooBig)) (cond b (Some (Refused Occupied)) (worded (given + 1) period)))
        (cond a (Some (Refused TooBig)) (cond b (Some (Refused Occupied)) (worded (given' + 1) period)))
    at true b = refl
    at false true = refl
    at false false = (refl, refl)

-- the same word
same_word : (names : List (ℕ × ℕ)) (word : ℕ) → named names 0 ≡ 0 → SameReply names false (worded 0 word) (worded 0 word)
same_word names word none = (refl, refl, sym none)

module _ (names : List (ℕ × ℕ)) (o held : Object) (client seq desc : ℕ) (args : List Value) (sound : IsTimerSound o) where
  abbrev call_of : ℕ → Call
  call_of fun = record { client = client; seq = seq; fun = fun; desc = desc; args = args }

  same_tag : (r v : Row) → IsAlike names r v → tag_of v ≡ tag_of r
  same_tag r v alike = ap (λ fields. word_of (field_at fields 2)) alike.fields

  same_left : (r v : Row) → IsAlike names r v → left_of v ≡ left_of r
  same_left r v alike = ap (λ fields. word_of (field_at fields 4) - word_of (field_at fields 3)) alike.fields

  module _ (call : Call) (serves : Serves timer_facts names o held call) (all : (fun_at timer_facts.funs call.fun).all ≡ true) where
    -- a tag is taken in the one where it is in the other
    same_taken : (tag : ℕ) → list_any (λ r. tag_of r == tag) held.rows ≡ list_any (λ r. tag_of r == tag) o.rows
    same_taken tag = same_any timer_facts names o held call serves all sound.general (λ r. tag_of r == tag) (λ r v alike. ap (λ n. n == tag) (same_tag r v alike))

    -- the first of both is one
    same_first_timer : SameReply names false (first_answer (first_timer o.rows)) (first_answer (first_timer held.rows))
    same_first_timer =
        subst (λ m. SameReply names false (first_answer m) (first_answer (first_timer held.rows))) (first_of_all o.rows)
        (subst (λ n. SameReply names false (first_answer (first_of left_of tag_of any_row o.rows)) (first_answer n)) (first_of_all held.rows)
        (at (first_of left_of tag_of any_row o.rows) (first_of left_of tag_of any_row held.rows) (same_first timer_facts names o held call serves all sound.general left_of tag_of any_row same_left same_tag (λ r v alike. refl) sound.apart)))
      where
        at : (m n : Option Row) → StandForOne names m n → SameReply names false (first_answer m) (first_answer n)
        at None None one = refl
        at (Some r) (Some v) one = (refl, refl, one)
        at None (Some v) one = absurd one
        at (Some r) None one = absurd one

  module _ (r v : Row) (found : row_at o.rows desc ≡ Some r) (found' : row_at held.rows (named names desc) ≡ Some v) (same : v.fields ≡ r.fields) (none : named names 0 ≡ 0) where
    same_tick : (ticks : ℕ) → SameReply names false (tick_of (row_at o.rows desc) ticks) (tick_of (row_at held.rows (named names desc)) ticks)
    same_tick ticks =
        let is : tick_of (row_at held.rows (named names desc)) ticks ≡ tick_of (row_at o.rows desc) ticks =
        ap (λ row. tick_of row ticks) found' ∙ ap (λ fields. tick_answer (word_of (field_at fields 3)) ticks) same ∙ sym (ap (λ row. tick_of row ticks) found) in
        subst (λ answer. SameReply names false (tick_of (row_at o.rows desc) ticks) answer) (sym is)
        (same_either names (nat_lt most_ticks (field_in (row_at o.rows desc) 3 + ticks)) _ _ refl (same_done names none))

    same_wait : SameReply names false (wait_of (row_at o.rows desc)) (wait_of (row_at held.rows (named names desc)))
    same_wait =
        let is : wait_of (row_at held.rows (named names desc)) ≡ wait_of (row_at o.rows desc) =
        ap wait_of found' ∙ ap (λ fields. timer_wait_answer (word_of (field_at fields 3)) (word_of (field_at fields 4)) (word_of (field_at fields 1))) same ∙ sym (ap wait_of found) in
        subst (λ answer. SameReply names false (wait_of (row_at o.rows desc)) answer) (sym is)
        (same_either names (nat_lt (field_in (row_at o.rows desc) 3) (field_in (row_at o.rows desc) 4)) _ _ tt (same_word names (field_in (row_at o.rows desc) 1) none))

    same_skip : SameReply names false (skip_of (row_at o.rows desc)) (skip_of (row_at held.rows (named names desc)))
    same_skip =
        let is : skip_of (row_at held.rows (named names desc)) ≡ skip_of (row_at o.rows desc) =
        ap skip_of found' ∙ ap (λ fields. worded 0 (skipped (word_of (field_at fields 3)) (word_of (field_at fields 4)) (word_of (field_at fields 1)))) same ∙ sym (ap skip_of found) in
        subst (λ answer. SameReply names false (skip_of (row_at o.rows desc)) answer) (sym is)
        (same_word names (skipped (field_in (row_at o.rows desc) 3) (field_in (row_at o.rows desc) 4) (field_in (row_at o.rows desc) 1)) none)

    same_free : SameReply names false (free_of (row_at o.rows desc) client) (free_of (row_at held.rows (named names desc)) client)
    same_free =
        let is : free_of (row_at held.rows (named names desc)) client ≡ free_of (row_at o.rows desc) client =
        ap (λ row. free_of row client) found' ∙ ap (λ fields. free_answer (word_of (field_at fields 0)) client) same ∙ sym (ap (λ row. free_of row client) found) in
        subst (λ answer. SameReply names false (free_of (row_at o.rows desc) client) answer) (sym is)
        (same_either names (field_in (row_at o.rows desc) 0 == client) _ _ (same_done names none) refl)

  alike_at : (fun : ℕ) → Passes timer_facts o (call_of fun) → Serves timer_facts names o held (call_of fun)
      → SameReply names (fun_at timer_facts.funs fun).creation (timer_answer fun o (row_at o.rows desc) (call_of fun))
      (timer_answer fun held (row_at held.rows (named names desc)) (record (call_of fun) { desc = named names desc }))
  alike_at zero passes serves = refl
  alike_at (suc zero) passes serves = same_new names o.given held.given (word_of (arg_at (call_of 1) 0)) _ _ (same_taken (call_of 1) serves refl (word_of (arg_at (call_of 1) 1)))
  alike_at (suc (suc zero)) passes serves =
      let found = row_of_call timer_facts o (call_of 2) passes refl refl in
      let alike = alike_row timer_facts names o held (call_of 2) found.0 serves found.1 in
      same_tick found.0 alike.0 found.1 alike.1 alike.2 serves.names_are.none (word_of (arg_at (call_of 2) 0))
  alike_at (suc (suc (suc zero))) passes serves =
      let found = row_of_call timer_facts o (call_of 3) passes refl refl in
      let alike = alike_row timer_facts names o held (call_of 3) found.0 serves found.1 in
      same_wait found.0 alike.0 found.1 alike.1 alike.2 serves.names_are.none
  alike_at (suc (suc (suc (suc zero)))) passes serves = same_done names serves.names_are.none
  alike_at (suc (suc (suc (suc (suc zero))))) passes serves = same_first_timer (call_of 5) serves refl
  alike_at (suc (suc (suc (suc (suc (suc zero)))))) passes serves =
      let found = row_of_call timer_facts o (call_of 6) passes refl refl in
      let alike = alike_row timer_facts names o held (call_of 6) found.0 serves found.1 in
      same_skip found.0 alike.0 found.1 alike.1 alike.2 serves.names_are.none
  alike_at (suc (suc (suc (suc (suc (suc (suc zero))))))) passes serves =
      let found = row_of_call timer_facts o (call_of 7) passes refl refl in
      let alike = alike_row timer_facts names o held (call_of 7) found.0 serves found.1 in
      same_free found.0 alike.0 found.1 alike.1 alike.2 serves.names_are.none
  alike_at (suc (suc (suc (suc (suc (suc (suc (suc n)))))))) passes serves = refl

-- the timer service gives a call the same answer from whatever serves it, under other ids too
pub timer_answers_alike : AnswersAlike timer_facts timer_table IsTimerSound
timer_answers_alike = record {
  alike = λ names o held call sound passes serves. alike_at names o held call.client call.seq call.desc call.args sound call.fun passes serves;
}
