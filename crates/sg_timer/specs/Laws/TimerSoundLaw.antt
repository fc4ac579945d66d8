-- The timer service answers, and what it holds stays sound.
use Rattle.std.proofs.Common.{◌≡◌, ℕ, zero, suc, ◌+◌, ◌^◌, ◌<◌, ◌≤◌, Bool, true, false, cond, not, List, [], ◌∷◌, ◌++◌, None, Some, map, max, refl, sym, ◌∙◌, ap, subst, arith}
use Rattle.std.specs.Prelude.{◌==◌, ◌&&◌, ◌||◌, nat_lt}
use Rattle.std.specs.declared.option.Option.{Option}
use Rattle.std.specs.List.{list_any}
use Rattle.std.proofs.lemmas.Bool.Decides.{nat_tests}
use Rattle.sg_facts.specs.sg_base.declared.value.Value.{Value}
use Rattle.sg_facts.specs.sg_base.declared.value.Value.TheVariants.{Word, Text}
use Rattle.sg_facts.specs.sg_base.declared.call.Call.{Call}
use Rattle.sg_facts.specs.sg_base.declared.reply.Code.TheVariants.{NoDesc, BadState, HasChildren, NotOwner, Occupied, Overflow, TooBig}
use Rattle.sg_facts.specs.sg_base.declared.reply.Good.{Good}
use Rattle.sg_facts.specs.sg_base.declared.reply.Reply.TheVariants.{Ok, Refused}
use Rattle.sg_facts.specs.declared.row.Row.{Row}
use Rattle.sg_facts.specs.declared.shape.Effect.TheVariants.{AddArg, AddRet}
use Rattle.sg_facts.specs.Facts.{fun_at}
use Rattle.sg_facts.specs.Inside.Guards.{in_state}
use Rattle.sg_facts.specs.Interface.{moves_on}
use Rattle.sg_facts.specs.Kinds.{AreWords, kinds_fit}
use Rattle.sg_facts.specs.Limits.{last_client}
use Rattle.sg_facts.specs.Track.{row_at, ends_with, new_row, arg_at, fields_after, first_word, word_of, field_at}
use Rattle.sg_facts.specs.Inside.Rows.{row_after}
use Rattle.sg_facts.specs.Object.{Object, after}
use Rattle.sg_facts.specs.Sound.{IsRow, AreFields}
use Rattle.sg_facts.specs.Laws.{AnswersAndKeeps, Passes, whole}
use Rattle.sg_slots.proofs.SoundRows.{none_applies, change}
use Rattle.sg_slots.proofs.RowLaws.{childless, first_makes, sound_more, sound_changed, sound_left}
use Rattle.sg_slots.proofs.Apart.{apart_more, apart_left, apart_changed}
use Rattle.sg_timer.specs.TimerFacts.{timer_facts}
use Rattle.sg_timer.specs.TimerTable.{timer_table, timer_answer, most_ticks, skipped, tag_of, worded}
use Rattle.sg_timer.specs.Inside.TimerAnswer.{create_answer, tick_answer, timer_wait_answer, tick_of, wait_of, skip_of}
use Rattle.sg_timer.specs.Inside.TimerFields.{five, are_five, are_fields, skip_bound}
use Rattle.sg_timer.specs.TimerSound.{IsTimerSound, AreTimed, IsTimed}

-- ---- what an Ok tells

-- a timer was made: its period isn't too great, and its tag wasn't taken
pub record IsCreated (given period : ℕ) (taken : Bool) (good : Good) : Type 0 where
  pub small : period ≤ most_ticks
  pub free : taken ≡ false
  pub desc : good.desc ≡ given + 1
  pub word : first_word good ≡ period

pub created : (given period : ℕ) (taken : Bool) (good : Good) → create_answer given period taken ≡ Some (Ok good) → IsCreated given period taken good
created given period taken good is = at (nat_lt most_ticks period) taken refl refl is
  where
    at : (a b : Bool) → nat_lt most_ticks period ≡ a → taken ≡ b → cond a (Some (Refused TooBig)) (cond b (Some (Refused Occupied)) (worded (given + 1) period)) ≡ Some (Ok good) → IsCreated given period taken good
    at true b great holds is = absurd (cc is)
    at false true great holds is = absurd (cc is)
    at false false great holds is =
        let one : record { desc = given + 1; words = period ∷ []; bytes = [] } ≡ good = cc is in
        record { small = grind (arith, nat_tests, great); free = holds; desc = sym (ap (λ g. g.desc) one); word = sym (ap first_word one) }

-- a clock was advanced: it isn't past the greatest time
ticked : (time ticks : ℕ) (good : Good) → tick_answer time ticks ≡ Some (Ok good) → time + ticks ≤ most_ticks
ticked time ticks good is = at (nat_lt most_ticks (time + ticks)) refl is
  where
    at : (b : Bool) → nat_lt most_ticks (time + ticks) ≡ b → cond b (Some (Refused Overflow)) (Some (Ok (record { desc = 0; words = []; bytes = [] }))) ≡ Some (Ok good) → time + ticks ≤ most_ticks
    at true over is = absurd (cc is)
    at false over is = grind (arith, nat_tests)

-- a wait was done: the timer was due, and its period is the word
pub record IsWaited (time due period : ℕ) (good : Good) : Type 0 where
  pub before : nat_lt time due ≡ false
  pub word : first_word good ≡ period

pub waited : (time due period : ℕ) (good : Good) → timer_wait_answer time due period ≡ Some (Ok good) → IsWaited time due period good
waited time due period good is = at (nat_lt time due) refl is
  where
    at : (b : Bool) → nat_lt time due ≡ b → cond b None (worded 0 period) ≡ Some (Ok good) → IsWaited time due period good
    at true before is = absurd (cc is)
    at false before is =
        let one : record { desc = 0; words = period ∷ []; bytes = [] } ≡ good = cc is in
        record { before = before; word = sym (ap first_word one) }

-- the word of an Ok
pub word_is : (word : ℕ) (good : Good) → worded 0 word ≡ Some (Ok good) → first_word good ≡ word
word_is word good is =
    let one : record { desc = 0; words = word ∷ []; bytes = [] } ≡ good = cc is in
    sym (ap first_word one)

-- ---- fields

-- two numbers as arguments
record AreTwo (args : List Value) : Type 0 where
  period : ℕ
  tag : ℕ
  are : args ≡ Word period ∷ Word tag ∷ []
  period_is : period < 2 ^ 64
  tag_is : tag < 2 ^ 64

are_two : (args : List Value) → kinds_fit (fun_at timer_facts.funs 1).kinds args ≡ true → AreWords args → AreTwo args
are_two [] fit are = absurd (cc fit)
are_two (Text bytes ∷ args) fit are = absurd (cc fit)
are_two (Word n ∷ []) fit are = absurd (cc fit)
are_two (Word n ∷ Text bytes ∷ args) fit are = absurd (cc fit)
are_two (Word n ∷ Word m ∷ v ∷ args) fit are = absurd (cc fit)
are_two (Word n ∷ Word m ∷ []) fit are = record { period = n; tag = m; are = refl; period_is = are.0; tag_is = are.1.0 }

-- fields that are a timer's, and within its bounds
abbrev AreSoundFields : List Value → Type 0
AreSoundFields fields = AreFields timer_facts.fields fields × AreTimed fields

-- the fields of a new timer
made_fields : (client period tag word : ℕ) → 1 ≤ client → client ≤ last_client → period ≤ most_ticks → tag < 2 ^ 64 → word ≡ period → AreSoundFields (five client period tag 0 word)
made_fields client period tag word first last small tag_is same = (
  are_fields client period tag 0 word (omega (arith, last)) (omega (arith, small)) tag_is (omega arith) (omega (arith, small, same)),
  record { owner_first = first; owner_last = last; period = small; time = omega arith },
)

-- the clock is advanced
tick_fields : (fields : List Value) (call : Call) (good : Good) → AreFields timer_facts.fields fields → AreTimed fields → word_of (field_at fields 3) + word_of (arg_at call 0) ≤ most_ticks
    → AreSoundFields (fields_after call good ((3, AddArg 0) ∷ []) fields)
tick_fields fields call good are timed most =
    let f = are_five fields are in
    let t : AreTimed (five f.owner f.period f.tag f.time f.due) = subst AreTimed f.are timed in
    let m : f.time + word_of (arg_at call 0) ≤ most_ticks = subst (λ fs. word_of (field_at fs 3) + word_of (arg_at call 0) ≤ most_ticks) f.are most in
    subst (λ fs. AreSoundFields (fields_after call good ((3, AddArg 0) ∷ []) fs)) (sym f.are) (
      are_fields f.owner f.period f.tag (f.time + word_of (arg_at call 0)) f.due f.owner_is f.period_is f.tag_is (omega (arith, m)) f.due_is,
      record { owner_first = t.owner_first; owner_last = t.owner_last; period = t.period; time = m },
    )

-- the timer is put off
put_off_fields : (fields : List Value) (call : Call) (good : Good) → AreFields timer_facts.fields fields → AreTimed fields → word_of (field_at fields 4) + first_word good < 2 ^ 64
    → AreSoundFields (fields_after call good ((4, AddRet) ∷ []) fields)
put_off_fields fields call good are timed small =
    let f = are_five fields are in
    let t : AreTimed (five f.owner f.period f.tag f.time f.due) = subst AreTimed f.are timed in
    let s : f.due + first_word good < 2 ^ 64 = subst (λ fs. word_of (field_at fs 4) + first_word good < 2 ^ 64) f.are small in
    subst (λ fs. AreSoundFields (fields_after call good ((4, AddRet) ∷ []) fs)) (sym f.are) (
      are_fields f.owner f.period f.tag f.time (f.due + first_word good) f.owner_is f.period_is f.tag_is f.time_is s,
      record { owner_first = t.owner_first; owner_last = t.owner_last; period = t.period; time = t.time },
    )

due_is_word : (fields : List Value) → AreFields timer_facts.fields fields → word_of (field_at fields 4) < 2 ^ 64
due_is_word fields are = let f = are_five fields are in subst (λ fs. word_of (field_at fs 4) < 2 ^ 64) (sym f.are) f.due_is

-- neither changes the tag
tick_tag : (fields : List Value) (call : Call) (good : Good) → word_of (field_at (fields_after call good ((3, AddArg 0) ∷ []) fields) 2) ≡ word_of (field_at fields 2)
tick_tag [] call good = refl
tick_tag (a ∷ []) call good = refl
tick_tag (a ∷ b ∷ []) call good = refl
tick_tag (a ∷ b ∷ c ∷ fields) call good = refl

put_off_tag : (fields : List Value) (call : Call) (good : Good) → word_of (field_at (fields_after call good ((4, AddRet) ∷ []) fields) 2) ≡ word_of (field_at fields 2)
put_off_tag [] call good = refl
put_off_tag (a ∷ []) call good = refl
put_off_tag (a ∷ b ∷ []) call good = refl
put_off_tag (a ∷ b ∷ c ∷ fields) call good = refl

-- ---- the guard

-- no transition leads to tmr_place
never_moves : (state : ℕ) → moves_on (whole timer_facts) state 4 ≡ false
never_moves state = at (1 == state)
  where
    at : (a : Bool) → ((a && false) || ((a && false) || ((a && false) || ((a && false) || false)))) ≡ false
    at true = refl
    at false = refl

-- no row is in a state that leads to tmr_place
not_there : (found : Option Row) → in_state (whole timer_facts) found 4 ≡ false
not_there None = refl
not_there (Some r) = never_moves r.state

module _ (o : Object) (client seq desc : ℕ) (args : List Value) where
  abbrev call_of : ℕ → Call
  call_of fun = record { client = client; seq = seq; fun = fun; desc = desc; args = args }

  -- so no client places a timer
  pub never_placed : Passes timer_facts o (call_of 4) → ⊥
  never_placed passes =
      let none = none_applies _ _ false NoDesc BadState HasChildren passes.guarded in
      let clash : true ≡ false = ap not (sym (not_there (row_at o.rows desc))) ∙ none.1 in
      cc clash

  -- tags stay apart where a change of one row leaves its tag
  same_tags : (fun : ℕ) (good : Good) → ((r : Row) → tag_of (row_after timer_facts (call_of fun) good r) ≡ tag_of r) → (r : Row) → tag_of (change timer_facts (call_of fun) good r) ≡ tag_of r
  same_tags fun good same r = at (r.id == desc)
    where
      at : (b : Bool) → tag_of (cond b (row_after timer_facts (call_of fun) good r) r) ≡ tag_of r
      at true = same r
      at false = refl

  -- a timer is made
  makes : (good : Good) → IsTimerSound o → Passes timer_facts o (call_of 1) → timer_answer 1 o (row_at o.rows desc) (call_of 1) ≡ Some (Ok good)
      → IsTimerSound (after timer_facts o (call_of 1) (Ok good))
  makes good sound passes is =
      let its = created o.given (word_of (arg_at (call_of 1) 0)) (list_any (λ r. tag_of r == word_of (arg_at (call_of 1) 1)) o.rows) good is in
      let two = are_two args passes.is_call.fits.args passes.words in
      let small : two.period ≤ most_ticks = subst (λ values. word_of (arg_at (record (call_of 1) { args = values }) 0) ≤ most_ticks) two.are its.small in
      let word : first_word good ≡ two.period = its.word ∙ ap (λ values. word_of (arg_at (record (call_of 1) { args = values }) 0)) two.are in
      let new = new_row timer_facts (call_of 1) good in
      let fields : AreSoundFields new.fields =
      subst (λ values. AreSoundFields (new_row timer_facts (record (call_of 1) { args = values }) good).fields) (sym two.are)
      (made_fields client two.period two.tag (first_word good) passes.within.client_first passes.within.client_last small two.tag_is word) in
      let row : IsRow timer_facts (o.rows ++ new ∷ []) new = record {
        creator_first = passes.within.client_first;
        creator_last = passes.within.client_last;
        parent = refl;
        its_parent = refl;
        fields = fields.0;
      } in
      let kept = sound_more timer_facts IsTimed o new (sound.general, sound.timed) its.desc row fields.1 in
      record { general = kept.0; timed = kept.1; apart = apart_more tag_of o.rows new its.free sound.apart }

  keeps_at : (fun : ℕ) (good : Good) → IsTimerSound o → Passes timer_facts o (call_of fun) → timer_answer fun o (row_at o.rows desc) (call_of fun) ≡ Some (Ok good)
      → IsTimerSound (after timer_facts o (call_of fun) (Ok good))
  keeps_at zero good sound passes is = absurd (cc is)
  keeps_at (suc zero) good sound passes is = makes good sound passes is
  keeps_at (suc (suc zero)) good sound passes is =
      let most : (r : Row) → row_at o.rows desc ≡ Some r → word_of (field_at r.fields 3) + word_of (arg_at (call_of 2) 0) ≤ most_ticks =
      λ r found. ticked (word_of (field_at r.fields 3)) (word_of (arg_at (call_of 2) 0)) good (sym (ap (λ row. tick_of row (word_of (arg_at (call_of 2) 0))) found) ∙ is) in
      let kept = sound_changed timer_facts IsTimed o (call_of 2) good (sound.general, sound.timed) (λ r found are timed. tick_fields r.fields (call_of 2) good are.fields timed (most r found)) in
      record { general = kept.0; timed = kept.1; apart = apart_changed tag_of (change timer_facts (call_of 2) good) (same_tags 2 good (λ r. tick_tag r.fields (call_of 2) good)) o.rows sound.apart }
  keeps_at (suc (suc (suc zero))) good sound passes is =
      let small : (r : Row) → row_at o.rows desc ≡ Some r → AreTimed r.fields → word_of (field_at r.fields 4) + first_word good < 2 ^ 64 =
      λ r found timed. due_bound r (waited (word_of (field_at r.fields 3)) (word_of (field_at r.fields 4)) (word_of (field_at r.fields 1)) good (sym (ap wait_of found) ∙ is)) timed in
      let kept = sound_changed timer_facts IsTimed o (call_of 3) good (sound.general, sound.timed) (λ r found are timed. put_off_fields r.fields (call_of 3) good are.fields timed (small r found timed)) in
      record { general = kept.0; timed = kept.1; apart = apart_changed tag_of (change timer_facts (call_of 3) good) (same_tags 3 good (λ r. put_off_tag r.fields (call_of 3) good)) o.rows sound.apart }
    where
      due_bound : (r : Row) → IsWaited (word_of (field_at r.fields 3)) (word_of (field_at r.fields 4)) (word_of (field_at r.fields 1)) good → AreTimed r.fields
          → word_of (field_at r.fields 4) + first_word good < 2 ^ 64
      due_bound r done timed =
          let before = done.before in
          let reached : word_of (field_at r.fields 4) ≤ word_of (field_at r.fields 3) = grind (arith, nat_tests, before) in
          let word = done.word in
          let period = timed.period in
          let time = timed.time in
          omega (arith, reached, word, period, time)
  keeps_at (suc (suc (suc (suc zero)))) good sound passes is = absurd (never_placed passes)
  keeps_at (suc (suc (suc (suc (suc zero))))) good sound passes is = sound
  keeps_at (suc (suc (suc (suc (suc (suc zero)))))) good sound passes is =
      let small : (r : Row) → row_at o.rows desc ≡ Some r → AreFields timer_facts.fields r.fields → AreTimed r.fields → word_of (field_at r.fields 4) + first_word good < 2 ^ 64 =
      λ r found are timed. due_bound r (word_is (skipped (word_of (field_at r.fields 3)) (word_of (field_at r.fields 4)) (word_of (field_at r.fields 1))) good (sym (ap skip_of found) ∙ is)) (due_is_word r.fields are) timed in
      let kept = sound_changed timer_facts IsTimed o (call_of 6) good (sound.general, sound.timed) (λ r found are timed. put_off_fields r.fields (call_of 6) good are.fields timed (small r found are.fields timed)) in
      record { general = kept.0; timed = kept.1; apart = apart_changed tag_of (change timer_facts (call_of 6) good) (same_tags 6 good (λ r. put_off_tag r.fields (call_of 6) good)) o.rows sound.apart }
    where
      due_bound : (r : Row) → first_word good ≡ skipped (word_of (field_at r.fields 3)) (word_of (field_at r.fields 4)) (word_of (field_at r.fields 1)) → word_of (field_at r.fields 4) < 2 ^ 64 → AreTimed r.fields
          → word_of (field_at r.fields 4) + first_word good < 2 ^ 64
      due_bound r word due timed =
          let bound = skip_bound (word_of (field_at r.fields 3)) (word_of (field_at r.fields 4)) (word_of (field_at r.fields 1)) in
          let period = timed.period in
          let time = timed.time in
          omega (arith, bound, word, due, period, time)
  keeps_at (suc (suc (suc (suc (suc (suc (suc zero))))))) good sound passes is =
      let kept = sound_left timer_facts IsTimed o desc (sound.general, sound.timed) refl (childless timer_facts o (call_of 7) passes refl refl refl) in
      record { general = kept.0; timed = kept.1; apart = apart_left tag_of (λ r. not (ends_with timer_facts o.rows desc r.id)) o.rows sound.apart }
  keeps_at (suc (suc (suc (suc (suc (suc (suc (suc n)))))))) good sound passes is = absurd (cc is)

-- a new timer has the next id
next_id : (o : Object) (call : Call) (good : Good) → timer_table o call ≡ Some (Ok good) → (fun_at timer_facts.funs call.fun).creation ≡ true → good.desc ≡ o.given + 1
next_id o call good is makes =
    let one = first_makes timer_facts.funs refl call.fun makes in
    let answered : timer_answer 1 o (row_at o.rows call.desc) call ≡ Some (Ok good) = subst (λ f. timer_answer f o (row_at o.rows call.desc) call ≡ Some (Ok good)) one is in
    let its = created o.given (word_of (arg_at call 0)) (list_any (λ r. tag_of r == word_of (arg_at call 1)) o.rows) good answered in
    its.desc

-- the timer service answers each call that it may be asked, and what it holds stays sound
pub timer_answers_and_keeps : AnswersAndKeeps timer_facts timer_table IsTimerSound
timer_answers_and_keeps = record {
  empty = record { general = record { rows = tt; files = tt }; timed = tt; apart = tt };
  general = λ o sound. sound.general;
  keeps = λ o call good sound passes is. keeps_at o call.client call.seq call.desc call.args call.fun good sound passes is;
  next = next_id;
}
