-- Who waits for a timer stays blocked until it is advanced or ends.
use Rattle.std.proofs.Common.{◌≡◌, ℕ, zero, suc, ◌+◌, Bool, true, false, cond, not, List, [], ◌∷◌, None, Some, refl, sym, ◌∙◌, ap, subst, arith}
use Rattle.std.specs.Prelude.{◌==◌, nat_lt, if◌then◌else◌}
use Rattle.std.specs.declared.option.Option.{Option}
use Rattle.std.specs.List.{list_any}
use Rattle.std.proofs.lemmas.Bool.Decides.{nat_tests}
use Rattle.sg_facts.specs.sg_base.declared.value.Value.{Value}
use Rattle.sg_facts.specs.sg_base.declared.call.Call.{Call}
use Rattle.sg_facts.specs.sg_base.declared.reply.Code.TheVariants.{NotOwner, Occupied, Overflow, TooBig}
use Rattle.sg_facts.specs.sg_base.declared.reply.Good.{Good}
use Rattle.sg_facts.specs.sg_base.declared.reply.Reply.TheVariants.{Ok, Refused}
use Rattle.sg_facts.specs.declared.row.Row.{Row}
use Rattle.sg_facts.specs.declared.shape.Effect.TheVariants.{AddRet}
use Rattle.sg_facts.specs.Facts.{fun_at, takes_desc}
use Rattle.sg_facts.specs.Track.{row_at, arg_at, ends_with, field_at, fields_after, first_word, new_row, word_of}
use Rattle.sg_facts.specs.Inside.Rows.{row_after}
use Rattle.sg_facts.specs.Object.{Object, after}
use Rattle.sg_facts.specs.Laws.{BlockedStays, Passes, state_in, leaves_blocked}
use Rattle.sg_facts.proofs.RowLists.{id_of_row, row_at-more, row_at-changed, row_at-left}
use Rattle.sg_facts.proofs.Replaying.Found.{to_map}
use Rattle.sg_slots.proofs.RowLaws.{row_of_call, two_rows, on_another}
use Rattle.sg_timer.specs.TimerFacts.{timer_facts}
use Rattle.sg_timer.specs.TimerTable.{timer_table, timer_answer, field_in, first_timer, most_ticks, skipped, tag_of, worded}
use Rattle.sg_timer.specs.Inside.TimerAnswer.{first_answer, skip_of}
use Rattle.sg_timer.specs.Inside.TimerFields.{skips_none}
use Rattle.sg_timer.specs.TimerSound.{IsTimerSound}
use Rattle.sg_timer.specs.Laws.TimerSoundLaw.{never_placed, waited, word_is}

-- which timer has the least left is told at once
pub first_told : (found : Option Row) → first_answer found ≡ None → ⊥
first_told None is = cc is
first_told (Some r) is = cc is

-- a call that blocks is a wait, for a timer that isn't due
pub record IsWaiting (fun : ℕ) (timer : Option Row) : Type 0 where
  pub wait : fun ≡ 3
  pub before : nat_lt (field_in timer 3) (field_in timer 4) ≡ true

pub waits : (fun : ℕ) (o : Object) (timer : Option Row) (call : Call) → timer_answer fun o timer call ≡ None → IsWaiting fun timer
waits zero o timer call is = absurd (cc is)
waits (suc zero) o timer call is = absurd (at (nat_lt most_ticks (word_of (arg_at call 0))) (list_any (λ r. tag_of r == word_of (arg_at call 1)) o.rows) is)
  where
    at : (a b : Bool) → cond a (Some (Refused TooBig)) (cond b (Some (Refused Occupied)) (worded (o.given + 1) (word_of (arg_at call 0)))) ≡ None → ⊥
    at true b is = cc is
    at false true is = cc is
    at false false is = cc is
waits (suc (suc zero)) o timer call is = absurd (at (nat_lt most_ticks (field_in timer 3 + word_of (arg_at call 0))) is)
  where
    at : (b : Bool) → cond b (Some (Refused Overflow)) (Some (Ok (record { desc = 0; words = []; bytes = [] }))) ≡ None → ⊥
    at true is = cc is
    at false is = cc is
waits (suc (suc (suc zero))) o timer call is = at (nat_lt (field_in timer 3) (field_in timer 4)) refl is
  where
    at : (b : Bool) → nat_lt (field_in timer 3) (field_in timer 4) ≡ b → cond b None (worded 0 (field_in timer 1)) ≡ None → IsWaiting 3 timer
    at true before is = record { wait = refl; before = before }
    at false before is = absurd (cc is)
waits (suc (suc (suc (suc zero)))) o timer call is = absurd (cc is)
waits (suc (suc (suc (suc (suc zero))))) o timer call is = absurd (first_told (first_timer o.rows) is)
waits (suc (suc (suc (suc (suc (suc zero)))))) o timer call is = absurd (cc is)
waits (suc (suc (suc (suc (suc (suc (suc zero))))))) o timer call is = absurd (at (field_in timer 0 == call.client) is)
  where
    at : (b : Bool) → cond b (Some (Ok (record { desc = 0; words = []; bytes = [] }))) (Some (Refused NotOwner)) ≡ None → ⊥
    at true is = cc is
    at false is = cc is
waits (suc (suc (suc (suc (suc (suc (suc (suc n)))))))) o timer call is = absurd (cc is)

-- and it blocks wherever its timer isn't due
still : (fun : ℕ) (o : Object) (timer : Option Row) (call : Call) → fun ≡ 3 → nat_lt (field_in timer 3) (field_in timer 4) ≡ true → timer_answer fun o timer call ≡ None
still fun o timer call wait before =
    subst (λ f. timer_answer f o timer call ≡ None) (sym wait) (ap (λ b. cond b None (worded 0 (field_in timer 1))) before)

-- a row shows a blocked call what another showed it
record IsAsBefore (before after : Option Row) : Type 0 where
  time : field_in after 3 ≡ field_in before 3
  due : field_in after 4 ≡ field_in before 4
  state : state_in after ≡ state_in before

as_before : (before after : Option Row) → after ≡ before → IsAsBefore before after
as_before before after same = record { time = ap (λ row. field_in row 3) same; due = ap (λ row. field_in row 4) same; state = ap state_in same }

-- a timer that is put off by nothing
put_off_time : (fields : List Value) (call : Call) (good : Good) → word_of (field_at (fields_after call good ((4, AddRet) ∷ []) fields) 3) ≡ word_of (field_at fields 3)
put_off_time [] call good = refl
put_off_time (a ∷ []) call good = refl
put_off_time (a ∷ b ∷ []) call good = refl
put_off_time (a ∷ b ∷ c ∷ []) call good = refl
put_off_time (a ∷ b ∷ c ∷ d ∷ fields) call good = refl

put_off_none : (fields : List Value) (call : Call) (good : Good) → first_word good ≡ 0 → word_of (field_at (fields_after call good ((4, AddRet) ∷ []) fields) 4) ≡ word_of (field_at fields 4)
put_off_none [] call good none = refl
put_off_none (a ∷ []) call good none = refl
put_off_none (a ∷ b ∷ []) call good none = refl
put_off_none (a ∷ b ∷ c ∷ []) call good none = refl
put_off_none (a ∷ b ∷ c ∷ d ∷ []) call good none = refl
put_off_none (a ∷ b ∷ c ∷ d ∷ e ∷ fields) call good none = omega (arith, none)

module _ (o : Object) (client seq desc : ℕ) (args : List Value) (other : Call) (r : Row) (found : row_at o.rows other.desc ≡ Some r)
    (before : nat_lt (field_in (row_at o.rows other.desc) 3) (field_in (row_at o.rows other.desc) 4) ≡ true) where
  abbrev call_of : ℕ → Call
  call_of fun = record { client = client; seq = seq; fun = fun; desc = desc; args = args }

  -- what a skip makes of rows
  abbrev put_off : Good → Row → Row
  put_off good x = if x.id == desc then row_after timer_facts (call_of 6) good x else x

  same_id : (good : Good) (x : Row) → (put_off good x).id ≡ x.id
  same_id good x = at (x.id == desc)
    where
      at : (b : Bool) → (cond b (row_after timer_facts (call_of 6) good x) x).id ≡ x.id
      at true = refl
      at false = refl

  -- a skip of the timer puts it off by nothing
  by_none : (good : Good) → skip_of (row_at o.rows desc) ≡ Some (Ok good) → (r.id == desc) ≡ true → first_word good ≡ 0
  by_none good is here =
      let id : r.id ≡ other.desc = id_of_row o.rows other.desc r found in
      let one : desc ≡ other.desc = grind (arith, nat_tests, here, id) in
      let skip : skip_of (Some r) ≡ Some (Ok good) = sym (ap skip_of found) ∙ subst (λ d. skip_of (row_at o.rows d) ≡ Some (Ok good)) one is in
      let its : nat_lt (word_of (field_at r.fields 3)) (word_of (field_at r.fields 4)) ≡ true = sym (ap (λ row. nat_lt (field_in row 3) (field_in row 4)) found) ∙ before in
      word_is (skipped (word_of (field_at r.fields 3)) (word_of (field_at r.fields 4)) (word_of (field_at r.fields 1))) good skip
      ∙ skips_none (word_of (field_at r.fields 3)) (word_of (field_at r.fields 4)) (word_of (field_at r.fields 1)) its

  still_before : (good : Good) → skip_of (row_at o.rows desc) ≡ Some (Ok good) → IsAsBefore (Some r) (Some (put_off good r))
  still_before good is = at (r.id == desc) (by_none good is)
    where
      at : (b : Bool) → (b ≡ true → first_word good ≡ 0) → IsAsBefore (Some r) (Some (cond b (row_after timer_facts (call_of 6) good r) r))
      at true none = record { time = put_off_time r.fields (call_of 6) good; due = put_off_none r.fields (call_of 6) good (none refl); state = refl }
      at false none = record { time = refl; due = refl; state = refl }

  -- its row shows it what it showed before
  row_stays : (fun : ℕ) (good : Good) → Passes timer_facts o (call_of fun) → timer_answer fun o (row_at o.rows desc) (call_of fun) ≡ Some (Ok good)
      → leaves_blocked timer_facts o (call_of fun) other ≡ true
      → IsAsBefore (row_at o.rows other.desc) (row_at (after timer_facts o (call_of fun) (Ok good)).rows other.desc)
  row_stays zero good passes is leaves = absurd (cc is)
  row_stays (suc zero) good passes is leaves = as_before _ _ (row_at-more o.rows (new_row timer_facts (call_of 1) good) r other.desc found ∙ sym found)
  row_stays (suc (suc zero)) good passes is leaves = as_before _ _ (row_at-changed (row_after timer_facts (call_of 2) good) (λ x. refl) o.rows desc other.desc (on_another desc other.desc leaves))
  row_stays (suc (suc (suc zero))) good passes is leaves =
      let done = waited (field_in (row_at o.rows desc) 3) (field_in (row_at o.rows desc) 4) (field_in (row_at o.rows desc) 1) good is in
      as_before _ _ (row_at-changed (row_after timer_facts (call_of 3) good) (λ x. refl) o.rows desc other.desc
      (two_rows (λ row. not (nat_lt (field_in row 3) (field_in row 4))) o.rows other.desc desc (ap not before) (ap not done.before)))
  row_stays (suc (suc (suc (suc zero)))) good passes is leaves = absurd (never_placed o client seq desc args passes)
  row_stays (suc (suc (suc (suc (suc zero))))) good passes is leaves = as_before _ _ refl
  row_stays (suc (suc (suc (suc (suc (suc zero)))))) good passes is leaves =
      let there = to_map (put_off good) (same_id good) o.rows other.desc r found in
      let same = still_before good is in
      record {
        time = ap (λ row. field_in row 3) there ∙ same.time ∙ sym (ap (λ row. field_in row 3) found);
        due = ap (λ row. field_in row 4) there ∙ same.due ∙ sym (ap (λ row. field_in row 4) found);
        state = ap state_in there ∙ same.state ∙ sym (ap state_in found);
      }
  row_stays (suc (suc (suc (suc (suc (suc (suc zero))))))) good passes is leaves = as_before _ _ (row_at-left (λ id. not (ends_with timer_facts o.rows desc id)) o.rows other.desc leaves)
  row_stays (suc (suc (suc (suc (suc (suc (suc (suc n)))))))) good passes is leaves = absurd (cc is)

-- the row of a blocked call's timer after another call
blocked_row : (o : Object) (other call : Call) (good : Good) → Passes timer_facts o other → timer_table o other ≡ None → Passes timer_facts o call → timer_table o call ≡ Some (Ok good)
    → leaves_blocked timer_facts o call other ≡ true → IsAsBefore (row_at o.rows other.desc) (row_at (after timer_facts o call (Ok good)).rows other.desc)
blocked_row o other call good passes blocked passes_too is leaves =
    let waiting = waits other.fun o (row_at o.rows other.desc) other blocked in
    let found = row_of_call timer_facts o other passes (ap (λ f. (fun_at timer_facts.funs f).query) waiting.wait) (ap (λ f. takes_desc (fun_at timer_facts.funs f)) waiting.wait) in
    row_stays o call.client call.seq call.desc call.args other found.0 found.1 waiting.before call.fun good passes_too is leaves

-- who is blocked on a timer stays blocked after any call that neither advances nor ends the timer
pub timer_blocked_stays : BlockedStays timer_facts timer_table IsTimerSound
timer_blocked_stays = record {
  blocked = λ o other call good sound passes blocked passes_too is leaves.
      let waiting = waits other.fun o (row_at o.rows other.desc) other blocked in
      let same = blocked_row o other call good passes blocked passes_too is leaves in
      let new = row_at (after timer_facts o call (Ok good)).rows other.desc in
      still other.fun (after timer_facts o call (Ok good)) new other waiting.wait
      (ap (λ n. nat_lt n (field_in new 4)) same.time ∙ ap (nat_lt (field_in (row_at o.rows other.desc) 3)) same.due ∙ waiting.before);
  state = λ o other call good sound passes blocked passes_too is leaves. let same = blocked_row o other call good passes blocked passes_too is leaves in same.state;
}
