-- Who is blocked on an event stays blocked until it is triggered or ended.
use Rattle.std.proofs.Common.{◌≡◌, ℕ, zero, suc, ◌+◌, Bool, true, false, cond, not, List, [], ◌∷◌, None, Some, refl, sym, ◌∙◌, ap, arith}
use Rattle.std.specs.Prelude.{◌==◌, if◌then◌else◌, nat_lt}
use Rattle.std.proofs.lemmas.Bool.Decides.{nat_tests}
use Rattle.std.specs.declared.option.Option.{Option}
use Rattle.sg_facts.specs.sg_base.declared.value.Value.{Value}
use Rattle.sg_facts.specs.sg_base.declared.call.Call.{Call}
use Rattle.sg_facts.specs.sg_base.declared.reply.Code.TheVariants.{Overflow}
use Rattle.sg_facts.specs.sg_base.declared.reply.Good.{Good}
use Rattle.sg_facts.specs.sg_base.declared.reply.Reply.{Reply}
use Rattle.sg_facts.specs.sg_base.declared.reply.Reply.TheVariants.{Ok, Refused}
use Rattle.sg_facts.specs.declared.row.Row.{Row}
use Rattle.sg_facts.specs.Facts.{fun_at, takes_desc}
use Rattle.sg_facts.specs.Track.{row_at, fields_after, field_at, new_row, ends_with, word_of, arg_at}
use Rattle.sg_facts.specs.Inside.Rows.{row_after}
use Rattle.sg_facts.specs.Object.{Object, after}
use Rattle.sg_facts.specs.Laws.{BlockedStays, Passes, state_in, leaves_blocked}
use Rattle.sg_facts.proofs.RowLists.{row_at-more, row_at-changed, row_at-left}
use Rattle.sg_facts.proofs.Replaying.Found.{to_map}
use Rattle.sg_slots.proofs.RowLaws.{row_of_call, two_rows, on_another}
use Rattle.sg_event.specs.EventFacts.{event_facts}
use Rattle.sg_event.specs.EventTable.{event_table, event_answer}
use Rattle.sg_event.specs.Inside.EventAnswer.{count_in, event_wait_answer, most_count}
use Rattle.sg_event.specs.EventSound.{IsEventSound}

abbrev done_ok : Option Reply
done_ok = Some (Ok (record { desc = 0; words = []; bytes = [] }))

-- who blocks waits for an event of count 0
none_left : (fun given count n : ℕ) → event_answer fun given count n ≡ None → (count == 0) ≡ true
none_left zero given count n is = absurd (cc is)
none_left (suc zero) given count n is = absurd (cc is)
none_left (suc (suc zero)) given count n is = at (count == 0) is
  where
    at : (b : Bool) → cond b None done_ok ≡ None → b ≡ true
    at true is = refl
    at false is = absurd (cc is)
none_left (suc (suc (suc zero))) given count n is = absurd (at (nat_lt most_count (count + n)) is)
  where
    at : (b : Bool) → cond b (Some (Refused Overflow)) done_ok ≡ None → ⊥
    at true is = cc is
    at false is = cc is
none_left (suc (suc (suc (suc zero)))) given count n is = absurd (cc is)
none_left (suc (suc (suc (suc (suc zero))))) given count n is = absurd (cc is)
none_left (suc (suc (suc (suc (suc (suc m)))))) given count n is = absurd (cc is)

-- a wait that is done finds one
some_left : (count : ℕ) (good : Good) → event_wait_answer count ≡ Some (Ok good) → not (count == 0) ≡ true
some_left count good is = at (count == 0) is
  where
    at : (b : Bool) → cond b None done_ok ≡ Some (Ok good) → not b ≡ true
    at true is = absurd (cc is)
    at false is = refl

-- and it blocks as long as its event has this count, whatever else is given
still : (fun given given' count n : ℕ) → event_answer fun given count n ≡ None → event_answer fun given' count n ≡ None
still zero given given' count n is = absurd (cc is)
still (suc zero) given given' count n is = absurd (cc is)
still (suc (suc zero)) given given' count n is = is
still (suc (suc (suc zero))) given given' count n is = is
still (suc (suc (suc (suc zero)))) given given' count n is = is
still (suc (suc (suc (suc (suc zero))))) given given' count n is = is
still (suc (suc (suc (suc (suc (suc m)))))) given given' count n is = absurd (cc is)

-- who blocks is on an event
on_event : (fun given count n : ℕ) → event_answer fun given count n ≡ None → ((fun_at event_facts.funs fun).query ≡ false) × (takes_desc (fun_at event_facts.funs fun) ≡ true)
on_event zero given count n is = absurd (cc is)
on_event (suc zero) given count n is = absurd (cc is)
on_event (suc (suc zero)) given count n is = (refl, refl)
on_event (suc (suc (suc zero))) given count n is = (refl, refl)
on_event (suc (suc (suc (suc zero)))) given count n is = (refl, refl)
on_event (suc (suc (suc (suc (suc zero))))) given count n is = (refl, refl)
on_event (suc (suc (suc (suc (suc (suc m)))))) given count n is = absurd (cc is)

-- a row shows a blocked call what another showed it
abbrev IsAsBefore : Option Row → Option Row → Type 0
IsAsBefore before after = (count_in after ≡ count_in before) × (state_in after ≡ state_in before)

as_before : (before after : Option Row) → after ≡ before → IsAsBefore before after
as_before before after same = (ap count_in same, ap state_in same)

module _ (o : Object) (client seq desc : ℕ) (args : List Value) (other : Call) (r : Row) (found : row_at o.rows other.desc ≡ Some r) (blocked : (count_in (row_at o.rows other.desc) == 0) ≡ true) where
  abbrev call_of : ℕ → Call
  call_of fun = record { client = client; seq = seq; fun = fun; desc = desc; args = args }

  -- nothing is left to take from an event of count 0
  nothing_taken : (good : Good) (fields : List Value) → word_of (field_at fields 0) ≡ 0 → word_of (field_at (fields_after (call_of 5) good (fun_at event_facts.funs 5).effects fields) 0) ≡ word_of (field_at fields 0)
  nothing_taken good [] none = refl
  nothing_taken good (v ∷ fields) none = omega (arith, none)

  -- what a take makes of rows
  abbrev taken : Good → Row → Row
  taken good x = if x.id == desc then row_after event_facts (call_of 5) good x else x

  same_id : (good : Good) (x : Row) → (taken good x).id ≡ x.id
  same_id good x = at (x.id == desc)
    where
      at : (b : Bool) → (cond b (row_after event_facts (call_of 5) good x) x).id ≡ x.id
      at true = refl
      at false = refl

  still_none : (good : Good) → IsAsBefore (Some r) (Some (taken good r))
  still_none good = at (r.id == desc)
    where
      at : (b : Bool) → IsAsBefore (Some r) (Some (cond b (row_after event_facts (call_of 5) good r) r))
      at true =
          let none : (word_of (field_at r.fields 0) == 0) ≡ true = ap (λ x. count_in x == 0) (sym found) ∙ blocked in
          (nothing_taken good r.fields (grind (arith, nat_tests, none)), refl)
      at false = (refl, refl)

  -- its row shows it what it showed before
  row_stays : (fun : ℕ) (good : Good) → event_answer fun o.given (count_in (row_at o.rows desc)) (word_of (arg_at (call_of fun) 0)) ≡ Some (Ok good)
      → leaves_blocked event_facts o (call_of fun) other ≡ true
      → IsAsBefore (row_at o.rows other.desc) (row_at (after event_facts o (call_of fun) (Ok good)).rows other.desc)
  row_stays zero good is leaves = absurd (cc is)
  row_stays (suc zero) good is leaves = as_before _ _ (row_at-more o.rows (new_row event_facts (call_of 1) good) r other.desc found ∙ sym found)
  row_stays (suc (suc zero)) good is leaves =
      as_before _ _ (row_at-changed (row_after event_facts (call_of 2) good) (λ x. refl) o.rows desc other.desc
      (two_rows (λ row. not (count_in row == 0)) o.rows other.desc desc (ap not blocked) (some_left (count_in (row_at o.rows desc)) good is)))
  row_stays (suc (suc (suc zero))) good is leaves = as_before _ _ (row_at-changed (row_after event_facts (call_of 3) good) (λ x. refl) o.rows desc other.desc (on_another desc other.desc leaves))
  row_stays (suc (suc (suc (suc zero)))) good is leaves = as_before _ _ (row_at-left (λ id. not (ends_with event_facts o.rows desc id)) o.rows other.desc leaves)
  row_stays (suc (suc (suc (suc (suc zero))))) good is leaves =
      let there = to_map (taken good) (same_id good) o.rows other.desc r found in
      let none = still_none good in
      (ap count_in there ∙ none.0 ∙ sym (ap count_in found), ap state_in there ∙ none.1 ∙ sym (ap state_in found))
  row_stays (suc (suc (suc (suc (suc (suc m)))))) good is leaves = absurd (cc is)

-- the row of a blocked call's event after another call
blocked_row : (o : Object) (other call : Call) (good : Good) → Passes event_facts o other → event_table o other ≡ None → event_table o call ≡ Some (Ok good)
    → leaves_blocked event_facts o call other ≡ true → IsAsBefore (row_at o.rows other.desc) (row_at (after event_facts o call (Ok good)).rows other.desc)
blocked_row o other call good passes blocked is leaves =
    let is_on = on_event other.fun o.given (count_in (row_at o.rows other.desc)) (word_of (arg_at other 0)) blocked in
    let found = row_of_call event_facts o other passes is_on.0 is_on.1 in
    row_stays o call.client call.seq call.desc call.args other found.0 found.1
    (none_left other.fun o.given (count_in (row_at o.rows other.desc)) (word_of (arg_at other 0)) blocked) call.fun good is leaves

-- who is blocked on an event stays blocked after any call that neither triggers nor ends the event
pub event_blocked_stays : BlockedStays event_facts event_table IsEventSound
event_blocked_stays = record {
  blocked = λ o other call good sound passes blocked passes_too is leaves.
      ap (λ count. event_answer other.fun (after event_facts o call (Ok good)).given count (word_of (arg_at other 0))) (blocked_row o other call good passes blocked is leaves).0
      ∙ still other.fun o.given (after event_facts o call (Ok good)).given (count_in (row_at o.rows other.desc)) (word_of (arg_at other 0)) blocked;
  state = λ o other call good sound passes blocked passes_too is leaves. (blocked_row o other call good passes blocked is leaves).1;
}
