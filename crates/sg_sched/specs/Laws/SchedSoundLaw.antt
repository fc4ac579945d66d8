-- The thread service answers, and what it holds stays sound.
use Rattle.std.proofs.Common.{◌≡◌, ℕ, zero, suc, ◌+◌, ◌^◌, ◌<◌, ◌≤◌, Bool, true, false, cond, not, List, [], ◌∷◌, ◌++◌, None, Some, map, max, refl, sym, ◌∙◌, ap, subst, arith}
use Rattle.std.specs.Prelude.{◌==◌, ◌&&◌, ◌||◌}
use Rattle.std.specs.declared.option.Option.{Option}
use Rattle.sg_facts.specs.sg_base.declared.value.Value.{Value}
use Rattle.sg_facts.specs.sg_base.declared.value.Value.TheVariants.{Word, Text}
use Rattle.sg_facts.specs.sg_base.declared.call.Call.{Call}
use Rattle.sg_facts.specs.sg_base.declared.reply.Code.TheVariants.{NoDesc, BadState, HasChildren}
use Rattle.sg_facts.specs.sg_base.declared.reply.Good.{Good}
use Rattle.sg_facts.specs.sg_base.declared.reply.Reply.TheVariants.{Ok}
use Rattle.sg_facts.specs.declared.row.Row.{Row}
use Rattle.sg_facts.specs.Facts.{fun_at}
use Rattle.sg_facts.specs.Inside.Guards.{in_state}
use Rattle.sg_facts.specs.Interface.{moves_on}
use Rattle.sg_facts.specs.Kinds.{AreWords, kinds_fit}
use Rattle.sg_facts.specs.Counted.{CountedBelow, most_counted, most_in}
use Rattle.sg_facts.specs.Track.{row_at, ends_with, new_row, arg_at, fields_after, word_of, field_at}
use Rattle.sg_facts.specs.Inside.Rows.{row_after}
use Rattle.sg_facts.specs.Object.{Object, after}
use Rattle.sg_facts.specs.Sound.{IsOfField, IsRow, AreRows, AreFields}
use Rattle.sg_facts.specs.Laws.{AnswersAndKeeps, Passes, whole}
use Rattle.sg_facts.proofs.RowLists.{more, changed, left, other}
use Rattle.sg_slots.proofs.SoundRows.{none_applies, change, change_id, sound_more, sound_changed, sound_left}
use Rattle.sg_slots.proofs.RowLaws.{next_of_first}
use Rattle.sg_slots.proofs.Apart.{apart_left, apart_changed}
use Rattle.sg_sched.specs.SchedFacts.{sched_facts}
use Rattle.sg_sched.specs.SchedTable.{sched_table, next_rank, rank_of, sched_answer}
use Rattle.sg_sched.specs.Inside.SchedAnswer.{sched_wait_answer}
use Rattle.sg_sched.specs.SchedSound.{IsSchedSound, IsRanked}
use Rattle.sg_sched.specs.Inside.SchedRanks.{most, own_more, own_set}

-- ---- ranks are counted words

-- a row's rank is one of its counted words
rank_in : (fields : List Value) → word_of (field_at fields 1) ≤ most_in sched_facts 0 fields
rank_in [] = omega arith
rank_in (v ∷ []) = omega arith
rank_in (v ∷ w ∷ fields) =
    let is : most_in sched_facts 0 (v ∷ w ∷ fields) ≡ max 0 (max (word_of w) (most_in sched_facts 2 fields)) = refl in
    omega (arith, is)

-- so the greatest rank is at most the greatest counted word
pub most_is_counted : (a : ℕ) (rows : List Row) → most a rows ≤ max a (most_counted sched_facts rows)
most_is_counted a [] = omega arith
most_is_counted a (r ∷ rows) =
    let rest = most_is_counted (max a (rank_of r)) rows in
    let own = rank_in r.fields in
    omega (arith, rest, own)

-- the next rank is a word
pub next_is_word : (rows : List Row) → CountedBelow (2 ^ 63) sched_facts rows → next_rank rows < 2 ^ 64
next_is_word rows below = let m = most_is_counted 0 rows in omega (arith, m, below)

-- an Ok with a descriptor and a rank, and one without either
abbrev with_rank : ℕ → ℕ → Good
with_rank desc rank = record { desc = desc; words = rank ∷ []; bytes = [] }

abbrev plain : Good
plain = record { desc = 0; words = []; bytes = [] }

-- ---- fields

-- a priority is the argument
prio_is_word : (args : List Value) → kinds_fit (fun_at sched_facts.funs 1).kinds args ≡ true → AreWords args → (call : Call) → call.args ≡ args → IsOfField (record { name = []; text = false }) (arg_at call 0)
prio_is_word [] fit are call is = absurd (cc fit)
prio_is_word (Text bytes ∷ args) fit are call is = absurd (cc fit)
prio_is_word (Word n ∷ args) fit are call is = subst (λ values. IsOfField (record { name = []; text = false }) (arg_at (record call { args = values }) 0)) (sym is) (refl, are.0)

-- fields with another rank
ranked_fields : (fields : List Value) (call : Call) (desc rank : ℕ) → rank < 2 ^ 64 → AreFields sched_facts.fields fields
    → AreFields sched_facts.fields (fields_after call (with_rank desc rank) (fun_at sched_facts.funs 2).effects fields)
ranked_fields [] call desc rank small are = absurd are
ranked_fields (v ∷ []) call desc rank small are = absurd are.1
ranked_fields (v ∷ w ∷ []) call desc rank small are = (are.0, ((refl, small), tt))
ranked_fields (v ∷ w ∷ x ∷ fields) call desc rank small are = absurd are.1.1

-- the rank is set
rank_set : (fields : List Value) (call : Call) (desc rank : ℕ) → AreFields sched_facts.fields fields
    → word_of (field_at (fields_after call (with_rank desc rank) (fun_at sched_facts.funs 2).effects fields) 1) ≡ rank
rank_set [] call desc rank are = absurd are
rank_set (v ∷ []) call desc rank are = absurd are.1
rank_set (v ∷ w ∷ fields) call desc rank are = refl

-- ---- the guard

-- no transition leads to sched_place
never_moves : (state : ℕ) → moves_on (whole sched_facts) state 7 ≡ false
never_moves state = at (1 == state) (3 == state)
  where
    at : (a b : Bool) → ((a && false) || ((a && false) || ((a && false) || ((a && false) || ((b && false) || ((b && false) || ((b && false) || false))))))) ≡ false
    at true true = refl
    at true false = refl
    at false true = refl
    at false false = refl

-- no row is in a state that leads to sched_place
not_there : (found : Option Row) → in_state (whole sched_facts) found 7 ≡ false
not_there None = refl
not_there (Some r) = never_moves r.state

-- a wait that is done changes nothing
wait_plain : (state : ℕ) (good : Good) → sched_wait_answer state ≡ Some (Ok good) → plain ≡ good
wait_plain state good is = at (state == 3) is
  where
    at : (b : Bool) → cond b None (Some (Ok plain)) ≡ Some (Ok good) → plain ≡ good
    at true is = absurd (cc is)
    at false is = cc is

module _ (o : Object) (client seq desc : ℕ) (args : List Value) where
  abbrev call_of : ℕ → Call
  call_of fun = record { client = client; seq = seq; fun = fun; desc = desc; args = args }

  -- a change under the ranks that the rows have
  keeps_ranks : (fun : ℕ) (good : Good)
      → ((fields : List Value) → AreFields sched_facts.fields fields → AreFields sched_facts.fields (fields_after (call_of fun) good (fun_at sched_facts.funs fun).effects fields))
      → ((r : Row) → rank_of (row_after sched_facts (call_of fun) good r) ≡ rank_of r)
      → IsSchedSound o → IsSchedSound (record { rows = map (change sched_facts (call_of fun) good) o.rows; files = o.files; given = o.given })
  keeps_ranks fun good fields same sound = record {
    general = sound_changed sched_facts o (call_of fun) good fields sound.general;
    ranked = changed IsRanked IsRanked (change sched_facts (call_of fun) good) (change_id sched_facts (call_of fun) good) (λ r is. subst (λ n. 1 ≤ n) (sym (same_rank r)) is) 0 o.given o.rows sound.ranked;
    apart = apart_changed rank_of (change sched_facts (call_of fun) good) same_rank o.rows sound.apart;
  }
    where
      same_rank : (r : Row) → rank_of (change sched_facts (call_of fun) good r) ≡ rank_of r
      same_rank r = at (r.id == desc)
        where
          at : (b : Bool) → rank_of (cond b (row_after sched_facts (call_of fun) good r) r) ≡ rank_of r
          at true = same r
          at false = refl

  -- so no client places a thread
  pub never_placed : Passes sched_facts o (call_of 7) → ⊥
  never_placed passes =
      let none = none_applies _ _ false NoDesc BadState HasChildren passes.guarded in
      let clash : true ≡ false = ap not (sym (not_there (row_at o.rows desc))) ∙ none.1 in
      cc clash

  -- a thread is made, with a rank above all
  makes : IsSchedSound o → Passes sched_facts o (call_of 1) → IsSchedSound (after sched_facts o (call_of 1) (Ok (with_rank (o.given + 1) (next_rank o.rows))))
  makes sound passes =
      let new = new_row sched_facts (call_of 1) (with_rank (o.given + 1) (next_rank o.rows)) in
      let prio = prio_is_word args passes.is_call.fits.args passes.words (call_of 1) refl in
      let row : IsRow sched_facts (o.rows ++ new ∷ []) new = record {
        creator_first = passes.within.client_first;
        creator_last = passes.within.client_last;
        parent = refl;
        its_parent = refl;
        fields = (prio, ((refl, next_is_word o.rows passes.within.counted), tt));
      } in
      record {
        general = sound_more sched_facts o new sound.general refl row;
        ranked = more IsRanked 0 o.given o.rows new sound.ranked (omega arith) (omega arith) (omega arith);
        apart = own_more o.rows new (omega arith) sound.apart;
      }

  -- a thread goes to the end of the queue
  yields : IsSchedSound o → Passes sched_facts o (call_of 2) → IsSchedSound (after sched_facts o (call_of 2) (Ok (with_rank 0 (next_rank o.rows))))
  yields sound passes =
      let set : Row → Row = row_after sched_facts (call_of 2) (with_rank 0 (next_rank o.rows)) in
      let last : AreRows (λ r. rank_of (set r) ≡ next_rank o.rows) 0 o.given o.rows =
      other (IsRow sched_facts o.rows) (λ r. rank_of (set r) ≡ next_rank o.rows) (λ r are. rank_set r.fields (call_of 2) 0 (next_rank o.rows) are.fields) 0 o.given o.rows sound.general.rows in
      record {
        general = sound_changed sched_facts o (call_of 2) (with_rank 0 (next_rank o.rows))
            (λ fields are. ranked_fields fields (call_of 2) 0 (next_rank o.rows) (next_is_word o.rows passes.within.counted) are) sound.general;
        ranked = changed (λ r. IsRanked r × (rank_of (set r) ≡ next_rank o.rows)) IsRanked (change sched_facts (call_of 2) (with_rank 0 (next_rank o.rows)))
            (change_id sched_facts (call_of 2) (with_rank 0 (next_rank o.rows))) still_ranked 0 o.given o.rows (two 0 o.given o.rows sound.ranked last);
        apart = own_set set desc (next_rank o.rows) 0 o.given o.rows last (omega arith) sound.apart;
      }
    where
      set_rank : Row → Row
      set_rank = row_after sched_facts (call_of 2) (with_rank 0 (next_rank o.rows))

      still_ranked : (r : Row) → IsRanked r × (rank_of (set_rank r) ≡ next_rank o.rows) → IsRanked (change sched_facts (call_of 2) (with_rank 0 (next_rank o.rows)) r)
      still_ranked r are = at (r.id == desc)
        where
          at : (b : Bool) → IsRanked (cond b (set_rank r) r)
          at true = let is = are.1 in omega (arith, is)
          at false = are.0

      two : (low high : ℕ) (rows : List Row) → AreRows IsRanked low high rows → AreRows (λ r. rank_of (set_rank r) ≡ next_rank o.rows) low high rows
          → AreRows (λ r. IsRanked r × (rank_of (set_rank r) ≡ next_rank o.rows)) low high rows
      two low high [] are too = tt
      two low high (r ∷ rows) are too = (are.0, are.1, (are.2, too.2), two r.id high rows are.3 too.3)

  keeps_at : (fun : ℕ) (good : Good) → IsSchedSound o → Passes sched_facts o (call_of fun) → sched_answer fun o (call_of fun) ≡ Some (Ok good)
      → IsSchedSound (after sched_facts o (call_of fun) (Ok good))
  keeps_at zero good sound passes is = absurd (cc is)
  keeps_at (suc zero) good sound passes is =
      let one : with_rank (o.given + 1) (next_rank o.rows) ≡ good = cc is in
      subst (λ g. IsSchedSound (after sched_facts o (call_of 1) (Ok g))) one (makes sound passes)
  keeps_at (suc (suc zero)) good sound passes is =
      let one : with_rank 0 (next_rank o.rows) ≡ good = cc is in
      subst (λ g. IsSchedSound (after sched_facts o (call_of 2) (Ok g))) one (yields sound passes)
  keeps_at (suc (suc (suc zero))) good sound passes is = keeps_ranks 3 good (λ fields are. are) (λ r. refl) sound
  keeps_at (suc (suc (suc (suc zero)))) good sound passes is = keeps_ranks 4 good (λ fields are. are) (λ r. refl) sound
  keeps_at (suc (suc (suc (suc (suc zero))))) good sound passes is = keeps_ranks 5 good (λ fields are. are) (λ r. refl) sound
  keeps_at (suc (suc (suc (suc (suc (suc zero)))))) good sound passes is = sound
  keeps_at (suc (suc (suc (suc (suc (suc (suc zero))))))) good sound passes is = absurd (never_placed passes)
  keeps_at (suc (suc (suc (suc (suc (suc (suc (suc zero)))))))) good sound passes is =
      let childless = none_applies _ _ _ NoDesc BadState HasChildren passes.guarded in
      record {
        general = sound_left sched_facts o desc refl childless.2 sound.general;
        ranked = left IsRanked (λ r. not (ends_with sched_facts o.rows desc r.id)) 0 o.given o.rows sound.ranked;
        apart = apart_left rank_of (λ r. not (ends_with sched_facts o.rows desc r.id)) o.rows sound.apart;
      }
  keeps_at (suc (suc (suc (suc (suc (suc (suc (suc (suc n))))))))) good sound passes is = absurd (cc is)

-- the thread service answers each call that it may be asked, and what it holds stays sound
pub sched_answers_and_keeps : AnswersAndKeeps sched_facts sched_table IsSchedSound
sched_answers_and_keeps = record {
  empty = record { general = record { rows = tt; files = tt }; ranked = tt; apart = tt };
  general = λ o sound. sound.general;
  keeps = λ o call good sound passes is. keeps_at o call.client call.seq call.desc call.args call.fun good sound passes is;
  next = λ o call. next_of_first sched_facts o.given (λ f. sched_answer f o call) (with_rank (o.given + 1) (next_rank o.rows)) refl refl refl call.fun;
}
