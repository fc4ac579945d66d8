-- When timers are due stays far from the end of its type.
use Rattle.std.proofs.Common.{◌≡◌, ℕ, zero, suc, ◌+◌, ◌≤◌, Bool, true, false, cond, List, [], ◌∷◌, ◌++◌, None, Some, map, filter, max, refl, sym, ◌∙◌, ap, subst, inl, inr, arith}
use Rattle.std.specs.Prelude.{◌==◌, not, nat_lt}
use Rattle.std.specs.List.{list_any}
use Rattle.std.proofs.lemmas.Bool.{cases_Bool}
use Rattle.std.proofs.lemmas.Bool.Decides.{nat_tests}
use Rattle.sg_facts.specs.sg_base.declared.value.Value.{Value}
use Rattle.sg_facts.specs.sg_base.declared.call.Call.{Call}
use Rattle.sg_facts.specs.sg_base.declared.reply.Good.{Good}
use Rattle.sg_facts.specs.sg_base.declared.reply.Reply.TheVariants.{Ok}
use Rattle.sg_facts.specs.declared.row.Row.{Row}
use Rattle.sg_facts.specs.declared.shape.Effect.TheVariants.{SetArg, AddArg, AddRet}
use Rattle.sg_facts.specs.Facts.{fun_at}
use Rattle.sg_facts.specs.Allowed.{is_replayed}
use Rattle.sg_facts.specs.Counted.{most_in, most_counted}
use Rattle.sg_facts.specs.Track.{row_at, new_row, ends_with, field_at, fields_after, first_word, arg_at, word_of}
use Rattle.sg_facts.specs.Inside.Rows.{row_after}
use Rattle.sg_facts.specs.Object.{Object, after}
use Rattle.sg_facts.specs.Sound.{AreRows}
use Rattle.sg_facts.specs.Laws.{CountsSlowly, Passes, slow, most_set}
use Rattle.sg_facts.proofs.RowLists.{both, other}
use Rattle.sg_slots.proofs.FoundRows.{all_rows}
use Rattle.sg_slots.proofs.SoundRows.{change}
use Rattle.sg_timer.specs.TimerFacts.{timer_facts}
use Rattle.sg_timer.specs.TimerTable.{timer_table, timer_answer, most_ticks, skipped, tag_of}
use Rattle.sg_timer.specs.Inside.TimerAnswer.{skip_of, wait_of}
use Rattle.sg_timer.specs.Inside.TimerFields.{skip_bound}
use Rattle.sg_timer.specs.TimerSound.{AreTimed, IsTimed, IsTimerSound}
use Rattle.sg_timer.specs.Laws.TimerSoundLaw.{created, never_placed, waited, word_is}

-- ---- the counted word of a row's fields: when it is due

-- a tick leaves it
tick_counted : (fields : List Value) (call : Call) (good : Good) → most_in timer_facts 0 (fields_after call good ((3, AddArg 0) ∷ []) fields) ≤ max 0 (most_in timer_facts 0 fields)
tick_counted [] call good = omega arith
tick_counted (a ∷ []) call good = omega arith
tick_counted (a ∷ b ∷ []) call good = omega arith
tick_counted (a ∷ b ∷ c ∷ []) call good = omega arith
tick_counted (a ∷ b ∷ c ∷ d ∷ []) call good = omega arith
tick_counted (a ∷ b ∷ c ∷ d ∷ e ∷ fields) call good =
    let was : most_in timer_facts 0 (a ∷ b ∷ c ∷ d ∷ e ∷ fields) ≡ max 0 (max 0 (max 0 (max 0 (max (word_of e) (most_in timer_facts 5 fields))))) = refl in
    let is : most_in timer_facts 0 (fields_after call good ((3, AddArg 0) ∷ []) (a ∷ b ∷ c ∷ d ∷ e ∷ fields)) ≡ max 0 (max 0 (max 0 (max 0 (max (word_of e) (most_in timer_facts 5 fields))))) = refl in
    omega (arith, was, is)

place_counted : (fields : List Value) (call : Call) (good : Good) → most_in timer_facts 0 (fields_after call good ((4, SetArg 0) ∷ []) fields) ≤ max (word_of (arg_at call 0)) (most_in timer_facts 0 fields)
place_counted [] call good = omega arith
place_counted (a ∷ []) call good = omega arith
place_counted (a ∷ b ∷ []) call good = omega arith
place_counted (a ∷ b ∷ c ∷ []) call good = omega arith
place_counted (a ∷ b ∷ c ∷ d ∷ []) call good = omega arith
place_counted (a ∷ b ∷ c ∷ d ∷ e ∷ fields) call good =
    let was : most_in timer_facts 0 (a ∷ b ∷ c ∷ d ∷ e ∷ fields) ≡ max 0 (max 0 (max 0 (max 0 (max (word_of e) (most_in timer_facts 5 fields))))) = refl in
    let is : most_in timer_facts 0 (fields_after call good ((4, SetArg 0) ∷ []) (a ∷ b ∷ c ∷ d ∷ e ∷ fields)) ≡ max 0 (max 0 (max 0 (max 0 (max (word_of (arg_at call 0)) (most_in timer_facts 5 fields))))) = refl in
    omega (arith, was, is)

-- a timer is put off to no more than up to a number
put_off_counted : (fields : List Value) (call : Call) (good : Good) (n : ℕ) → word_of (field_at fields 4) + first_word good ≤ max n (word_of (field_at fields 4))
    → most_in timer_facts 0 (fields_after call good ((4, AddRet) ∷ []) fields) ≤ max n (most_in timer_facts 0 fields)
put_off_counted [] call good n most = omega arith
put_off_counted (a ∷ []) call good n most = omega arith
put_off_counted (a ∷ b ∷ []) call good n most = omega arith
put_off_counted (a ∷ b ∷ c ∷ []) call good n most = omega arith
put_off_counted (a ∷ b ∷ c ∷ d ∷ []) call good n most = omega arith
put_off_counted (a ∷ b ∷ c ∷ d ∷ e ∷ fields) call good n most =
    let bound : word_of e + first_word good ≤ max n (word_of e) = most in
    let was : most_in timer_facts 0 (a ∷ b ∷ c ∷ d ∷ e ∷ fields) ≡ max 0 (max 0 (max 0 (max 0 (max (word_of e) (most_in timer_facts 5 fields))))) = refl in
    let is : most_in timer_facts 0 (fields_after call good ((4, AddRet) ∷ []) (a ∷ b ∷ c ∷ d ∷ e ∷ fields)) ≡ max 0 (max 0 (max 0 (max 0 (max (word_of e + first_word good) (most_in timer_facts 5 fields))))) = refl in
    omega (arith, bound, was, is)

-- ---- rows

-- a row comes last
counted_more : (rows : List Row) (new : Row) → most_counted timer_facts (rows ++ new ∷ []) ≤ max (most_counted timer_facts rows) (most_in timer_facts 0 new.fields)
counted_more [] new = omega arith
counted_more (r ∷ rows) new = let rest = counted_more rows new in omega (arith, rest)

-- rows go
counted_left : (keep : Row → Bool) (rows : List Row) → most_counted timer_facts (filter keep rows) ≤ most_counted timer_facts rows
counted_left keep [] = omega arith
counted_left keep (r ∷ rows) = at (keep r) (counted_left keep rows)
  where
    at : (b : Bool) → most_counted timer_facts (filter keep rows) ≤ most_counted timer_facts rows
        → most_counted timer_facts (cond b (r ∷ filter keep rows) (filter keep rows)) ≤ max (most_in timer_facts 0 r.fields) (most_counted timer_facts rows)
    at true rest = omega (arith, rest)
    at false rest = omega (arith, rest)

module _ (client seq desc : ℕ) (args : List Value) where
  abbrev call_of : ℕ → Call
  call_of fun = record { client = client; seq = seq; fun = fun; desc = desc; args = args }

  -- a row is changed by no more than up to a number
  abbrev Within : ℕ → Good → ℕ → Row → Type 0
  Within fun good n r = most_in timer_facts 0 (row_after timer_facts (call_of fun) good r).fields ≤ max n (most_in timer_facts 0 r.fields)

  -- the row of the call's timer is changed, by no more than up to a number
  counted_changed : (fun : ℕ) (good : Good) (n low high : ℕ) (rows : List Row) → AreRows (λ r. r.id ≡ desc → Within fun good n r) low high rows
      → most_counted timer_facts (map (change timer_facts (call_of fun) good) rows) ≤ max n (most_counted timer_facts rows)
  counted_changed fun good n low high [] are = omega arith
  counted_changed fun good n low high (r ∷ rows) are = at (r.id == desc) (λ is. are.2 (here is)) (counted_changed fun good n r.id high rows are.3)
    where
      set : List Row
      set = map (change timer_facts (call_of fun) good) rows

      here : (r.id == desc) ≡ true → r.id ≡ desc
      here is = grind (arith, nat_tests)

      at : (b : Bool) → (b ≡ true → Within fun good n r) → most_counted timer_facts set ≤ max n (most_counted timer_facts rows)
          → max (most_in timer_facts 0 (cond b (row_after timer_facts (call_of fun) good r) r).fields) (most_counted timer_facts set) ≤ max n (max (most_in timer_facts 0 r.fields) (most_counted timer_facts rows))
      at true own rest = let its : most_in timer_facts 0 (row_after timer_facts (call_of fun) good r).fields ≤ max n (most_in timer_facts 0 r.fields) = own refl in omega (arith, its, rest)
      at false own rest = omega (arith, rest)

  -- any row is changed so
  each_changed : (fun : ℕ) (good : Good) (n : ℕ) → ((r : Row) → Within fun good n r) → (rows : List Row)
      → most_counted timer_facts (map (change timer_facts (call_of fun) good) rows) ≤ max n (most_counted timer_facts rows)
  each_changed fun good n each [] = omega arith
  each_changed fun good n each (r ∷ rows) = at (r.id == desc) (each_changed fun good n each rows) (each r)
    where
      set : List Row
      set = map (change timer_facts (call_of fun) good) rows

      at : (b : Bool) → most_counted timer_facts set ≤ max n (most_counted timer_facts rows) → most_in timer_facts 0 (row_after timer_facts (call_of fun) good r).fields ≤ max n (most_in timer_facts 0 r.fields)
          → max (most_in timer_facts 0 (cond b (row_after timer_facts (call_of fun) good r) r).fields) (most_counted timer_facts set) ≤ max n (max (most_in timer_facts 0 r.fields) (most_counted timer_facts rows))
      at true rest own = omega (arith, rest, own)
      at false rest own = omega (arith, rest)

  -- the rows of a sound object, each the one that is found by its id
  abbrev IsFound : List Row → Row → Type 0
  IsFound rows r = AreTimed r.fields × (row_at rows r.id ≡ Some r)

  found_rows : (o : Object) → IsTimerSound o → AreRows (IsFound o.rows) 0 o.given o.rows
  found_rows o sound = both IsTimed (λ r. row_at o.rows r.id ≡ Some r) 0 o.given o.rows sound.timed (all_rows IsTimed (λ r. row_at o.rows r.id ≡ Some r) 0 o.given o.rows sound.timed (λ r found. found))

  -- a making, a tick, a question, and an end
  create_at : (o : Object) (good : Good) → timer_answer 1 o (row_at o.rows desc) (call_of 1) ≡ Some (Ok good)
      → most_counted timer_facts (after timer_facts o (call_of 1) (Ok good)).rows ≤ max slow (most_counted timer_facts o.rows + 1)
  create_at o good is =
      let its = created o.given (word_of (arg_at (call_of 1) 0)) (list_any (λ r. tag_of r == word_of (arg_at (call_of 1) 1)) o.rows) good is in
      let small = its.small in
      let word = its.word in
      let new : most_in timer_facts 0 (new_row timer_facts (call_of 1) good).fields ≡ max 0 (max 0 (max 0 (max 0 (max (first_word good) 0)))) = refl in
      let more = counted_more o.rows (new_row timer_facts (call_of 1) good) in
      omega (arith, small, word, new, more)

  tick_at : (o : Object) (good : Good) → most_counted timer_facts (after timer_facts o (call_of 2) (Ok good)).rows ≤ max slow (most_counted timer_facts o.rows + 1)
  tick_at o good =
      let set = each_changed 2 good 0 (λ r. tick_counted r.fields (call_of 2) good) o.rows in
      omega (arith, set)

  free_at : (o : Object) (good : Good) → most_counted timer_facts (after timer_facts o (call_of 7) (Ok good)).rows ≤ max slow (most_counted timer_facts o.rows + 1)
  free_at o good =
      let left = counted_left (λ r. not (ends_with timer_facts o.rows desc r.id)) o.rows in
      omega (arith, left)

  -- a wait that is done puts its timer off to at most one period past its time
  wait_at : (o : Object) (good : Good) → IsTimerSound o → timer_answer 3 o (row_at o.rows desc) (call_of 3) ≡ Some (Ok good)
      → most_counted timer_facts (after timer_facts o (call_of 3) (Ok good)).rows ≤ max slow (most_counted timer_facts o.rows + 1)
  wait_at o good sound is =
      let set = counted_changed 3 good slow 0 o.given o.rows (other (IsFound o.rows) (λ r. r.id ≡ desc → Within 3 good slow r) within 0 o.given o.rows (found_rows o sound)) in
      omega (arith, set)
    where
      within : (r : Row) → IsFound o.rows r → r.id ≡ desc → Within 3 good slow r
      within r found here =
          let done = waited (word_of (field_at r.fields 3)) (word_of (field_at r.fields 4)) (word_of (field_at r.fields 1)) good (sym (ap wait_of (ap (row_at o.rows) (sym here) ∙ found.1)) ∙ is) in
          let before = done.before in
          let reached : word_of (field_at r.fields 4) ≤ word_of (field_at r.fields 3) = grind (arith, nat_tests, before) in
          let word = done.word in
          let timed = found.0 in
          let period = timed.period in
          let time = timed.time in
          put_off_counted r.fields (call_of 3) good slow (omega (arith, reached, word, period, time))

  -- so does a skip, or it leaves it
  skip_at : (o : Object) (good : Good) → IsTimerSound o → timer_answer 6 o (row_at o.rows desc) (call_of 6) ≡ Some (Ok good)
      → most_counted timer_facts (after timer_facts o (call_of 6) (Ok good)).rows ≤ max slow (most_counted timer_facts o.rows + 1)
  skip_at o good sound is =
      let set = counted_changed 6 good slow 0 o.given o.rows (other (IsFound o.rows) (λ r. r.id ≡ desc → Within 6 good slow r) within 0 o.given o.rows (found_rows o sound)) in
      omega (arith, set)
    where
      within : (r : Row) → IsFound o.rows r → r.id ≡ desc → Within 6 good slow r
      within r found here =
          let word = word_is (skipped (word_of (field_at r.fields 3)) (word_of (field_at r.fields 4)) (word_of (field_at r.fields 1))) good (sym (ap skip_of (ap (row_at o.rows) (sym here) ∙ found.1)) ∙ is) in
          let bound = skip_bound (word_of (field_at r.fields 3)) (word_of (field_at r.fields 4)) (word_of (field_at r.fields 1)) in
          let timed = found.0 in
          let period = timed.period in
          let time = timed.time in
          put_off_counted r.fields (call_of 6) good slow (omega (arith, word, bound, period, time))

  placed_at : (o : Object) (good : Good)
      → most_counted timer_facts (after timer_facts o (call_of 4) (Ok good)).rows ≤ max (max slow (most_set timer_facts (call_of 4) (fun_at timer_facts.funs 4).effects)) (most_counted timer_facts o.rows + 1)
  placed_at o good =
      let set = each_changed 4 good (word_of (arg_at (call_of 4) 0)) (λ r. place_counted r.fields (call_of 4) good) o.rows in
      let arg : most_set timer_facts (call_of 4) (fun_at timer_facts.funs 4).effects ≡ max (word_of (arg_at (call_of 4) 0)) 0 = refl in
      omega (arith, set, arg)

  calls_at : (fun : ℕ) (o : Object) (good : Good) → IsTimerSound o → Passes timer_facts o (call_of fun) → timer_answer fun o (row_at o.rows desc) (call_of fun) ≡ Some (Ok good)
      → most_counted timer_facts (after timer_facts o (call_of fun) (Ok good)).rows ≤ max slow (most_counted timer_facts o.rows + 1)
  calls_at zero o good sound passes is = absurd (cc is)
  calls_at (suc zero) o good sound passes is = create_at o good is
  calls_at (suc (suc zero)) o good sound passes is = tick_at o good
  calls_at (suc (suc (suc zero))) o good sound passes is = wait_at o good sound is
  calls_at (suc (suc (suc (suc zero)))) o good sound passes is = absurd (never_placed o client seq desc args passes)
  calls_at (suc (suc (suc (suc (suc zero))))) o good sound passes is = omega arith
  calls_at (suc (suc (suc (suc (suc (suc zero)))))) o good sound passes is = skip_at o good sound is
  calls_at (suc (suc (suc (suc (suc (suc (suc zero))))))) o good sound passes is = free_at o good
  calls_at (suc (suc (suc (suc (suc (suc (suc (suc n)))))))) o good sound passes is = absurd (cc is)

  -- of the replayed calls one sets when its timer is due
  replays_at : (fun : ℕ) (o : Object) (good : Good) → is_replayed timer_facts fun ≡ true → timer_answer fun o (row_at o.rows desc) (call_of fun) ≡ Some (Ok good)
      → most_counted timer_facts (after timer_facts o (call_of fun) (Ok good)).rows ≤ max (max slow (most_set timer_facts (call_of fun) (fun_at timer_facts.funs fun).effects)) (most_counted timer_facts o.rows + 1)
  replays_at zero o good replayed is = absurd (cc is)
  replays_at (suc zero) o good replayed is = let bound = create_at o good is in omega (arith, bound)
  replays_at (suc (suc zero)) o good replayed is = let bound = tick_at o good in omega (arith, bound)
  replays_at (suc (suc (suc zero))) o good replayed is = absurd (cc replayed)
  replays_at (suc (suc (suc (suc zero)))) o good replayed is = placed_at o good
  replays_at (suc (suc (suc (suc (suc zero))))) o good replayed is = absurd (cc replayed)
  replays_at (suc (suc (suc (suc (suc (suc zero)))))) o good replayed is = absurd (cc replayed)
  replays_at (suc (suc (suc (suc (suc (suc (suc zero))))))) o good replayed is = absurd (cc replayed)
  replays_at (suc (suc (suc (suc (suc (suc (suc (suc n)))))))) o good replayed is = absurd (cc is)

-- when timers are due stays far from the end of its type
pub timer_counts_slowly : CountsSlowly timer_facts timer_table IsTimerSound
timer_counts_slowly = record {
  calls = λ o call good sound passes is. calls_at call.client call.seq call.desc call.args call.fun o good sound passes is;
  replays = λ held call good may replayed is. replays_at call.client call.seq call.desc call.args call.fun held good replayed is;
}
