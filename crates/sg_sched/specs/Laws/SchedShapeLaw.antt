-- The shape of the thread service, and its answers, keep to what every shape allows; and its ranks count slowly.
use Rattle.std.proofs.Common.{◌≡◌, ℕ, zero, suc, ◌+◌, ◌<◌, ◌≤◌, Bool, true, false, cond, List, [], ◌∷◌, ◌++◌, None, Some, map, filter, length, max, refl, sym, ◌∙◌, ap, subst, inl, inr, arith}
use Rattle.std.specs.Prelude.{◌==◌, not}
use Rattle.std.specs.declared.option.Option.{Option}
use Rattle.std.proofs.lemmas.Bool.{cases_Bool}
use Rattle.std.proofs.lemmas.Bool.Decides.{nat_tests}
use Rattle.sg_facts.specs.sg_base.declared.value.Value.{Value}
use Rattle.sg_facts.specs.sg_base.declared.call.Call.{Call}
use Rattle.sg_facts.specs.sg_base.declared.reply.Code.{Code}
use Rattle.sg_facts.specs.sg_base.declared.reply.Good.{Good}
use Rattle.sg_facts.specs.sg_base.declared.reply.Reply.{Reply}
use Rattle.sg_facts.specs.sg_base.declared.reply.Reply.TheVariants.{Ok, Refused}
use Rattle.sg_facts.specs.declared.row.Row.{Row}
use Rattle.sg_facts.specs.Facts.{fun_at}
use Rattle.sg_facts.specs.Allowed.{wants_word}
use Rattle.sg_facts.specs.Guard.{is_guards}
use Rattle.sg_facts.specs.Counted.{most_in, most_counted}
use Rattle.sg_facts.specs.Track.{row_at, new_row, ends_with, fields_after, first_word, arg_at, word_of}
use Rattle.sg_facts.specs.Inside.Rows.{row_after}
use Rattle.sg_facts.specs.Object.{Object, after}
use Rattle.sg_facts.specs.Laws.{ShapeAllows, CountsSlowly, Passes, state_in, slow, most_set}
use Rattle.sg_slots.proofs.SoundRows.{change}
use Rattle.sg_sched.specs.SchedFacts.{sched_facts}
use Rattle.sg_sched.specs.SchedTable.{sched_table, first_ready, next_rank, sched_answer}
use Rattle.sg_sched.specs.Inside.SchedAnswer.{sched_wait_answer, next_answer}
use Rattle.sg_sched.specs.SchedSound.{IsSchedSound}
use Rattle.sg_sched.specs.Laws.SchedBlockedLaw.{next_told}
use Rattle.sg_sched.specs.Laws.SchedSoundLaw.{most_is_counted, never_placed}

-- ---- answers

-- whether an answer is no refusal of the guard's, and has a word where one is wanted
abbrev IsAllowed : Bool → Option Reply → Type 0
IsAllowed wants None = Unit {0}
IsAllowed true (Some (Ok good)) = 0 < length good.words
IsAllowed false (Some (Ok good)) = Unit {0}
IsAllowed wants (Some (Refused code)) = is_guards code ≡ false

-- a wait is done or blocks
wait_allowed : (state : ℕ) → IsAllowed false (sched_wait_answer state)
wait_allowed state = at (state == 3)
  where
    at : (b : Bool) → IsAllowed false (cond b None (Some (Ok (record { desc = 0; words = []; bytes = [] }))))
    at true = tt
    at false = tt

-- what is next is told, or that there is none
next_allowed : (found : Option Row) → IsAllowed false (next_answer found)
next_allowed None = refl
next_allowed (Some r) = tt

-- the answer of every function is no refusal of the guard's, and has a word where one is wanted
allowed_at : (fun : ℕ) (o : Object) (call : Call) → IsAllowed (wants_word (fun_at sched_facts.funs fun)) (sched_answer fun o call)
allowed_at zero o call = refl
allowed_at (suc zero) o call = omega arith
allowed_at (suc (suc zero)) o call = omega arith
allowed_at (suc (suc (suc zero))) o call = tt
allowed_at (suc (suc (suc (suc zero)))) o call = tt
allowed_at (suc (suc (suc (suc (suc zero))))) o call = wait_allowed (state_in (row_at o.rows call.desc))
allowed_at (suc (suc (suc (suc (suc (suc zero)))))) o call = next_allowed (first_ready o.rows)
allowed_at (suc (suc (suc (suc (suc (suc (suc zero))))))) o call = tt
allowed_at (suc (suc (suc (suc (suc (suc (suc (suc zero)))))))) o call = tt
allowed_at (suc (suc (suc (suc (suc (suc (suc (suc (suc n))))))))) o call = refl

-- an answer of this kind is no refusal of the guard's
no_refusal : (wants : Bool) (answer : Option Reply) → IsAllowed wants answer → (code : Code) → answer ≡ Some (Refused code) → is_guards code ≡ false
no_refusal wants None allowed code is = absurd (cc is)
no_refusal wants (Some (Ok good)) allowed code is = absurd (cc is)
no_refusal true (Some (Refused other)) allowed code is = let one : other ≡ code = cc is in sym (ap is_guards one) ∙ allowed
no_refusal false (Some (Refused other)) allowed code is = let one : other ≡ code = cc is in sym (ap is_guards one) ∙ allowed

-- an answer of this kind has a word where one is wanted
has_word : (wants : Bool) (answer : Option Reply) → IsAllowed wants answer → wants ≡ true → (good : Good) → answer ≡ Some (Ok good) → 0 < length good.words
has_word wants None allowed wanted good is = absurd (cc is)
has_word true (Some (Ok other)) allowed wanted good is = let one : other ≡ good = cc is in subst (λ g. 0 < length g.words) one allowed
has_word false (Some (Ok other)) allowed wanted good is = absurd (cc wanted)
has_word wants (Some (Refused code)) allowed wanted good is = absurd (cc is)

-- only a wait blocks
blocks_at : (fun : ℕ) (o : Object) (call : Call) → sched_answer fun o call ≡ None → (fun_at sched_facts.funs fun).block ≡ true
blocks_at zero o call is = absurd (cc is)
blocks_at (suc zero) o call is = absurd (cc is)
blocks_at (suc (suc zero)) o call is = absurd (cc is)
blocks_at (suc (suc (suc zero))) o call is = absurd (cc is)
blocks_at (suc (suc (suc (suc zero)))) o call is = absurd (cc is)
blocks_at (suc (suc (suc (suc (suc zero))))) o call is = refl
blocks_at (suc (suc (suc (suc (suc (suc zero)))))) o call is = absurd (next_told (first_ready o.rows) is)
blocks_at (suc (suc (suc (suc (suc (suc (suc zero))))))) o call is = absurd (cc is)
blocks_at (suc (suc (suc (suc (suc (suc (suc (suc zero)))))))) o call is = absurd (cc is)
blocks_at (suc (suc (suc (suc (suc (suc (suc (suc (suc n))))))))) o call is = absurd (cc is)

-- the shape of the thread service, and its answers, keep to what every shape allows
pub sched_shape_allows : ShapeAllows sched_facts sched_table
sched_shape_allows = record {
  shape = refl;
  blocks = λ o call is. blocks_at call.fun o call is;
  refuses = λ o call code is. no_refusal (wants_word (fun_at sched_facts.funs call.fun)) (sched_table o call) (allowed_at call.fun o call) code is;
  words = λ o call good is wants. has_word (wants_word (fun_at sched_facts.funs call.fun)) (sched_table o call) (allowed_at call.fun o call) wants good is;
}

-- ---- counted words

-- the counted word of a row's fields after its rank was set
rank_counted : (fields : List Value) (call : Call) (good : Good) → most_in sched_facts 0 (fields_after call good (fun_at sched_facts.funs 2).effects fields) ≤ max (first_word good) (most_in sched_facts 0 fields)
rank_counted [] call good = omega arith
rank_counted (v ∷ []) call good = omega arith
rank_counted (v ∷ w ∷ fields) call good =
    let was : most_in sched_facts 0 (v ∷ w ∷ fields) ≡ max 0 (max (word_of w) (most_in sched_facts 2 fields)) = refl in
    let is : most_in sched_facts 0 (fields_after call good (fun_at sched_facts.funs 2).effects (v ∷ w ∷ fields)) ≡ max 0 (max (first_word good) (most_in sched_facts 2 fields)) = refl in
    omega (arith, was, is)

-- the counted word of a row's fields after the row was placed
place_counted : (fields : List Value) (call : Call) (good : Good) → most_in sched_facts 0 (fields_after call good (fun_at sched_facts.funs 7).effects fields) ≤ max (word_of (arg_at call 0)) (most_in sched_facts 0 fields)
place_counted [] call good = omega arith
place_counted (v ∷ []) call good = omega arith
place_counted (v ∷ w ∷ fields) call good =
    let was : most_in sched_facts 0 (v ∷ w ∷ fields) ≡ max 0 (max (word_of w) (most_in sched_facts 2 fields)) = refl in
    let is : most_in sched_facts 0 (fields_after call good (fun_at sched_facts.funs 7).effects (v ∷ w ∷ fields)) ≡ max 0 (max (word_of (arg_at call 0)) (most_in sched_facts 2 fields)) = refl in
    omega (arith, was, is)

-- a row comes last
counted_more : (rows : List Row) (new : Row) → most_counted sched_facts (rows ++ new ∷ []) ≤ max (most_counted sched_facts rows) (most_in sched_facts 0 new.fields)
counted_more [] new = omega arith
counted_more (r ∷ rows) new = let rest = counted_more rows new in omega (arith, rest)

-- rows go
counted_left : (keep : Row → Bool) (rows : List Row) → most_counted sched_facts (filter keep rows) ≤ most_counted sched_facts rows
counted_left keep [] = omega arith
counted_left keep (r ∷ rows) = at (keep r) (counted_left keep rows)
  where
    at : (b : Bool) → most_counted sched_facts (filter keep rows) ≤ most_counted sched_facts rows
        → most_counted sched_facts (cond b (r ∷ filter keep rows) (filter keep rows)) ≤ max (most_in sched_facts 0 r.fields) (most_counted sched_facts rows)
    at true rest = omega (arith, rest)
    at false rest = omega (arith, rest)

module _ (client seq desc : ℕ) (args : List Value) where
  abbrev call_of : ℕ → Call
  call_of fun = record { client = client; seq = seq; fun = fun; desc = desc; args = args }

  -- rows are changed, each by no more than up to a number
  counted_changed : (fun : ℕ) (good : Good) (n : ℕ) → ((r : Row) → most_in sched_facts 0 (row_after sched_facts (call_of fun) good r).fields ≤ max n (most_in sched_facts 0 r.fields))
      → (rows : List Row) → most_counted sched_facts (map (change sched_facts (call_of fun) good) rows) ≤ max n (most_counted sched_facts rows)
  counted_changed fun good n each [] = omega arith
  counted_changed fun good n each (r ∷ rows) = at (r.id == desc) (counted_changed fun good n each rows) (each r)
    where
      set : List Row
      set = map (change sched_facts (call_of fun) good) rows

      at : (b : Bool) → most_counted sched_facts set ≤ max n (most_counted sched_facts rows) → most_in sched_facts 0 (row_after sched_facts (call_of fun) good r).fields ≤ max n (most_in sched_facts 0 r.fields)
          → max (most_in sched_facts 0 (cond b (row_after sched_facts (call_of fun) good r) r).fields) (most_counted sched_facts set) ≤ max n (max (most_in sched_facts 0 r.fields) (most_counted sched_facts rows))
      at true rest own = omega (arith, rest, own)
      at false rest own = omega (arith, rest)

  -- a function but sched_place
  counted_at : (fun : ℕ) (o : Object) (good : Good) → (fun ≡ 7 → ⊥) → sched_answer fun o (call_of fun) ≡ Some (Ok good)
      → most_counted sched_facts (after sched_facts o (call_of fun) (Ok good)).rows ≤ max slow (most_counted sched_facts o.rows + 1)
  counted_at zero o good other is = absurd (cc is)
  counted_at (suc zero) o good other is =
      let one : record { desc = o.given + 1; words = next_rank o.rows ∷ []; bytes = [] } ≡ good = cc is in
      let word : next_rank o.rows ≡ first_word good = ap first_word one in
      let most = most_is_counted 0 o.rows in
      let new : most_in sched_facts 0 (new_row sched_facts (call_of 1) good).fields ≡ max 0 (max (first_word good) 0) = refl in
      let more = counted_more o.rows (new_row sched_facts (call_of 1) good) in
      omega (arith, word, most, new, more)
  counted_at (suc (suc zero)) o good other is =
      let one : record { desc = 0; words = next_rank o.rows ∷ []; bytes = [] } ≡ good = cc is in
      let word : next_rank o.rows ≡ first_word good = ap first_word one in
      let most = most_is_counted 0 o.rows in
      let set = counted_changed 2 good (first_word good) (λ r. rank_counted r.fields (call_of 2) good) o.rows in
      omega (arith, word, most, set)
  counted_at (suc (suc (suc zero))) o good other is = let set = counted_changed 3 good 0 (λ r. omega arith) o.rows in omega (arith, set)
  counted_at (suc (suc (suc (suc zero)))) o good other is = let set = counted_changed 4 good 0 (λ r. omega arith) o.rows in omega (arith, set)
  counted_at (suc (suc (suc (suc (suc zero))))) o good other is = let set = counted_changed 5 good 0 (λ r. omega arith) o.rows in omega (arith, set)
  counted_at (suc (suc (suc (suc (suc (suc zero)))))) o good other is = omega arith
  counted_at (suc (suc (suc (suc (suc (suc (suc zero))))))) o good other is = absurd (other refl)
  counted_at (suc (suc (suc (suc (suc (suc (suc (suc zero)))))))) o good other is =
      let left = counted_left (λ r. not (ends_with sched_facts o.rows desc r.id)) o.rows in
      omega (arith, left)
  counted_at (suc (suc (suc (suc (suc (suc (suc (suc (suc n))))))))) o good other is = absurd (cc is)

  placed_at : (o : Object) (good : Good)
      → most_counted sched_facts (after sched_facts o (call_of 7) (Ok good)).rows ≤ max (max slow (most_set sched_facts (call_of 7) (fun_at sched_facts.funs 7).effects)) (most_counted sched_facts o.rows + 1)
  placed_at o good =
      let set = counted_changed 7 good (word_of (arg_at (call_of 7) 0)) (λ r. place_counted r.fields (call_of 7) good) o.rows in
      let arg : most_set sched_facts (call_of 7) (fun_at sched_facts.funs 7).effects ≡ max (word_of (arg_at (call_of 7) 0)) 0 = refl in
      omega (arith, set, arg)

  calls_at : (fun : ℕ) (o : Object) (good : Good) → Passes sched_facts o (call_of fun) → sched_answer fun o (call_of fun) ≡ Some (Ok good)
      → most_counted sched_facts (after sched_facts o (call_of fun) (Ok good)).rows ≤ max slow (most_counted sched_facts o.rows + 1)
  calls_at fun o good passes is = counted_at fun o good (λ places. never_placed o client seq desc args (subst (λ f. Passes sched_facts o (call_of f)) places passes)) is

  pub replays_at : (fun : ℕ) (o : Object) (good : Good) → sched_answer fun o (call_of fun) ≡ Some (Ok good)
      → most_counted sched_facts (after sched_facts o (call_of fun) (Ok good)).rows ≤ max (max slow (most_set sched_facts (call_of fun) (fun_at sched_facts.funs fun).effects)) (most_counted sched_facts o.rows + 1)
  replays_at fun o good is = elim (cases_Bool (fun == 7)) [
    | inl test ↦
        let places : 7 ≡ fun = grind (arith, nat_tests) in
        subst (λ f. most_counted sched_facts (after sched_facts o (call_of f) (Ok good)).rows ≤ max (max slow (most_set sched_facts (call_of f) (fun_at sched_facts.funs f).effects)) (most_counted sched_facts o.rows + 1))
        places (placed_at o good)
    | inr test ↦
        let other : fun ≡ 7 → ⊥ = λ places. (let same : (fun == 7) ≡ true = grind (arith, nat_tests) in let clash : true ≡ false = sym same ∙ test in cc clash) in
        let bound = counted_at fun o good other is in
        omega (arith, bound)
  ]

-- the ranks of threads stay far from the end of their type
pub sched_counts_slowly : CountsSlowly sched_facts sched_table IsSchedSound
sched_counts_slowly = record {
  calls = λ o call good sound passes is. calls_at call.client call.seq call.desc call.args call.fun o good passes is;
  replays = λ held call good may replayed is. replays_at call.client call.seq call.desc call.args call.fun held good is;
}
