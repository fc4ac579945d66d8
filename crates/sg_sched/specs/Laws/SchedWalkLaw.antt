-- The thread service rebuilds its threads.
use Rattle.std.proofs.Common.{◌≡◌, ℕ, ◌+◌, ◌^◌, ◌<◌, ◌≤◌, Bool, true, false, List, [], ◌∷◌, Some, map, refl, sym, subst, inl, inr, ◌⊎◌, arith}
use Rattle.std.specs.Prelude.{◌==◌, ◌||◌, ◌&&◌, fold, max}
use Rattle.std.proofs.lemmas.Bool.Decides.{nat_tests}
use Rattle.sg_facts.specs.sg_base.declared.value.Value.{Value}
use Rattle.sg_facts.specs.sg_base.declared.value.Value.TheVariants.{Word, Text}
use Rattle.sg_facts.specs.sg_base.declared.call.Call.{Call}
use Rattle.sg_facts.specs.sg_base.declared.reply.Good.{Good}
use Rattle.sg_facts.specs.declared.row.Row.{Row}
use Rattle.sg_facts.specs.Alike.{named}
use Rattle.sg_facts.specs.Facts.{fun_at}
use Rattle.sg_facts.specs.Held.{set_of}
use Rattle.sg_facts.specs.Interface.{Declared, has_pair}
use Rattle.sg_facts.specs.Kinds.{kinds_fit}
use Rattle.sg_facts.specs.Laws.{WalkGoesOn, next_call}
use Rattle.sg_facts.specs.Object.{Object}
use Rattle.sg_facts.specs.Sound.{AreFields, IsRow}
use Rattle.sg_facts.specs.Track.{field_at, fields_after, row_at, word_of}
use Rattle.sg_facts.specs.Fields.{empty_field}
use Rattle.sg_sched.specs.SchedFacts.{sched_facts}
use Rattle.sg_sched.specs.SchedTable.{next_rank, rank_of, sched_table}
use Rattle.sg_sched.specs.SchedSound.{IsSchedSound}
use Rattle.sg_facts.specs.Counted.{most_counted, most_in}
use Rattle.sg_sched.specs.Laws.SchedSoundLaw.{sched_answers_and_keeps}
use Rattle.sg_slots.proofs.RowLaws.{first_makes}
use Rattle.sg_facts.specs.Replaying.Replays.{AnswersCreations, AnswersReplays, AnswersSteps, IsAnsweredOk}
use Rattle.sg_facts.proofs.Replaying.Found.{met}
use Rattle.sg_facts.proofs.Replaying.Goes.{walk_goes_on}
use Rattle.sg_facts.proofs.Replaying.Service.{begun_by, of_facts, step_of}

-- sched_create_thd alone makes threads; sched_sleep and sched_place are the steps
one_creation : (f : ℕ) → (fun_at sched_facts.funs f).creation ≡ true → f ≡ 1
one_creation f is = first_makes sched_facts.funs refl f is

two_steps : (state f : ℕ) → has_pair sched_facts.steps state f ≡ true → (f ≡ 3) ⊎ (f ≡ 7)
two_steps state f is = at (1 == state) (3 == f) (7 == f) refl refl is
  where
    at : (a b c : Bool) → (3 == f) ≡ b → (7 == f) ≡ c → ((a && b) || ((a && c) || false)) ≡ true → (f ≡ 3) ⊎ (f ≡ 7)
    at true true c y z is = inl (grind (arith, nat_tests, y))
    at true false true y z is = inr (grind (arith, nat_tests, z))
    at true false false y z is = absurd (cc is)
    at false b c y z is = absurd (cc is)

-- ---- ranks are counted

rank_in : (fields : List Value) → word_of (field_at fields 1) ≤ most_in sched_facts 0 fields
rank_in [] = omega arith
rank_in (v ∷ []) = omega arith
rank_in (v ∷ w ∷ fields) =
    let is : most_in sched_facts 0 (v ∷ w ∷ fields) ≡ max 0 (max (word_of w) (most_in sched_facts 2 fields)) = refl in
    omega (arith, is)

most_rank : (a : ℕ) (rows : List Row) → fold max a (map rank_of rows) ≤ max a (most_counted sched_facts rows)
most_rank a [] = omega arith
most_rank a (r ∷ rows) =
    let rest = most_rank (max a (rank_of r)) rows in
    let own = rank_in r.fields in
    omega (arith, rest, own)

module _ (own : Declared) where
  abbrev i : Declared
  i = record own { facts = sched_facts }

  abbrev Given : Object → Call → List Value → Type 0
  Given held call old = IsAnsweredOk sched_facts sched_table held call old

  row_of : (o : Object) (r : Row) → IsSchedSound o → row_at o.rows r.id ≡ Some r → IsRow sched_facts o.rows r
  row_of o r sound there = met (IsRow sched_facts o.rows) 0 o.given r.id o.rows r sound.general.rows there

  first_word_fits : (fields : List Value) → AreFields sched_facts.fields fields → kinds_fit (fun_at sched_facts.funs 1).kinds (field_at fields 0 ∷ []) ≡ true
  first_word_fits [] are = absurd are
  first_word_fits (Word n ∷ fields) are = refl
  first_word_fits (Text bytes ∷ fields) are = let no_text = are.0 in absurd (cc no_text)

  rank_fits : (fields : List Value) → AreFields sched_facts.fields fields → kinds_fit (fun_at sched_facts.funs 7).kinds (field_at fields 1 ∷ []) ≡ true
  rank_fits [] are = absurd are
  rank_fits (v ∷ []) are = absurd are.1
  rank_fits (v ∷ Word n ∷ fields) are = refl
  rank_fits (v ∷ Text bytes ∷ fields) are = let no_text = are.1.0 in absurd (cc no_text)

  made_fields : (fields : List Value) (rank : ℕ) → AreFields sched_facts.fields fields → rank < 2 ^ 64 → AreFields sched_facts.fields (field_at fields 0 ∷ Word rank ∷ [])
  made_fields [] rank are small = absurd are
  made_fields (v ∷ fields) rank are small = (are.0, ((refl, small), tt))

  placed_fields : (fields ws : List Value) (names : List (ℕ × ℕ)) (r : Row) (done : List ℕ) (g : Good) → r.fields ≡ fields → AreFields sched_facts.fields fields → AreFields sched_facts.fields ws
      → AreFields sched_facts.fields (fields_after (next_call sched_facts names r done 7) g (fun_at sched_facts.funs 7).effects ws)
  placed_fields [] ws names r done g is are also = absurd are
  placed_fields (v ∷ []) ws names r done g is are also = absurd are.1
  placed_fields (v ∷ v' ∷ fields) [] names r done g is are also = absurd also
  placed_fields (v ∷ v' ∷ fields) (w ∷ []) names r done g is are also = absurd also.1
  placed_fields (v ∷ v' ∷ fields) (w ∷ w' ∷ x ∷ ws) names r done g is are also = absurd also.1.1
  placed_fields (v ∷ v' ∷ fields) (w ∷ w' ∷ []) names r done g is are also =
      subst (λ fs. AreFields sched_facts.fields (w ∷ field_at fs 1 ∷ [])) (sym is) (also.0, (are.1.0, tt))

  creates : AnswersCreations i sched_table IsSchedSound
  creates names o held r rest half there fresh parent walk =
      let row = row_of o r half.is_sound there in
      let small : next_rank held.rows < 2 ^ 64 = let m = most_rank 0 held.rows in let c = half.counted in omega (arith, m, c) in
      subst (λ f. Given held (next_call sched_facts names r [] f) (map empty_field sched_facts.fields)) (sym (one_creation r.made (begun_by i r.made rest r.made r.state (set_of r) walk)))
      (record {
        client_first = row.creator_first;
        client_last = row.creator_last;
        args = first_word_fits r.fields row.fields;
        good = record { desc = held.given + 1; words = next_rank held.rows ∷ []; bytes = [] };
        answered = refl;
        fields = made_fields r.fields (next_rank held.rows) row.fields small;
      })

  steps_on_it : AnswersSteps i sched_table IsSchedSound
  steps_on_it names o held r w first done rest fun half there found walk part may =
      let own = row_of o r half.is_sound there in
      let row : IsRow sched_facts held.rows w = met (IsRow sched_facts held.rows) 0 held.given (named names r.id) held.rows w (let h = half.holds in h.held_sound.rows) found in
      elim (two_steps part.spot.state fun (step_of i part.spot fun half.fits may)) [
        | inl sleeps ↦ subst (λ f. Given held (next_call sched_facts names r (first ∷ done) f) w.fields) (sym sleeps) (record {
          client_first = own.creator_first;
          client_last = own.creator_last;
          args = refl;
          good = record { desc = 0; words = []; bytes = [] };
          answered = refl;
          fields = row.fields;
        })
        | inr places ↦ subst (λ f. Given held (next_call sched_facts names r (first ∷ done) f) w.fields) (sym places) (record {
          client_first = own.creator_first;
          client_last = own.creator_last;
          args = rank_fits r.fields own.fields;
          good = record { desc = 0; words = []; bytes = [] };
          answered = refl;
          fields = placed_fields r.fields w.fields names r (first ∷ done) (record { desc = 0; words = []; bytes = [] }) refl own.fields row.fields;
        })
      ]

-- in the middle of a recovery the thread service answers Ok to each replayed creation and to each recover step
pub sched_answers_replays : AnswersReplays sched_facts sched_table IsSchedSound
sched_answers_replays = record {
  creations = of_facts (λ i. AnswersCreations i sched_table IsSchedSound) sched_facts creates;
  steps = of_facts (λ i. AnswersSteps i sched_table IsSchedSound) sched_facts steps_on_it;
}

-- in the middle of a recovery the next call of the walk of a thread is answered Ok, and brings it one step on
pub sched_walk_goes_on : WalkGoesOn sched_facts sched_table IsSchedSound
sched_walk_goes_on = walk_goes_on sched_facts sched_table IsSchedSound refl sched_answers_and_keeps sched_answers_replays
