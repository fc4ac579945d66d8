-- The event service rebuilds its events.
use Rattle.std.proofs.Common.{◌≡◌, ℕ, ◌+◌, ◌≤◌, Bool, true, false, cond, List, [], ◌∷◌, ◌++◌, Some, map, refl, sym, ◌∙◌, ap, subst, arith}
use Rattle.std.specs.Prelude.{nat_lt}
use Rattle.std.proofs.lemmas.Bool.Decides.{nat_tests}
use Rattle.sg_facts.specs.sg_base.declared.value.Value.{Value}
use Rattle.sg_facts.specs.sg_base.declared.value.Value.TheVariants.{Word, Text}
use Rattle.sg_facts.specs.sg_base.declared.call.Call.{Call}
use Rattle.sg_facts.specs.sg_base.declared.reply.Good.{Good}
use Rattle.sg_facts.specs.sg_base.declared.reply.Reply.TheVariants.{Ok, Refused}
use Rattle.sg_facts.specs.sg_base.declared.reply.Code.TheVariants.{Overflow}
use Rattle.sg_facts.specs.declared.row.Row.{Row}
use Rattle.sg_facts.specs.Alike.{named}
use Rattle.sg_facts.specs.Facts.{fun_at}
use Rattle.sg_facts.specs.Held.{FieldsHold, set_of}
use Rattle.sg_facts.specs.Interface.{Declared, has_pair}
use Rattle.sg_facts.specs.Kinds.{kinds_fit}
use Rattle.sg_facts.specs.Laws.{WalkGoesOn, next_call}
use Rattle.sg_facts.specs.Object.{Object}
use Rattle.sg_facts.specs.Sound.{AreFields, IsRow}
use Rattle.sg_facts.specs.Track.{field_at, fields_after, row_at, word_of}
use Rattle.sg_facts.specs.Fields.{empty_field}
use Rattle.sg_facts.specs.Walks.{FieldMark, Spot, good, next_spot, restores_fields, unknown, unset}
use Rattle.sg_facts.specs.Inside.Walking.{may_go_on}
use Rattle.sg_event.specs.EventFacts.{event_facts}
use Rattle.sg_event.specs.EventTable.{event_table}
use Rattle.sg_event.specs.Inside.EventAnswer.{count_in, most_count, trigger_answer}
use Rattle.sg_event.specs.EventSound.{IsCounted, IsEventSound}
use Rattle.sg_event.specs.Laws.EventSoundLaw.{event_answers_and_keeps}
use Rattle.sg_slots.proofs.RowLaws.{first_makes, one_pair}
use Rattle.sg_facts.specs.Replaying.Replays.{AnswersCreations, AnswersReplays, AnswersSteps, IsAnsweredOk}
use Rattle.sg_facts.proofs.Replaying.Found.{met}
use Rattle.sg_facts.proofs.Replaying.Goes.{walk_goes_on}
use Rattle.sg_facts.proofs.Replaying.Service.{begun_by, ends, of_facts, step_of}
use Rattle.sg_facts.proofs.Replaying.Steps.{rest_meets}

-- evt_split alone makes events, and evt_trigger is the one step
one_creation : (f : ℕ) → (fun_at event_facts.funs f).creation ≡ true → f ≡ 1
one_creation f is = first_makes event_facts.funs refl f is

one_step : (state f : ℕ) → has_pair event_facts.steps state f ≡ true → f ≡ 3
one_step state f is = (one_pair 1 3 state f is).1

module _ (own : Declared) where
  abbrev i : Declared
  i = record own { facts = event_facts }

  abbrev Given : Object → Call → List Value → Type 0
  Given held call old = IsAnsweredOk event_facts event_table held call old

  row_of : (o : Object) (r : Row) → IsEventSound o → row_at o.rows r.id ≡ Some r → IsRow event_facts o.rows r
  row_of o r sound there = met (IsRow event_facts o.rows) 0 o.given r.id o.rows r sound.general.rows there

  creates : AnswersCreations i event_table IsEventSound
  creates names o held r rest half there fresh parent walk =
      let row = row_of o r half.is_sound there in
      subst (λ f. Given held (next_call event_facts names r [] f) (map empty_field event_facts.fields)) (sym (one_creation r.made (begun_by i r.made rest r.made r.state (set_of r) walk)))
      (record { client_first = row.creator_first; client_last = row.creator_last; args = refl; good = record { desc = held.given + 1; words = []; bytes = [] }; answered = refl; fields = ((refl, omega arith), tt) })

  -- after a second trigger nothing is known of the count, and it stays so
  abbrev IsLost : Spot → Type 0
  IsLost s = s.marks ≡ unknown ∷ []

  stays_lost : (fits_steps : (s : Spot) (f : ℕ) → may_go_on i s f ≡ true → has_pair event_facts.steps s.state f ≡ true) (s : Spot) (f : ℕ) → IsLost s → may_go_on i s f ≡ true → IsLost (next_spot event_facts f s)
  stays_lost fits_steps s f is may =
      subst (λ g. IsLost (next_spot event_facts g s)) (sym (one_step s.state f (fits_steps s f may))) (subst (λ m. IsLost (next_spot event_facts 3 (record { state = s.state; marks = m }))) (sym is) refl)

  lost_never : (marks : List FieldMark) (set : List Bool) → marks ≡ unknown ∷ [] → restores_fields marks set ≡ true → ⊥
  lost_never [] set is restores = absurd (cc is)
  lost_never (m ∷ n ∷ marks) set is restores = absurd (cc is)
  lost_never (unset ∷ []) set is restores = absurd (cc is)
  lost_never (good ∷ []) set is restores = absurd (cc is)
  lost_never (unknown ∷ []) [] is restores = absurd (cc restores)
  lost_never (unknown ∷ []) (b ∷ set) is restores = absurd (cc restores)

  -- what a trigger finds
  count_none : (marks : List FieldMark) (vs ws : List Value) → AreFields event_facts.fields vs → FieldsHold marks vs ws → ((next_spot event_facts 3 (record { state = 1; marks = marks })).marks ≡ unknown ∷ [] → ⊥) → word_of (field_at ws 0) ≡ 0
  count_none marks [] ws are hold lost = absurd are
  count_none marks (v ∷ v' ∷ vs) ws are hold lost = absurd are.1
  count_none [] (v ∷ []) ws are hold lost = absurd hold
  count_none (m ∷ marks) (v ∷ []) [] are hold lost = absurd hold
  count_none (m ∷ n ∷ marks) (v ∷ []) (w ∷ ws) are hold lost = absurd hold.1
  count_none (unset ∷ []) (Word n ∷ []) (w ∷ ws) are hold lost = ap word_of hold.0
  count_none (unset ∷ []) (Text bytes ∷ []) (w ∷ ws) are hold lost = ap word_of hold.0
  count_none (good ∷ []) (v ∷ []) (w ∷ ws) are hold lost = absurd (lost refl)
  count_none (unknown ∷ []) (v ∷ []) (w ∷ ws) are hold lost = absurd (lost refl)

  args_fit : (names : List (ℕ × ℕ)) (r : Row) (done : List ℕ) → AreFields event_facts.fields r.fields → kinds_fit (fun_at event_facts.funs 3).kinds (next_call event_facts names r done 3).args ≡ true
  args_fit names r done are = at r.fields are
    where
      at : (fields : List Value) → AreFields event_facts.fields fields → kinds_fit (fun_at event_facts.funs 3).kinds (field_at fields 0 ∷ []) ≡ true
      at [] are = absurd are
      at (Word n ∷ fields) are = refl
      at (Text bytes ∷ fields) are = let no_text = are.0 in absurd (cc no_text)

  triggered : (names : List (ℕ × ℕ)) (r : Row) (done : List ℕ) (ws : List Value) (g : Good) → word_of (field_at r.fields 0) ≤ most_count → word_of (field_at ws 0) ≡ 0 → AreFields event_facts.fields ws
      → AreFields event_facts.fields (fields_after (next_call event_facts names r done 3) g (fun_at event_facts.funs 3).effects ws)
  triggered names r done [] g small none are = absurd are
  triggered names r done (v ∷ []) g small none are = ((refl, omega (arith, small, none)), tt)
  triggered names r done (v ∷ w ∷ ws) g small none are = absurd are.1

  answer_is : (count n : ℕ) → count ≡ 0 → n ≤ most_count → trigger_answer count n ≡ Some (Ok (record { desc = 0; words = []; bytes = [] }))
  answer_is count n none small =
      let less : nat_lt most_count (count + n) ≡ false = grind (arith, nat_tests) in
      ap (λ b. cond b (Some (Refused Overflow)) (Some (Ok (record { desc = 0; words = []; bytes = [] })))) less

  steps_on_it : AnswersSteps i event_table IsEventSound
  steps_on_it names o held r w first done rest fun half there found walk part may =
      let fits_steps : (s : Spot) (f : ℕ) → may_go_on i s f ≡ true → has_pair event_facts.steps s.state f ≡ true = λ s f is. step_of i s f half.fits is in
      let one = one_step part.spot.state fun (fits_steps part.spot fun may) in
      let end = ends i ((first ∷ done) ++ fun ∷ rest) r.made r.state (set_of r) walk in
      let not_lost : (next_spot event_facts 3 part.spot).marks ≡ unknown ∷ [] → ⊥
      = λ lost. lost_never end.spot.marks (set_of r) (rest_meets i IsLost (stays_lost fits_steps) part.spot end.spot first done rest fun part.led end.led (subst (λ g. IsLost (next_spot event_facts g part.spot)) (sym one) lost)) end.marks in
      let own = row_of o r half.is_sound there in
      let counted : word_of (field_at r.fields 0) ≤ most_count = met IsCounted 0 o.given r.id o.rows r (let s = half.is_sound in s.counted) there in
      let none : word_of (field_at w.fields 0) ≡ 0 = count_none part.spot.marks r.fields w.fields own.fields part.fields not_lost in
      let row : IsRow event_facts held.rows w = met (IsRow event_facts held.rows) 0 held.given (named names r.id) held.rows w (let h = half.holds in h.held_sound.rows) found in
      subst (λ f. Given held (next_call event_facts names r (first ∷ done) f) w.fields) (sym one) (record {
        client_first = own.creator_first;
        client_last = own.creator_last;
        args = args_fit names r (first ∷ done) own.fields;
        good = record { desc = 0; words = []; bytes = [] };
        answered = ap (λ x. trigger_answer (count_in x) (word_of (field_at r.fields 0))) found ∙ answer_is (word_of (field_at w.fields 0)) (word_of (field_at r.fields 0)) none counted;
        fields = triggered names r (first ∷ done) w.fields (record { desc = 0; words = []; bytes = [] }) counted none row.fields;
      })

-- in the middle of a recovery the event service answers Ok to each replayed creation and to each recover step
pub event_answers_replays : AnswersReplays event_facts event_table IsEventSound
event_answers_replays = record {
  creations = of_facts (λ i. AnswersCreations i event_table IsEventSound) event_facts creates;
  steps = of_facts (λ i. AnswersSteps i event_table IsEventSound) event_facts steps_on_it;
}

-- in the middle of a recovery the next call of the walk of an event is answered Ok, and brings it one step on
pub event_walk_goes_on : WalkGoesOn event_facts event_table IsEventSound
event_walk_goes_on = walk_goes_on event_facts event_table IsEventSound refl event_answers_and_keeps event_answers_replays
