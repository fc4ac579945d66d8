-- The timer service rebuilds its timers.
use Rattle.std.proofs.Common.{◌≡◌, ℕ, zero, suc, ◌+◌, ◌<◌, ◌≤◌, Bool, true, false, cond, List, [], ◌∷◌, ◌++◌, None, Some, map, refl, sym, ◌∙◌, ap, subst, inl, inr, ◌⊎◌, arith}
use Rattle.std.specs.Prelude.{◌==◌, ◌||◌, ◌&&◌, nat_lt, slice_get, slice_set}
use Rattle.std.specs.declared.option.Option.{Option}
use Rattle.std.specs.List.{list_any}
use Rattle.std.proofs.lemmas.Bool.Decides.{nat_tests}
use Rattle.sg_facts.specs.sg_base.declared.value.Value.{Value}
use Rattle.sg_facts.specs.sg_base.declared.value.Value.TheVariants.{Word, Text}
use Rattle.sg_facts.specs.sg_base.declared.call.Call.{Call}
use Rattle.sg_facts.specs.sg_base.declared.reply.Code.TheVariants.{Occupied, Overflow, TooBig}
use Rattle.sg_facts.specs.sg_base.declared.reply.Good.{Good}
use Rattle.sg_facts.specs.sg_base.declared.reply.Reply.TheVariants.{Ok, Refused}
use Rattle.sg_facts.specs.declared.row.Row.{Row}
use Rattle.sg_facts.specs.declared.shape.Effect.TheVariants.{SetArg, AddArg}
use Rattle.sg_facts.specs.Alike.{named}
use Rattle.sg_facts.specs.Facts.{fun_at}
use Rattle.sg_facts.specs.Held.{whole, partly, FieldsHold, IsHeldFor, set_of}
use Rattle.sg_facts.specs.Interface.{Declared, has_pair}
use Rattle.sg_facts.specs.Kinds.{kinds_fit}
use Rattle.sg_facts.specs.Laws.{WalkGoesOn, next_call}
use Rattle.sg_facts.specs.Object.{Object}
use Rattle.sg_facts.specs.Sound.{AreFields, AreRows, IsRow}
use Rattle.sg_facts.specs.Track.{field_at, fields_after, row_at, word_of}
use Rattle.sg_facts.specs.Inside.Rows.{cleared}
use Rattle.sg_facts.specs.Fields.{empty_field}
use Rattle.sg_facts.specs.Walks.{FieldMark, Spot, first_spot, good, mark_after, marks_after, next_spot, restores_fields, spot_of, unknown, unset}
use Rattle.sg_facts.specs.Inside.Walking.{may_begin, may_go_on, restores_field}
use Rattle.sg_facts.specs.Replaying.Replays.{AnswersCreations, AnswersReplays, AnswersSteps, IsAnsweredOk, IsHalfway}
use Rattle.sg_facts.proofs.Replaying.Above.{name_of_held}
use Rattle.sg_facts.proofs.Replaying.Found.{above, all_found, held_at, met}
use Rattle.sg_facts.proofs.Replaying.Goes.{walk_goes_on}
use Rattle.sg_facts.proofs.Replaying.Service.{begun_by, ends, of_facts, step_of}
use Rattle.sg_facts.proofs.Replaying.Steps.{begins, both_true, rest_meets, spots_meet}
use Rattle.sg_slots.proofs.RowLaws.{first_makes}
use Rattle.sg_slots.proofs.Apart.{one_row}
use Rattle.sg_timer.specs.TimerFacts.{timer_facts}
use Rattle.sg_timer.specs.TimerTable.{timer_table, most_ticks, tag_of, worded}
use Rattle.sg_timer.specs.Inside.TimerAnswer.{create_answer, tick_answer, tick_of}
use Rattle.sg_timer.specs.Inside.TimerFields.{five, are_five, are_fields}
use Rattle.sg_timer.specs.TimerSound.{AreTimed, IsTimed, IsTimerSound}
use Rattle.sg_timer.specs.Laws.TimerSoundLaw.{timer_answers_and_keeps}

-- tmr_create alone makes timers; tmr_tick and tmr_place are the steps
one_creation : (f : ℕ) → (fun_at timer_facts.funs f).creation ≡ true → f ≡ 1
one_creation f is = first_makes timer_facts.funs refl f is

two_steps : (state f : ℕ) → has_pair timer_facts.steps state f ≡ true → (f ≡ 2) ⊎ (f ≡ 4)
two_steps state f is = at (1 == state) (2 == f) (4 == f) refl refl is
  where
    at : (a b c : Bool) → (2 == f) ≡ b → (4 == f) ≡ c → ((a && b) || ((a && c) || false)) ≡ true → (f ≡ 2) ⊎ (f ≡ 4)
    at true true c y z is = inl (grind (arith, nat_tests, y))
    at true false true y z is = inr (grind (arith, nat_tests, z))
    at true false false y z is = absurd (cc is)
    at false b c y z is = absurd (cc is)

-- ---- what a mark says of a field

-- a field whose mark is good is the row's
good_field : (x : ℕ) (marks : List FieldMark) (vs ws : List Value) → slice_get marks x ≡ Some good → FieldsHold marks vs ws → field_at ws x ≡ field_at vs x
good_field x [] vs ws is hold = absurd (cc is)
good_field x (m ∷ marks) [] ws is hold = absurd hold
good_field x (m ∷ marks) (v ∷ vs) [] is hold = absurd hold
good_field zero (unset ∷ marks) (v ∷ vs) (w ∷ ws) is hold = absurd (cc is)
good_field zero (good ∷ marks) (v ∷ vs) (w ∷ ws) is hold = hold.0
good_field zero (unknown ∷ marks) (v ∷ vs) (w ∷ ws) is hold = absurd (cc is)
good_field (suc x) (m ∷ marks) (v ∷ vs) (w ∷ ws) is hold = good_field x marks vs ws is hold.1

-- a field whose mark is unset is 0 or empty
unset_field : (x : ℕ) (marks : List FieldMark) (vs ws : List Value) → slice_get marks x ≡ Some unset → FieldsHold marks vs ws → field_at ws x ≡ cleared (field_at vs x)
unset_field x [] vs ws is hold = absurd (cc is)
unset_field x (m ∷ marks) [] ws is hold = absurd hold
unset_field x (m ∷ marks) (v ∷ vs) [] is hold = absurd hold
unset_field zero (unset ∷ marks) (v ∷ vs) (w ∷ ws) is hold = hold.0
unset_field zero (good ∷ marks) (v ∷ vs) (w ∷ ws) is hold = absurd (cc is)
unset_field zero (unknown ∷ marks) (v ∷ vs) (w ∷ ws) is hold = absurd (cc is)
unset_field (suc x) (m ∷ marks) (v ∷ vs) (w ∷ ws) is hold = unset_field x marks vs ws is hold.1

-- where there is no mark there is no field
no_field : (x : ℕ) (marks : List FieldMark) (vs ws : List Value) → slice_get marks x ≡ None → FieldsHold marks vs ws → field_at ws x ≡ Word 0
no_field x [] [] [] is hold = refl
no_field x [] [] (w ∷ ws) is hold = absurd hold
no_field x [] (v ∷ vs) ws is hold = absurd hold
no_field x (m ∷ marks) [] ws is hold = absurd hold
no_field x (m ∷ marks) (v ∷ vs) [] is hold = absurd hold
no_field zero (m ∷ marks) (v ∷ vs) (w ∷ ws) is hold = absurd (cc is)
no_field (suc x) (m ∷ marks) (v ∷ vs) (w ∷ ws) is hold = no_field x marks vs ws is hold.1

-- marks with an unknown one restore nothing
lost_never : (x : ℕ) (marks : List FieldMark) (set : List Bool) → slice_get marks x ≡ Some unknown → restores_fields marks set ≡ true → ⊥
lost_never x [] set is restores = cc is
lost_never x (m ∷ marks) [] is restores = cc restores
lost_never zero (unset ∷ marks) (b ∷ set) is restores = cc is
lost_never zero (good ∷ marks) (b ∷ set) is restores = cc is
lost_never zero (unknown ∷ marks) (b ∷ set) is restores = cc restores
lost_never (suc x) (m ∷ marks) (b ∷ set) is restores = lost_never x marks set is (both_true (restores_field m b) (restores_fields marks set) restores).1

-- a tick changes the mark of the time alone, and a placing that of the due time
tick_mark : (marks : List FieldMark) (m : FieldMark) → slice_get marks 3 ≡ Some m → slice_get (marks_after ((3, AddArg 0) ∷ []) marks) 3 ≡ Some (mark_after (AddArg 0) m)
tick_mark [] m is = absurd (cc is)
tick_mark (a ∷ []) m is = absurd (cc is)
tick_mark (a ∷ b ∷ []) m is = absurd (cc is)
tick_mark (a ∷ b ∷ c ∷ []) m is = absurd (cc is)
tick_mark (a ∷ b ∷ c ∷ d ∷ marks) m is = let one : d ≡ m = cc is in ap (λ n. Some (mark_after (AddArg 0) n)) one

tick_tag : (marks : List FieldMark) → slice_get (marks_after ((3, AddArg 0) ∷ []) marks) 2 ≡ slice_get marks 2
tick_tag [] = refl
tick_tag (a ∷ []) = refl
tick_tag (a ∷ b ∷ []) = refl
tick_tag (a ∷ b ∷ c ∷ marks) = refl

place_tag : (marks : List FieldMark) → slice_get (marks_after ((4, SetArg 0) ∷ []) marks) 2 ≡ slice_get marks 2
place_tag [] = refl
place_tag (a ∷ []) = refl
place_tag (a ∷ b ∷ []) = refl
place_tag (a ∷ b ∷ c ∷ marks) = refl

place_mark : (marks : List FieldMark) → slice_get (marks_after ((4, SetArg 0) ∷ []) marks) 3 ≡ slice_get marks 3
place_mark [] = refl
place_mark (a ∷ []) = refl
place_mark (a ∷ b ∷ []) = refl
place_mark (a ∷ b ∷ c ∷ []) = refl
place_mark (a ∷ b ∷ c ∷ d ∷ marks) = refl

no_word : (v : Value) → word_of (cleared v) ≡ 0
no_word (Word n) = refl
no_word (Text bytes) = refl

-- what a tick finds, unless it leaves nothing known of the time
time_none : (marks : List FieldMark) (vs ws : List Value) → FieldsHold marks vs ws → (slice_get (marks_after ((3, AddArg 0) ∷ []) marks) 3 ≡ Some unknown → ⊥) → word_of (field_at ws 3) ≡ 0
time_none marks vs ws hold lost = at (slice_get marks 3) refl
  where
    at : (found : Option FieldMark) → slice_get marks 3 ≡ found → word_of (field_at ws 3) ≡ 0
    at None is = ap word_of (no_field 3 marks vs ws is hold)
    at (Some unset) is = ap word_of (unset_field 3 marks vs ws is hold) ∙ no_word (field_at vs 3)
    at (Some good) is = absurd (lost (tick_mark marks good is))
    at (Some unknown) is = absurd (lost (tick_mark marks unknown is))

-- ---- answers

create_ok : (given period : ℕ) (taken : Bool) → period ≤ most_ticks → taken ≡ false → create_answer given period taken ≡ worded (given + 1) period
create_ok given period taken small free =
    let fits : nat_lt most_ticks period ≡ false = grind (arith, nat_tests) in
    ap (λ b. cond b (Some (Refused TooBig)) (cond taken (Some (Refused Occupied)) (worded (given + 1) period))) fits ∙ ap (λ b. cond b (Some (Refused Occupied)) (worded (given + 1) period)) free

tick_ok : (time ticks : ℕ) → time ≡ 0 → ticks ≤ most_ticks → tick_answer time ticks ≡ Some (Ok (record { desc = 0; words = []; bytes = [] }))
tick_ok time ticks none small =
    let fits : nat_lt most_ticks (time + ticks) ≡ false = grind (arith, nat_tests) in
    ap (λ b. cond b (Some (Refused Overflow)) (Some (Ok (record { desc = 0; words = []; bytes = [] })))) fits

-- ---- fields

create_args : (fields : List Value) → AreFields timer_facts.fields fields → kinds_fit (fun_at timer_facts.funs 1).kinds (field_at fields 1 ∷ field_at fields 2 ∷ []) ≡ true
create_args fields are = let f = are_five fields are in subst (λ fs. kinds_fit (fun_at timer_facts.funs 1).kinds (field_at fs 1 ∷ field_at fs 2 ∷ []) ≡ true) (sym f.are) refl

tick_args : (fields : List Value) → AreFields timer_facts.fields fields → kinds_fit (fun_at timer_facts.funs 2).kinds (field_at fields 3 ∷ []) ≡ true
tick_args fields are = let f = are_five fields are in subst (λ fs. kinds_fit (fun_at timer_facts.funs 2).kinds (field_at fs 3 ∷ []) ≡ true) (sym f.are) refl

place_args : (fields : List Value) → AreFields timer_facts.fields fields → kinds_fit (fun_at timer_facts.funs 4).kinds (field_at fields 4 ∷ []) ≡ true
place_args fields are = let f = are_five fields are in subst (λ fs. kinds_fit (fun_at timer_facts.funs 4).kinds (field_at fs 4 ∷ []) ≡ true) (sym f.are) refl

created_fields : (fields : List Value) → AreFields timer_facts.fields fields → AreTimed fields
    → AreFields timer_facts.fields (Word (word_of (field_at fields 0)) ∷ field_at fields 1 ∷ field_at fields 2 ∷ Word 0 ∷ Word (word_of (field_at fields 1)) ∷ [])
created_fields fields are timed =
    let f = are_five fields are in
    subst (λ fs. AreFields timer_facts.fields (Word (word_of (field_at fs 0)) ∷ field_at fs 1 ∷ field_at fs 2 ∷ Word 0 ∷ Word (word_of (field_at fs 1)) ∷ [])) (sym f.are)
    (are_fields f.owner f.period f.tag 0 f.period f.owner_is f.period_is f.tag_is (omega arith) f.period_is)

module _ (names : List (ℕ × ℕ)) (r : Row) (done : List ℕ) (g : Good) (mine : AreFields timer_facts.fields r.fields) (ws : List Value) (its : AreFields timer_facts.fields ws) where
  ticked_fields : word_of (field_at r.fields 3) ≤ most_ticks → word_of (field_at ws 3) ≡ 0 → AreFields timer_facts.fields (fields_after (next_call timer_facts names r done 2) g ((3, AddArg 0) ∷ []) ws)
  ticked_fields small none =
      let f = are_five ws its in
      let time : f.time ≡ 0 = sym (ap (λ fs. word_of (field_at fs 3)) f.are) ∙ none in
      subst (λ fs. AreFields timer_facts.fields (fields_after (next_call timer_facts names r done 2) g ((3, AddArg 0) ∷ []) fs)) (sym f.are)
      (are_fields f.owner f.period f.tag (f.time + word_of (field_at r.fields 3)) f.due f.owner_is f.period_is f.tag_is (omega (arith, small, time)) f.due_is)

  placed_fields : AreFields timer_facts.fields (fields_after (next_call timer_facts names r done 4) g ((4, SetArg 0) ∷ []) ws)
  placed_fields =
      let f = are_five ws its in
      let h = are_five r.fields mine in
      subst (λ fs. AreFields timer_facts.fields (fields_after (next_call timer_facts names r done 4) g ((4, SetArg 0) ∷ []) fs)) (sym f.are)
      (subst (λ fs. AreFields timer_facts.fields (Word f.owner ∷ Word f.period ∷ Word f.tag ∷ Word f.time ∷ field_at fs 4 ∷ [])) (sym h.are)
      (are_fields f.owner f.period f.tag f.time h.due f.owner_is f.period_is f.tag_is f.time_is h.due_is))

none_pass : (test : Row → Bool) (low high : ℕ) (rows : List Row) → AreRows (λ r. test r ≡ false) low high rows → list_any test rows ≡ false
none_pass test low high [] are = refl
none_pass test low high (r ∷ rows) are = ap (λ b. b || list_any test rows) are.2 ∙ none_pass test r.id high rows are.3

module _ (own : Declared) where
  abbrev i : Declared
  i = record own { facts = timer_facts }

  abbrev Given : Object → Call → List Value → Type 0
  Given held call old = IsAnsweredOk timer_facts timer_table held call old

  row_of : (o : Object) (r : Row) → IsTimerSound o → row_at o.rows r.id ≡ Some r → IsRow timer_facts o.rows r
  row_of o r sound there = met (IsRow timer_facts o.rows) 0 o.given r.id o.rows r sound.general.rows there

  timed_of : (o : Object) (r : Row) → IsTimerSound o → row_at o.rows r.id ≡ Some r → AreTimed r.fields
  timed_of o r sound there = met IsTimed 0 o.given r.id o.rows r sound.timed there

  -- ---- the tag is right from the first call on

  abbrev IsTagged : Spot → Type 0
  IsTagged s = slice_get s.marks 2 ≡ Some good

  all_tagged : (fits_steps : (s : Spot) (f : ℕ) → may_go_on i s f ≡ true → has_pair timer_facts.steps s.state f ≡ true) (walk : List ℕ) (at : Spot) → spot_of i walk ≡ Some at → IsTagged at
  all_tagged fits_steps = spots_meet i IsTagged first (λ s f is may. next s f is (two_steps s.state f (fits_steps s f may)))
    where
      first : (f : ℕ) → may_begin i f ≡ true → IsTagged (first_spot timer_facts f)
      first f may = let b = begins i f may in subst (λ g. IsTagged (first_spot timer_facts g)) (sym (one_creation f b.makes)) refl

      next : (s : Spot) (f : ℕ) → IsTagged s → (f ≡ 2) ⊎ (f ≡ 4) → IsTagged (next_spot timer_facts f s)
      next s f is (inl ticks) = subst (λ g. IsTagged (next_spot timer_facts g s)) (sym ticks) (tick_tag s.marks ∙ is)
      next s f is (inr places) = subst (λ g. IsTagged (next_spot timer_facts g s)) (sym places) (place_tag s.marks ∙ is)

  same_tag : (fits_steps : (s : Spot) (f : ℕ) → may_go_on i s f ≡ true → has_pair timer_facts.steps s.state f ≡ true) (names : List (ℕ × ℕ)) (r w : Row) → IsHeldFor i names r w → tag_of w ≡ tag_of r
  same_tag fits_steps names r w (whole alike) = ap (λ fields. word_of (field_at fields 2)) alike.fields
  same_tag fits_steps names r w (partly done rest walk part) = ap word_of (good_field 2 part.spot.marks r.fields w.fields (all_tagged fits_steps done part.spot part.led) part.fields)

  -- nothing that is held has the tag that the timer is to have
  free_tag : (names : List (ℕ × ℕ)) (o held : Object) (r : Row) → IsHalfway i IsTimerSound names o held → row_at o.rows r.id ≡ Some r → named names r.id ≡ 0 → list_any (λ w. tag_of w == tag_of r) held.rows ≡ false
  free_tag names o held r half there fresh =
      let h = half.holds in
      none_pass (λ w. tag_of w == tag_of r) 0 held.given held.rows
      (all_found (IsRow timer_facts held.rows) (λ w. (tag_of w == tag_of r) ≡ false) 0 held.given held.rows h.held_sound.rows one)
    where
      one : (w : Row) → row_at held.rows w.id ≡ Some w → (tag_of w == tag_of r) ≡ false
      one w found =
          let hs = half.holds in
          let h = held_at i names o held held.rows w.id w hs.each found in
          let same : tag_of w ≡ tag_of h.row = same_tag (λ s f is. step_of i s f half.fits is) names h.row w h.held_for in
          let name : named names h.row.id ≡ w.id = name_of_held i names h.row w h.held_for in
          let low : 0 < w.id = above (IsRow timer_facts held.rows) 0 held.given w.id held.rows w hs.held_sound.rows found in
          let are = half.is_sound in
          at (tag_of w == tag_of r) refl
          (λ tag.
          let row : h.row ≡ r = one_row tag_of o.rows h.row.id r.id h.row r are.apart h.live there (sym same ∙ tag) in
          let e : named names h.row.id ≡ named names r.id = ap (λ x. named names x.id) row in
          absurd (omega (arith, e, fresh, name, low)))
        where
          at : (b : Bool) → (tag_of w == tag_of r) ≡ b → (tag_of w ≡ tag_of r → ⊥) → b ≡ false
          at false is never = refl
          at true is never = absurd (never (grind (arith, nat_tests, is)))

  creates : AnswersCreations i timer_table IsTimerSound
  creates names o held r rest half there fresh parent walk =
      let row = row_of o r half.is_sound there in
      let timed = timed_of o r half.is_sound there in
      subst (λ f. Given held (next_call timer_facts names r [] f) (map empty_field timer_facts.fields)) (sym (one_creation r.made (begun_by i r.made rest r.made r.state (set_of r) walk)))
      (record {
        client_first = timed.owner_first;
        client_last = timed.owner_last;
        args = create_args r.fields row.fields;
        good = record { desc = held.given + 1; words = word_of (field_at r.fields 1) ∷ []; bytes = [] };
        answered = create_ok held.given (word_of (field_at r.fields 1)) (list_any (λ w. tag_of w == tag_of r) held.rows) timed.period (free_tag names o held r half there fresh);
        fields = created_fields r.fields row.fields timed;
      })

  -- ---- after a second tick nothing is known of the time, and it stays so

  abbrev IsLost : Spot → Type 0
  IsLost s = slice_get s.marks 3 ≡ Some unknown

  stays_lost : (fits_steps : (s : Spot) (f : ℕ) → may_go_on i s f ≡ true → has_pair timer_facts.steps s.state f ≡ true) (s : Spot) (f : ℕ) → IsLost s → may_go_on i s f ≡ true → IsLost (next_spot timer_facts f s)
  stays_lost fits_steps s f is may = next (two_steps s.state f (fits_steps s f may))
    where
      next : (f ≡ 2) ⊎ (f ≡ 4) → IsLost (next_spot timer_facts f s)
      next (inl ticks) = subst (λ g. IsLost (next_spot timer_facts g s)) (sym ticks) (tick_mark s.marks unknown is)
      next (inr places) = subst (λ g. IsLost (next_spot timer_facts g s)) (sym places) (place_mark s.marks ∙ is)

  steps_on_it : AnswersSteps i timer_table IsTimerSound
  steps_on_it names o held r w first done rest fun half there found walk part may =
      let fits_steps : (s : Spot) (f : ℕ) → may_go_on i s f ≡ true → has_pair timer_facts.steps s.state f ≡ true = λ s f is. step_of i s f half.fits is in
      let own = row_of o r half.is_sound there in
      let timed = timed_of o r half.is_sound there in
      let row : IsRow timer_facts held.rows w = met (IsRow timer_facts held.rows) 0 held.given (named names r.id) held.rows w (let h = half.holds in h.held_sound.rows) found in
      elim (two_steps part.spot.state fun (fits_steps part.spot fun may)) [
        | inl ticks ↦
            let end = ends i ((first ∷ done) ++ fun ∷ rest) r.made r.state (set_of r) walk in
            let not_lost : IsLost (next_spot timer_facts 2 part.spot) → ⊥
            = λ lost. lost_never 3 end.spot.marks (set_of r) (rest_meets i IsLost (stays_lost fits_steps) part.spot end.spot first done rest fun part.led end.led (subst (λ g. IsLost (next_spot timer_facts g part.spot)) (sym ticks) lost)) end.marks in
            let none : word_of (field_at w.fields 3) ≡ 0 = time_none part.spot.marks r.fields w.fields part.fields not_lost in
            subst (λ f. Given held (next_call timer_facts names r (first ∷ done) f) w.fields) (sym ticks) (record {
              client_first = own.creator_first;
              client_last = own.creator_last;
              args = tick_args r.fields own.fields;
              good = record { desc = 0; words = []; bytes = [] };
              answered = ap (λ x. tick_of x (word_of (field_at r.fields 3))) found ∙ tick_ok (word_of (field_at w.fields 3)) (word_of (field_at r.fields 3)) none timed.time;
              fields = ticked_fields names r (first ∷ done) (record { desc = 0; words = []; bytes = [] }) own.fields w.fields row.fields timed.time none;
            })
        | inr places ↦ subst (λ f. Given held (next_call timer_facts names r (first ∷ done) f) w.fields) (sym places) (record {
          client_first = own.creator_first;
          client_last = own.creator_last;
          args = place_args r.fields own.fields;
          good = record { desc = 0; words = []; bytes = [] };
          answered = refl;
          fields = placed_fields names r (first ∷ done) (record { desc = 0; words = []; bytes = [] }) own.fields w.fields row.fields;
        })
      ]

-- in the middle of a recovery the timer service answers Ok to each replayed creation and to each recover step
pub timer_answers_replays : AnswersReplays timer_facts timer_table IsTimerSound
timer_answers_replays = record {
  creations = of_facts (λ i. AnswersCreations i timer_table IsTimerSound) timer_facts creates;
  steps = of_facts (λ i. AnswersSteps i timer_table IsTimerSound) timer_facts steps_on_it;
}

-- in the middle of a recovery the next call of the walk of a timer is answered Ok, and brings it one step on
pub timer_walk_goes_on : WalkGoesOn timer_facts timer_table IsTimerSound
timer_walk_goes_on = walk_goes_on timer_facts timer_table IsTimerSound refl timer_answers_and_keeps timer_answers_replays
