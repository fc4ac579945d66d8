-- The memory mapping service rebuilds its pages.
use Rattle.std.proofs.Common.{◌≡◌, ℕ, zero, suc, ◌+◌, ◌<◌, ◌≤◌, Bool, true, false, cond, not, List, [], ◌∷◌, Some, map, refl, sym, ◌∙◌, ap, subst, inl, inr, ◌⊎◌, arith}
use Rattle.std.specs.Prelude.{◌==◌, ◌||◌, ◌&&◌, nat_le}
use Rattle.std.specs.List.{list_any}
use Rattle.std.proofs.lemmas.Bool.Decides.{nat_tests}
use Rattle.sg_facts.specs.sg_base.declared.value.Value.{Value}
use Rattle.sg_facts.specs.sg_base.declared.value.Value.TheVariants.{Word, Text}
use Rattle.sg_facts.specs.sg_base.declared.call.Call.{Call}
use Rattle.sg_facts.specs.sg_base.declared.reply.Reply.TheVariants.{Ok, Refused}
use Rattle.sg_facts.specs.sg_base.declared.reply.Code.TheVariants.{Occupied}
use Rattle.sg_facts.specs.declared.row.Row.{Row}
use Rattle.sg_facts.specs.Alike.{named}
use Rattle.sg_facts.specs.Facts.{fun_at}
use Rattle.sg_facts.specs.Held.{whole, partly, FieldsHold, IsHeldFor, set_of}
use Rattle.sg_facts.specs.Interface.{Declared, has_pair}
use Rattle.sg_facts.specs.Kinds.{kinds_fit}
use Rattle.sg_facts.specs.Laws.{WalkGoesOn, next_call}
use Rattle.sg_facts.specs.Object.{Object}
use Rattle.sg_facts.specs.Sound.{AreFields, AreRows, IsRow}
use Rattle.sg_facts.specs.Track.{field_at, row_at, word_of}
use Rattle.sg_facts.specs.Fields.{empty_field}
use Rattle.sg_facts.specs.Walks.{FieldMark, Spot, first_spot, good, spot_of}
use Rattle.sg_facts.specs.Inside.Walking.{may_go_on}
use Rattle.sg_mm.specs.MmFacts.{mm_facts}
use Rattle.sg_mm.specs.MmTable.{is_at, mm_table}
use Rattle.sg_mm.specs.Inside.MmAnswer.{addr_of, space_of}
use Rattle.sg_mm.specs.Inside.MmPlaces.{two_apart}
use Rattle.sg_mm.specs.MmSound.{IsMmSound, IsOfClient}
use Rattle.sg_mm.specs.Laws.MmSoundLaw.{mm_answers_and_keeps}
use Rattle.sg_facts.specs.Replaying.Replays.{AnswersCreations, AnswersReplays, AnswersSteps, IsAnsweredOk, IsHalfway}
use Rattle.sg_facts.proofs.Replaying.Found.{above, all_found, held_at, met, same_test}
use Rattle.sg_facts.proofs.Replaying.Above.{name_of_held}
use Rattle.sg_facts.proofs.Replaying.Goes.{walk_goes_on}
use Rattle.sg_facts.proofs.Replaying.Service.{begun_by, of_facts, step_of}
use Rattle.sg_facts.proofs.Replaying.Steps.{begins, both_true, spots_meet}

-- two functions make pages, and there are no steps
two_creations : (f : ℕ) → (fun_at mm_facts.funs f).creation ≡ true → (f ≡ 1) ⊎ (f ≡ 2)
two_creations zero is = absurd (cc is)
two_creations (suc zero) is = inl refl
two_creations (suc (suc zero)) is = inr refl
two_creations (suc (suc (suc zero))) is = absurd (cc is)
two_creations (suc (suc (suc (suc zero)))) is = absurd (cc is)
two_creations (suc (suc (suc (suc (suc n))))) is = absurd (cc is)

none_passes : (test : Row → Bool) (low high : ℕ) (rows : List Row) → AreRows (λ r. test r ≡ false) low high rows → list_any test rows ≡ false
none_passes test low high [] are = refl
none_passes test low high (r ∷ rows) are = ap (λ b. b || list_any test rows) are.2 ∙ none_passes test r.id high rows are.3

module _ (own : Declared) where
  abbrev i : Declared
  i = record own { facts = mm_facts }

  abbrev Given : Object → Call → List Value → Type 0
  Given held call old = IsAnsweredOk mm_facts mm_table held call old

  row_of : (o : Object) (r : Row) → IsMmSound o → row_at o.rows r.id ≡ Some r → IsRow mm_facts o.rows r
  row_of o r sound there = met (IsRow mm_facts o.rows) 0 o.given r.id o.rows r sound.general.rows there

  -- each part of a page is whole
  abbrev IsGood : Spot → Type 0
  IsGood s = s.marks ≡ good ∷ good ∷ []

  all_good : (fits_steps : (s : Spot) (f : ℕ) → may_go_on i s f ≡ true → has_pair mm_facts.steps s.state f ≡ true) (walk : List ℕ) (at : Spot) → spot_of i walk ≡ Some at → IsGood at
  all_good fits_steps = spots_meet i IsGood
      (λ f may. let b = begins i f may in first f (two_creations f b.makes))
      (λ s f is may. absurd (let none = fits_steps s f may in cc none))
    where
      first : (f : ℕ) → (f ≡ 1) ⊎ (f ≡ 2) → IsGood (first_spot mm_facts f)
      first f (inl one) = subst (λ g. IsGood (first_spot mm_facts g)) (sym one) refl
      first f (inr two) = subst (λ g. IsGood (first_spot mm_facts g)) (sym two) refl

  good_fields : (marks : List FieldMark) (vs ws : List Value) → marks ≡ good ∷ good ∷ [] → FieldsHold marks vs ws → ws ≡ vs
  good_fields marks vs ws is hold = at vs ws (subst (λ m. FieldsHold m vs ws) is hold)
    where
      at : (vs ws : List Value) → FieldsHold (good ∷ good ∷ []) vs ws → ws ≡ vs
      at [] ws hold = absurd hold
      at (v ∷ vs) [] hold = absurd hold
      at (v ∷ []) (w ∷ ws) hold = absurd hold.1
      at (v ∷ v' ∷ vs) (w ∷ []) hold = absurd hold.1
      at (v ∷ v' ∷ []) (w ∷ w' ∷ []) hold = ap (λ x. x ∷ w' ∷ []) hold.0 ∙ ap (λ x. v ∷ x ∷ []) hold.1.0
      at (v ∷ v' ∷ x ∷ vs) (w ∷ w' ∷ ws) hold = absurd hold.1.1
      at (v ∷ v' ∷ []) (w ∷ w' ∷ y ∷ ws) hold = absurd hold.1.1

  same_fields : (fits_steps : (s : Spot) (f : ℕ) → may_go_on i s f ≡ true → has_pair mm_facts.steps s.state f ≡ true) (names : List (ℕ × ℕ)) (r w : Row) → IsHeldFor i names r w → w.fields ≡ r.fields
  same_fields fits_steps names r w (whole alike) = alike.fields
  same_fields fits_steps names r w (partly done rest walk part) = good_fields part.spot.marks r.fields w.fields (all_good fits_steps done part.spot part.led) part.fields

  -- nothing that is held is where the page is to be
  free_place : (names : List (ℕ × ℕ)) (o held : Object) (r : Row) → IsHalfway i IsMmSound names o held → row_at o.rows r.id ≡ Some r → named names r.id ≡ 0 → list_any (is_at (space_of r) (addr_of r)) held.rows ≡ false
  free_place names o held r half there fresh =
      let h = half.holds in
      none_passes (is_at (space_of r) (addr_of r)) 0 held.given held.rows
      (all_found (IsRow mm_facts held.rows) (λ w. is_at (space_of r) (addr_of r) w ≡ false) 0 held.given held.rows h.held_sound.rows one)
    where
      one : (w : Row) → row_at held.rows w.id ≡ Some w → is_at (space_of r) (addr_of r) w ≡ false
      one w found =
          let hs = half.holds in
          let h = held_at i names o held held.rows w.id w hs.each found in
          let same : w.fields ≡ h.row.fields = same_fields (λ s f is. step_of i s f half.fits is) names h.row w h.held_for in
          let name : named names h.row.id ≡ w.id = name_of_held i names h.row w h.held_for in
          let low : 0 < w.id = above (IsRow mm_facts held.rows) 0 held.given w.id held.rows w hs.held_sound.rows found in
          let apart : h.row.id ≡ r.id → ⊥ = λ is. absurd (let e : named names h.row.id ≡ named names r.id = ap (named names) is in omega (arith, e, fresh, name, low)) in
          let are = half.is_sound in
          no_test (space_of w == space_of r) (addr_of w == addr_of r) refl refl
          (λ space addr. two_apart o.rows h.row r are.apart h.live there apart (ap (λ fs. word_of (field_at fs 0)) (sym same) ∙ space) (ap (λ fs. word_of (field_at fs 1)) (sym same) ∙ addr))
        where
          no_test : (b c : Bool) → (space_of w == space_of r) ≡ b → (addr_of w == addr_of r) ≡ c → (space_of w ≡ space_of r → addr_of w ≡ addr_of r → ⊥) → (b && c) ≡ false
          no_test false c b_is c_is never = refl
          no_test true false b_is c_is never = refl
          no_test true true b_is c_is never = absurd (never (grind (arith, nat_tests, b_is)) (grind (arith, nat_tests, c_is)))

  args_one : (fields : List Value) → AreFields mm_facts.fields fields → kinds_fit (fun_at mm_facts.funs 1).kinds (field_at fields 1 ∷ []) ≡ true
  args_one [] are = absurd are
  args_one (v ∷ []) are = absurd are.1
  args_one (v ∷ Word n ∷ fields) are = refl
  args_one (v ∷ Text bytes ∷ fields) are = let no_text = are.1.0 in absurd (cc no_text)

  args_two : (fields : List Value) → AreFields mm_facts.fields fields → kinds_fit (fun_at mm_facts.funs 2).kinds (field_at fields 0 ∷ field_at fields 1 ∷ []) ≡ true
  args_two [] are = absurd are
  args_two (v ∷ []) are = absurd are.1
  args_two (Word m ∷ Word n ∷ fields) are = refl
  args_two (Text bytes ∷ w ∷ fields) are = let no_text = are.0 in absurd (cc no_text)
  args_two (Word m ∷ Text bytes ∷ fields) are = let no_text = are.1.0 in absurd (cc no_text)

  fields_one : (fields : List Value) (client : ℕ) → client ≤ 64 → AreFields mm_facts.fields fields → AreFields mm_facts.fields (Word client ∷ field_at fields 1 ∷ [])
  fields_one [] client small are = absurd are
  fields_one (v ∷ []) client small are = absurd are.1
  fields_one (v ∷ v' ∷ fields) client small are = ((refl, omega (arith, small)), (are.1.0, tt))

  fields_two : (fields : List Value) → AreFields mm_facts.fields fields → AreFields mm_facts.fields (field_at fields 0 ∷ field_at fields 1 ∷ [])
  fields_two [] are = absurd are
  fields_two (v ∷ []) are = absurd are.1
  fields_two (v ∷ v' ∷ fields) are = (are.0, (are.1.0, tt))

  client_of : (r : Row) → r.made ≡ 1 → IsOfClient r → (1 ≤ space_of r) × (space_of r ≤ 64)
  client_of r is of =
      let has : (nat_le 1 (space_of r) && nat_le (space_of r) 64) ≡ true = sym (ap (λ b. not b || (nat_le 1 (space_of r) && nat_le (space_of r) 64)) (same_test r.made 1 is)) ∙ of in
      let parts = both_true (nat_le 1 (space_of r)) (nat_le (space_of r) 64) has in
      let one = parts.0 in
      let two = parts.1 in
      (grind (arith, nat_tests, one), grind (arith, nat_tests, two))

  creates : AnswersCreations i mm_table IsMmSound
  creates names o held r rest half there fresh parent walk =
      let row = row_of o r half.is_sound there in
      let sound = half.is_sound in
      let free = free_place names o held r half there fresh in
      elim (two_creations r.made (begun_by i r.made rest r.made r.state (set_of r) walk)) [
        | inl one ↦
            let client = client_of r one (met IsOfClient 0 o.given r.id o.rows r sound.of_clients there) in
            subst (λ f. Given held (next_call mm_facts names r [] f) (map empty_field mm_facts.fields)) (sym one) (record {
              client_first = client.0;
              client_last = client.1;
              args = args_one r.fields row.fields;
              good = record { desc = held.given + 1; words = []; bytes = [] };
              answered = ap (λ b. cond b (Some (Refused Occupied)) (Some (Ok (record { desc = held.given + 1; words = []; bytes = [] })))) free;
              fields = fields_one r.fields (space_of r) client.1 row.fields;
            })
        | inr two ↦ subst (λ f. Given held (next_call mm_facts names r [] f) (map empty_field mm_facts.fields)) (sym two) (record {
          client_first = row.creator_first;
          client_last = row.creator_last;
          args = args_two r.fields row.fields;
          good = record { desc = held.given + 1; words = []; bytes = [] };
          answered = ap (λ b. cond b (Some (Refused Occupied)) (Some (Ok (record { desc = held.given + 1; words = []; bytes = [] })))) free;
          fields = fields_two r.fields row.fields;
        })
      ]

  steps_on_it : AnswersSteps i mm_table IsMmSound
  steps_on_it names o held r w first done rest fun half there found walk part may = absurd (let none = step_of i part.spot fun half.fits may in cc none)

-- in the middle of a recovery the memory mapping service answers Ok to each replayed creation and to each recover step
pub mm_answers_replays : AnswersReplays mm_facts mm_table IsMmSound
mm_answers_replays = record {
  creations = of_facts (λ i. AnswersCreations i mm_table IsMmSound) mm_facts creates;
  steps = of_facts (λ i. AnswersSteps i mm_table IsMmSound) mm_facts steps_on_it;
}

-- in the middle of a recovery the next call of the walk of a page is answered Ok, and brings it one step on
pub mm_walk_goes_on : WalkGoesOn mm_facts mm_table IsMmSound
mm_walk_goes_on = walk_goes_on mm_facts mm_table IsMmSound refl mm_answers_and_keeps mm_answers_replays
