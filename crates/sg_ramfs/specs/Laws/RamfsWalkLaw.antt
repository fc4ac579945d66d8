-- The file service rebuilds its descriptors.
use Rattle.std.proofs.Common.{◌≡◌, ℕ, ◌+◌, ◌≤◌, true, false, cond, List, [], ◌∷◌, ◌++◌, Some, length, map, refl, sym, ◌∙◌, ap, subst, arith}
use Rattle.std.specs.Prelude.{nat_lt}
use Rattle.std.proofs.lemmas.Bool.Decides.{nat_tests}
use Rattle.sg_facts.specs.sg_base.declared.value.Value.{Value}
use Rattle.sg_facts.specs.sg_base.declared.value.Value.TheVariants.{Word, Text}
use Rattle.sg_facts.specs.sg_base.declared.call.Call.{Call}
use Rattle.sg_facts.specs.sg_base.declared.reply.Good.{Good}
use Rattle.sg_facts.specs.sg_base.declared.reply.Reply.TheVariants.{Ok, Refused}
use Rattle.sg_facts.specs.declared.row.Row.{Row}
use Rattle.sg_facts.specs.Alike.{named}
use Rattle.sg_facts.specs.Facts.{fun_at}
use Rattle.sg_facts.specs.Held.{set_of}
use Rattle.sg_facts.specs.Interface.{Declared, has_pair}
use Rattle.sg_facts.specs.Kinds.{kinds_fit}
use Rattle.sg_facts.specs.Laws.{WalkGoesOn, next_call}
use Rattle.sg_facts.specs.Limits.{most_file, most_path}
use Rattle.sg_facts.specs.Object.{Object, first_text, path_of}
use Rattle.sg_facts.specs.Sound.{AreFields, IsRow}
use Rattle.sg_facts.specs.Track.{field_at, fields_after, row_at, word_of}
use Rattle.sg_facts.specs.Fields.{empty_field}
use Rattle.sg_facts.specs.sg_base.declared.reply.Code.TheVariants.{BadName, TooBig}
use Rattle.sg_ramfs.specs.RamfsFacts.{ramfs_facts}
use Rattle.sg_ramfs.specs.RamfsTable.{is_bad_name, ramfs_table}
use Rattle.sg_ramfs.specs.Inside.RamfsAnswer.{seek_answer, split_answer}
use Rattle.sg_ramfs.specs.RamfsSound.{IsPlaced, IsRamfsSound}
use Rattle.sg_ramfs.specs.Laws.RamfsSoundLaw.{ramfs_answers_and_keeps}
use Rattle.sg_slots.proofs.RowLaws.{first_makes, one_pair}
use Rattle.sg_facts.proofs.Replaying.Paths.{path_below}
use Rattle.sg_facts.specs.Replaying.Replays.{AnswersCreations, AnswersReplays, AnswersSteps, IsAnsweredOk}
use Rattle.sg_facts.proofs.Replaying.Found.{met}
use Rattle.sg_facts.proofs.Replaying.Goes.{walk_goes_on}
use Rattle.sg_facts.proofs.Replaying.Service.{begun_by, of_facts, step_of}

-- tsplit alone makes descriptors, and tseek is the one step
one_creation : (f : ℕ) → (fun_at ramfs_facts.funs f).creation ≡ true → f ≡ 1
one_creation f is = first_makes ramfs_facts.funs refl f is

one_step : (state f : ℕ) → has_pair ramfs_facts.steps state f ≡ true → f ≡ 4
one_step state f is = (one_pair 1 4 state f is).1

module _ (own : Declared) where
  abbrev i : Declared
  i = record own { facts = ramfs_facts }

  abbrev Given : Object → Call → List Value → Type 0
  Given held call old = IsAnsweredOk ramfs_facts ramfs_table held call old

  row_of : (o : Object) (r : Row) → IsRamfsSound o → row_at o.rows r.id ≡ Some r → IsRow ramfs_facts o.rows r
  row_of o r sound there = met (IsRow ramfs_facts o.rows) 0 o.given r.id o.rows r sound.general.rows there

  placed_of : (o : Object) (r : Row) → IsRamfsSound o → row_at o.rows r.id ≡ Some r → IsPlaced o.rows r
  placed_of o r sound there = met (IsPlaced o.rows) 0 o.given r.id o.rows r sound.placed there

  name_fits : (fields : List Value) → AreFields ramfs_facts.fields fields → kinds_fit (fun_at ramfs_facts.funs 1).kinds (field_at fields 0 ∷ []) ≡ true
  name_fits [] are = absurd are
  name_fits (Text bytes ∷ fields) are = refl
  name_fits (Word n ∷ fields) are = let no_word = are.0.0 in absurd (cc no_word)

  name_is : (fields : List Value) → AreFields ramfs_facts.fields fields → first_text (field_at fields 0 ∷ []) ≡ first_text fields
  name_is [] are = absurd are
  name_is (Text bytes ∷ fields) are = refl
  name_is (Word n ∷ fields) are = let no_word = are.0.0 in absurd (cc no_word)

  place_fits : (fields : List Value) → AreFields ramfs_facts.fields fields → kinds_fit (fun_at ramfs_facts.funs 4).kinds (field_at fields 1 ∷ []) ≡ true
  place_fits [] are = absurd are
  place_fits (v ∷ []) are = absurd are.1
  place_fits (v ∷ Word n ∷ fields) are = refl
  place_fits (v ∷ Text bytes ∷ fields) are = let no_text = are.1.0 in absurd (cc no_text)

  made_fields : (fields : List Value) → AreFields ramfs_facts.fields fields → AreFields ramfs_facts.fields (field_at fields 0 ∷ Word 0 ∷ [])
  made_fields [] are = absurd are
  made_fields (v ∷ fields) are = (are.0, ((refl, omega arith), tt))

  sought_fields : (fields ws : List Value) (names : List (ℕ × ℕ)) (r : Row) (done : List ℕ) (g : Good) → r.fields ≡ fields → AreFields ramfs_facts.fields fields → AreFields ramfs_facts.fields ws
      → AreFields ramfs_facts.fields (fields_after (next_call ramfs_facts names r done 4) g (fun_at ramfs_facts.funs 4).effects ws)
  sought_fields [] ws names r done g is are also = absurd are
  sought_fields (v ∷ []) ws names r done g is are also = absurd are.1
  sought_fields (v ∷ v' ∷ fields) [] names r done g is are also = absurd also
  sought_fields (v ∷ v' ∷ fields) (w ∷ []) names r done g is are also = absurd also.1
  sought_fields (v ∷ v' ∷ fields) (w ∷ w' ∷ x ∷ ws) names r done g is are also = absurd also.1.1
  sought_fields (v ∷ v' ∷ fields) (w ∷ w' ∷ []) names r done g is are also =
      subst (λ fs. AreFields ramfs_facts.fields (w ∷ field_at fs 1 ∷ [])) (sym is) (also.0, (are.1.0, tt))

  splits : (given : ℕ) (path name : List ℕ) → is_bad_name name ≡ false → length (path ++ 47 ∷ name) ≤ most_path → split_answer given path name ≡ Some (Ok (record { desc = given + 1; words = []; bytes = [] }))
  splits given path name fine short =
      let less : nat_lt most_path (length (path ++ 47 ∷ name)) ≡ false = grind (arith, nat_tests, short) in
      ap (λ b. cond b (Some (Refused BadName)) (cond (nat_lt most_path (length (path ++ 47 ∷ name))) (Some (Refused TooBig)) (Some (Ok (record { desc = given + 1; words = []; bytes = [] }))))) fine
      ∙ ap (λ b. cond b (Some (Refused TooBig)) (Some (Ok (record { desc = given + 1; words = []; bytes = [] })))) less

  seeks : (place : ℕ) → place ≤ most_file → seek_answer place ≡ Some (Ok (record { desc = 0; words = []; bytes = [] }))
  seeks place small =
      let less : nat_lt most_file place ≡ false = grind (arith, nat_tests, small) in
      ap (λ b. cond b (Some (Refused TooBig)) (Some (Ok (record { desc = 0; words = []; bytes = [] })))) less

  creates : AnswersCreations i ramfs_table IsRamfsSound
  creates names o held r rest half there fresh parent walk =
      let row = row_of o r half.is_sound there in
      let placed = placed_of o r half.is_sound there in
      let s = half.is_sound in
      let path = path_below i names o held half.holds s.general r there parent in
      let name = name_is r.fields row.fields in
      let short : length (path_of held.rows (named names r.parent) ++ 47 ∷ first_text r.fields) ≤ most_path = subst (λ p. length p ≤ most_path) (sym path) placed.path in
      subst (λ f. Given held (next_call ramfs_facts names r [] f) (map empty_field ramfs_facts.fields)) (sym (one_creation r.made (begun_by i r.made rest r.made r.state (set_of r) walk)))
      (record {
        client_first = row.creator_first;
        client_last = row.creator_last;
        args = name_fits r.fields row.fields;
        good = record { desc = held.given + 1; words = []; bytes = [] };
        answered = ap (split_answer held.given (path_of held.rows (named names r.parent))) name ∙ splits held.given (path_of held.rows (named names r.parent)) (first_text r.fields) placed.name short;
        fields = made_fields r.fields row.fields;
      })

  steps_on_it : AnswersSteps i ramfs_table IsRamfsSound
  steps_on_it names o held r w first done rest fun half there found walk part may =
      let own = row_of o r half.is_sound there in
      let placed = placed_of o r half.is_sound there in
      let row : IsRow ramfs_facts held.rows w = met (IsRow ramfs_facts held.rows) 0 held.given (named names r.id) held.rows w (let h = half.holds in h.held_sound.rows) found in
      subst (λ f. Given held (next_call ramfs_facts names r (first ∷ done) f) w.fields) (sym (one_step part.spot.state fun (step_of i part.spot fun half.fits may))) (record {
        client_first = own.creator_first;
        client_last = own.creator_last;
        args = place_fits r.fields own.fields;
        good = record { desc = 0; words = []; bytes = [] };
        answered = seeks (word_of (field_at r.fields 1)) placed.offset;
        fields = sought_fields r.fields w.fields names r (first ∷ done) (record { desc = 0; words = []; bytes = [] }) refl own.fields row.fields;
      })

-- in the middle of a recovery the file service answers Ok to each replayed creation and to each recover step
pub ramfs_answers_replays : AnswersReplays ramfs_facts ramfs_table IsRamfsSound
ramfs_answers_replays = record {
  creations = of_facts (λ i. AnswersCreations i ramfs_table IsRamfsSound) ramfs_facts creates;
  steps = of_facts (λ i. AnswersSteps i ramfs_table IsRamfsSound) ramfs_facts steps_on_it;
}

-- in the middle of a recovery the next call of the walk of an open file is answered Ok, and brings it one step on
pub ramfs_walk_goes_on : WalkGoesOn ramfs_facts ramfs_table IsRamfsSound
ramfs_walk_goes_on = walk_goes_on ramfs_facts ramfs_table IsRamfsSound refl ramfs_answers_and_keeps ramfs_answers_replays
