-- The lock service rebuilds its locks.
use Rattle.std.proofs.Common.{◌≡◌, ℕ, ◌+◌, ◌≤◌, true, false, cond, List, [], ◌∷◌, ◌++◌, Some, map, refl, sym, ◌∙◌, ap, subst, arith}
use Rattle.std.specs.Prelude.{◌==◌, ◌&&◌, nat_le}
use Rattle.std.proofs.lemmas.Bool.Decides.{nat_tests}
use Rattle.sg_facts.specs.sg_base.declared.value.Value.{Value}
use Rattle.sg_facts.specs.sg_base.declared.value.Value.TheVariants.{Word, Text}
use Rattle.sg_facts.specs.sg_base.declared.call.Call.{Call}
use Rattle.sg_facts.specs.sg_base.declared.reply.Good.{Good}
use Rattle.sg_facts.specs.sg_base.declared.reply.Code.TheVariants.{Held}
use Rattle.sg_facts.specs.sg_base.declared.reply.Reply.TheVariants.{Ok, Refused}
use Rattle.sg_facts.specs.declared.row.Row.{Row}
use Rattle.sg_facts.specs.Alike.{named}
use Rattle.sg_facts.specs.Facts.{fun_at}
use Rattle.sg_facts.specs.Held.{FieldsHold, set_of}
use Rattle.sg_facts.specs.Interface.{Declared, has_pair}
use Rattle.sg_facts.specs.Laws.{WalkGoesOn, next_call}
use Rattle.sg_facts.specs.Object.{Object}
use Rattle.sg_facts.specs.Sound.{AreFields, IsRow}
use Rattle.sg_facts.specs.Track.{field_at, fields_after, word_of}
use Rattle.sg_facts.specs.Fields.{empty_field}
use Rattle.sg_facts.specs.Walks.{FieldMark, Spot, first_spot, good, next_spot, spot_of, unknown, unset}
use Rattle.sg_facts.specs.Inside.Walking.{may_go_on}
use Rattle.sg_lock.specs.LockFacts.{lock_facts}
use Rattle.sg_lock.specs.LockTable.{lock_table}
use Rattle.sg_lock.specs.Inside.LockAnswer.{owner_in, take_answer}
use Rattle.sg_lock.specs.LockSound.{IsLockSound, IsOwned, is_owner_in}
use Rattle.sg_lock.specs.Laws.LockSoundLaw.{lock_answers_and_keeps}
use Rattle.sg_slots.proofs.RowLaws.{first_makes, one_pair}
use Rattle.sg_facts.specs.Replaying.Replays.{AnswersCreations, AnswersReplays, AnswersSteps, IsAnsweredOk}
use Rattle.sg_facts.proofs.Replaying.Found.{met}
use Rattle.sg_facts.proofs.Replaying.Goes.{walk_goes_on}
use Rattle.sg_facts.proofs.Replaying.Service.{begun_by, ends, of_facts, step_of}
use Rattle.sg_facts.proofs.Replaying.Steps.{begins, both_true, rest_meets, spots_meet}

-- lock_alloc alone makes locks, and lock_take is the one step
one_creation : (f : ℕ) → (fun_at lock_facts.funs f).creation ≡ true → f ≡ 1
one_creation f is = first_makes lock_facts.funs refl f is

one_step : (state f : ℕ) → has_pair lock_facts.steps state f ≡ true → (state ≡ 1) × (f ≡ 2)
one_step state f is = one_pair 1 2 state f is

module _ (own : Declared) where
  abbrev i : Declared
  i = record own { facts = lock_facts }

  abbrev Given : Object → Call → List Value → Type 0
  Given held call old = IsAnsweredOk lock_facts lock_table held call old

  creates : AnswersCreations i lock_table IsLockSound
  creates names o held r rest half there fresh parent walk =
      let row = row_of (half.is_sound) in
      subst (λ f. Given held (next_call lock_facts names r [] f) (map empty_field lock_facts.fields)) (sym (one_creation r.made (begun_by i r.made rest r.made r.state (set_of r) walk)))
      (record { client_first = row.creator_first; client_last = row.creator_last; args = refl; good = record { desc = held.given + 1; words = []; bytes = [] }; answered = refl; fields = ((refl, omega arith), tt) })
    where
      row_of : IsLockSound o → IsRow lock_facts o.rows r
      row_of sound = met (IsRow lock_facts o.rows) 0 o.given r.id o.rows r sound.general.rows there

  -- a lock that was made and not yet taken is free
  abbrev IsFree : Spot → Type 0
  IsFree s = s.state ≡ 1 → s.marks ≡ unset ∷ []

  all_free : (fits_steps : (s : Spot) (f : ℕ) → may_go_on i s f ≡ true → has_pair lock_facts.steps s.state f ≡ true) (walk : List ℕ) (at : Spot) → spot_of i walk ≡ Some at → IsFree at
  all_free fits_steps = spots_meet i IsFree
      (λ f may. subst (λ g. IsFree (first_spot lock_facts g)) (sym (one_creation f (let b = begins i f may in b.makes))) (λ is. refl))
      (λ s f free may. subst (λ g. IsFree (next_spot lock_facts g s)) (sym (one_step s.state f (fits_steps s f may)).1) (λ is. absurd (cc is)))

  -- what lock_take leaves stays so
  abbrev IsTaken : Spot → Type 0
  IsTaken s = s.state ≡ 2

  stays_taken : (fits_steps : (s : Spot) (f : ℕ) → may_go_on i s f ≡ true → has_pair lock_facts.steps s.state f ≡ true) (s : Spot) (f : ℕ) → IsTaken s → may_go_on i s f ≡ true → IsTaken (next_spot lock_facts f s)
  stays_taken fits_steps s f is may = absurd (let one = (one_step s.state f (fits_steps s f may)).0 in omega (arith, is, one))

  owner_free : (marks : List FieldMark) (vs ws : List Value) → marks ≡ unset ∷ [] → FieldsHold marks vs ws → word_of (field_at ws 0) ≡ 0
  owner_free [] vs ws is hold = absurd (cc is)
  owner_free (m ∷ n ∷ marks) vs ws is hold = absurd (cc is)
  owner_free (good ∷ []) vs ws is hold = absurd (cc is)
  owner_free (unknown ∷ []) vs ws is hold = absurd (cc is)
  owner_free (unset ∷ []) [] ws is hold = absurd hold
  owner_free (unset ∷ []) (v ∷ vs) [] is hold = absurd hold
  owner_free (unset ∷ []) (Word n ∷ vs) (w ∷ ws) is hold = ap word_of hold.0
  owner_free (unset ∷ []) (Text bytes ∷ vs) (w ∷ ws) is hold = ap word_of hold.0

  owner_first : (state owner : ℕ) → state ≡ 2 → is_owner_in state owner ≡ true → (1 ≤ owner) × (owner ≤ 64)
  owner_first state owner is owned =
      let has : (nat_le 1 owner && nat_le owner 64) ≡ true = sym (ap (λ n. is_owner_in n owner) is) ∙ owned in
      let parts = both_true (nat_le 1 owner) (nat_le owner 64) has in
      let one = parts.0 in
      let two = parts.1 in
      (grind (arith, nat_tests, one), grind (arith, nat_tests, two))

  takes_free : (owner client : ℕ) → owner ≡ 0 → 1 ≤ client → take_answer owner client ≡ Some (Ok (record { desc = 0; words = []; bytes = [] }))
  takes_free owner client none some =
      let other : (0 == client) ≡ false = grind (arith, nat_tests) in
      ap (λ n. take_answer n client) none ∙ ap (λ b. cond b (Some (Refused Held)) (Some (Ok (record { desc = 0; words = []; bytes = [] })))) other

  taken_fields : (names : List (ℕ × ℕ)) (r : Row) (done : List ℕ) (ws : List Value) (g : Good) → word_of (field_at r.fields 0) ≤ 64 → AreFields lock_facts.fields ws
      → AreFields lock_facts.fields (fields_after (next_call lock_facts names r done 2) g (fun_at lock_facts.funs 2).effects ws)
  taken_fields names r done [] g small are = absurd are
  taken_fields names r done (v ∷ []) g small are = ((refl, omega (arith, small)), tt)
  taken_fields names r done (v ∷ w ∷ ws) g small are = absurd are.1

  steps_on_it : AnswersSteps i lock_table IsLockSound
  steps_on_it names o held r w first done rest fun half there found walk part may =
      let fits_steps : (s : Spot) (f : ℕ) → may_go_on i s f ≡ true → has_pair lock_facts.steps s.state f ≡ true = λ s f is. step_of i s f half.fits is in
      let one = one_step part.spot.state fun (fits_steps part.spot fun may) in
      let end = ends i ((first ∷ done) ++ fun ∷ rest) r.made r.state (set_of r) walk in
      let taken : IsTaken end.spot = rest_meets i IsTaken (stays_taken fits_steps) part.spot end.spot first done rest fun part.led end.led (subst (λ g. IsTaken (next_spot lock_facts g part.spot)) (sym one.1) refl) in
      let owned : is_owner_in r.state (word_of (field_at r.fields 0)) ≡ true = met IsOwned 0 o.given r.id o.rows r (let s = half.is_sound in s.owned) there in
      let client = owner_first r.state (word_of (field_at r.fields 0)) (sym end.state_is ∙ taken) owned in
      let free : word_of (field_at w.fields 0) ≡ 0 = owner_free part.spot.marks r.fields w.fields (all_free fits_steps (first ∷ done) part.spot part.led one.0) part.fields in
      let row : IsRow lock_facts held.rows w = met (IsRow lock_facts held.rows) 0 held.given (named names r.id) held.rows w (let h = half.holds in h.held_sound.rows) found in
      subst (λ f. Given held (next_call lock_facts names r (first ∷ done) f) w.fields) (sym one.1) (record {
        client_first = client.0;
        client_last = client.1;
        args = refl;
        good = record { desc = 0; words = []; bytes = [] };
        answered = ap (λ x. take_answer (owner_in x) (word_of (field_at r.fields 0))) found ∙ takes_free (word_of (field_at w.fields 0)) (word_of (field_at r.fields 0)) free client.0;
        fields = taken_fields names r (first ∷ done) w.fields (record { desc = 0; words = []; bytes = [] }) client.1 row.fields;
      })

-- in the middle of a recovery the lock service answers Ok to each replayed creation and to each recover step
pub lock_answers_replays : AnswersReplays lock_facts lock_table IsLockSound
lock_answers_replays = record {
  creations = of_facts (λ i. AnswersCreations i lock_table IsLockSound) lock_facts creates;
  steps = of_facts (λ i. AnswersSteps i lock_table IsLockSound) lock_facts steps_on_it;
}

-- in the middle of a recovery the next call of the walk of a lock is answered Ok, and brings it one step on
pub lock_walk_goes_on : WalkGoesOn lock_facts lock_table IsLockSound
lock_walk_goes_on = walk_goes_on lock_facts lock_table IsLockSound refl lock_answers_and_keeps lock_answers_replays
