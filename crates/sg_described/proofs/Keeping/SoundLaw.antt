-- A described service answers, and what it holds stays sound.
use Rattle.std.proofs.Common.{◌≡◌, ℕ, ◌+◌, ◌<◌, ◌≤◌, Bool, true, false, cond, not, List, [], ◌∷◌, ◌++◌, None, Some, length, map, filter, refl, sym, ◌∙◌, ap, subst, arith}
use Rattle.std.specs.Prelude.{◌-◌, ◌==◌, ◌&&◌, ◌||◌, nat_lt, if◌then◌else◌, slice_get, unwrap_or}
use Rattle.std.specs.List.{list_all, list_any}
use Rattle.std.specs.declared.option.Option.{Option}
use Rattle.sg_facts.specs.sg_base.declared.value.Value.{Value}
use Rattle.sg_facts.specs.sg_base.declared.value.Value.TheVariants.{Word}
use Rattle.sg_facts.specs.sg_base.declared.call.Call.{Call}
use Rattle.sg_facts.specs.sg_base.declared.reply.Good.{Good}
use Rattle.sg_facts.specs.sg_base.declared.reply.Reply.TheVariants.{Ok}
use Rattle.sg_facts.specs.declared.row.Row.{Row}
use Rattle.sg_facts.specs.declared.shape.Effect.{Effect}
use Rattle.sg_facts.specs.declared.shape.Effect.TheVariants.{SetCaller, SetArg, AddArg, SetRet, AddRet, Clear, SubOne, SubRet}
use Rattle.sg_facts.specs.Allowed.{implies}
use Rattle.sg_facts.specs.Facts.{Facts, Fun, fun_at, is_text_kind, state_after, takes_desc, takes_parent, writes}
use Rattle.sg_facts.specs.Interface.{has_pair}
use Rattle.sg_facts.specs.Kinds.{may_be_root}
use Rattle.sg_facts.specs.Laws.{AnswersAndKeeps, Passes}
use Rattle.sg_facts.specs.Limits.{last_client}
use Rattle.sg_facts.specs.Object.{Object, after, path_of, place_of, first_text}
use Rattle.sg_facts.specs.Sound.{AreFields, IsRow, IsSound, AreRows}
use Rattle.sg_facts.specs.Track.{row_at, is_live, new_row, ends_with, effect_of, field_at, fields_after, first_word, word_of}
use Rattle.sg_facts.specs.Walks.{effect_on}
use Rattle.sg_facts.specs.Inside.Rows.{row_after, patch_at, patched}
use Rattle.sg_facts.specs.Fields.{empty_field}
use Rattle.sg_facts.proofs.Replaying.Steps.{each_fun}
use Rattle.sg_slots.proofs.RowLaws.{childless, sound_more, sound_changed, sound_left}
use Rattle.sg_described.specs.Described.{Described, rules_at}
use Rattle.sg_described.specs.DescribedSound.{IsDescribedRow, IsDescribedSound, are_up_to}
use Rattle.sg_described.specs.Known.{greatest, has_client, leaves_client}
use Rattle.sg_described.specs.Meaning.{Env, answer_of, call_in, described_table, env_of, fits, last_word, most_at, said, verdict_of, words_in}
use Rattle.sg_described.specs.NeverZero.{AreNeverZero, all_from, is_listed, is_never_zero, leaves_some, makes_some, moves_some, never_zero, stays_listed}
use Rattle.sg_described.specs.Safe.{IsPlain}
use Rattle.sg_described.proofs.Keeping.Answering.{IsDone, IsPlainFun, done_tells, plain_fun}
use Rattle.sg_described.proofs.Keeping.Basics.{both_true, effect_passes, fun_in, implied, no_it, own_test, pair_passes}
use Rattle.sg_described.proofs.Keeping.Guarded.{in_its_state}
use Rattle.sg_described.proofs.Keeping.Effects.{after_length, by_effect, cleared_none, fits_same, left_none, left_some}
use Rattle.sg_described.proofs.Keeping.Fitting.{IsWordTo, empty_at, empty_length, fields_from, fits_on, greatest_client, greatest_length, greatest_low, greatest_up, most_small, up_at, up_from, up_length, word_low}
use Rattle.sg_described.proofs.Keeping.NeverZeros.{never_zero_keeps}

-- ---- the object after an Ok, by the flags of its function

module _ (facts : Facts) (o : Object) (call : Call) (good : Good) where
  abbrev pub turned : Bool → Bool → Bool → Bool → Object
  turned asks makes ends writes_file = record {
    rows = cond asks o.rows (cond makes (o.rows ++ new_row facts call good ∷ [])
        (cond ends (filter (λ r. not (ends_with facts o.rows call.desc r.id)) o.rows) (map (λ r. if r.id == call.desc then row_after facts call good r else r) o.rows)));
    files = patched o.files (cond writes_file (patch_at (path_of o.rows call.desc) (place_of (fun_at facts.funs call.fun) (row_at o.rows call.desc)) (first_text call.args)) None);
    given = cond makes (o.given + 1) o.given;
  }

  pub after_is : (makes ends : Bool) → (fun_at facts.funs call.fun).query ≡ false → (fun_at facts.funs call.fun).uses_file ≡ false → (fun_at facts.funs call.fun).creation ≡ makes
      → (fun_at facts.funs call.fun).terminal ≡ ends → after facts o call (Ok good) ≡ turned false makes ends false
  after_is makes ends no_query no_file is_making is_end =
      ap (λ b. turned b (fun_at facts.funs call.fun).creation (fun_at facts.funs call.fun).terminal (writes (fun_at facts.funs call.fun))) no_query
      ∙ ap (λ b. turned false b (fun_at facts.funs call.fun).terminal (writes (fun_at facts.funs call.fun))) is_making
      ∙ ap (λ b. turned false makes b (writes (fun_at facts.funs call.fun))) is_end
      ∙ ap (λ b. turned false makes ends (b && list_any is_text_kind (fun_at facts.funs call.fun).kinds)) no_file

-- ---- what an Ok leaves of a row

-- the effects fit, as the answer found
pub left_fits : (d : Described) (call : Call) (good : Good) (makes : Bool) (row : Option Row) (desc : ℕ) → IsDone d call.fun desc (env_of d call makes row) good
    → fits d.most call good (fun_at d.facts.funs call.fun).effects (env_of d call makes row).fields ≡ true
left_fits d call good makes row desc done =
    fits_same d.most call (call_in (env_of d call makes row)) good (said 0 (words_in (env_of d call makes row) (verdict_of (env_of d call makes row) (rules_at d call.fun)))) refl refl
    (sym (ap (λ (g : Good). g.words) done.is)) (fun_at d.facts.funs call.fun).effects (env_of d call makes row).fields ∙ done.left

-- an effect that leaves a client or none
client_left : (call : Call) (good : Good) (e : Effect) (v : Value) → leaves_client e ≡ true → call.client ≤ last_client → word_of v ≤ last_client → word_of (effect_of call good e v) ≤ last_client
client_left call good SetCaller v leaves low old = low
client_left call good (SetArg k) v leaves low old = absurd (cc leaves)
client_left call good (AddArg k) v leaves low old = absurd (cc leaves)
client_left call good SetRet v leaves low old = absurd (cc leaves)
client_left call good AddRet v leaves low old = absurd (cc leaves)
client_left call good Clear v leaves low old = let none = cleared_none call good v in omega (arith, none)
client_left call good SubOne v leaves low old = omega (arith, old)
client_left call good SubRet v leaves low old = omega (arith, old)

-- an effect that doesn't leave 0
some_left : (call : Call) (good : Good) (e : Effect) (v : Value) (some : Bool) → leaves_some (Some e) some ≡ true → 1 ≤ call.client → (some ≡ true → 1 ≤ word_of v) → 1 ≤ word_of (effect_of call good e v)
some_left call good SetCaller v some leaves low old = low
some_left call good (SetArg k) v some leaves low old = absurd (cc leaves)
some_left call good (AddArg k) v some leaves low old = let one = old leaves in omega (arith, one)
some_left call good SetRet v some leaves low old = absurd (cc leaves)
some_left call good AddRet v some leaves low old = let one = old leaves in omega (arith, one)
some_left call good Clear v some leaves low old = absurd (cc leaves)
some_left call good SubOne v some leaves low old = absurd (cc leaves)
some_left call good SubRet v some leaves low old = absurd (cc leaves)

-- the effects of a function on a field that has only clients
client_effect : (facts : Facts) (fun x : ℕ) (e : Effect) → has_client facts x ≡ true → 1 ≤ fun → fun ≤ length facts.funs → effect_on (fun_at facts.funs fun).effects x ≡ Some e → leaves_client e ≡ true
client_effect facts fun x e is low high some =
    implied (x == x) (leaves_client e)
    (effect_passes (λ o. implies (o.0 == x) (leaves_client o.1)) (fun_at facts.funs fun).effects
    (each_fun (λ f. list_all (λ o. implies (o.0 == x) (leaves_client o.1)) f.effects) facts.funs fun is low high) x e some) (own_test x)

module _ (d : Described) (plain : IsPlain d) (call : Call) (good : Good) (low : 1 ≤ call.fun) (high : call.fun ≤ length d.facts.funs) where
  abbrev es : List (ℕ × Effect)
  es = (fun_at d.facts.funs call.fun).effects

  its : IsPlainFun d call.fun (fun_at d.facts.funs call.fun)
  its = plain_fun d plain call.fun low high

  -- a field after the effect on it
  pub after_some : (ws : List Value) → length ws ≡ length d.most → (x : ℕ) (e : Effect) → effect_on (fun_at d.facts.funs call.fun).effects x ≡ Some e
      → field_at (fields_after call good (fun_at d.facts.funs call.fun).effects ws) x ≡ effect_of call good e (field_at ws x)
  after_some ws same x e some = left_some call good (length d.most) es ws x e some its.once its.within same

  -- fields that were words below the end are so still, where those with effects on them fit
  pub words_left : (ws : List Value) → length ws ≡ length d.most → ((x : ℕ) → IsWordTo last_word ws x) → fits d.most call good (fun_at d.facts.funs call.fun).effects ws ≡ true
      → AreFields d.facts.fields (fields_after call good (fun_at d.facts.funs call.fun).effects ws)
  words_left ws same old fit = fields_from d.facts.fields (fields_after call good es ws) plain.words (after_length call good es ws ∙ same ∙ plain.fields) each
    where
      each : (x : ℕ) → IsWordTo last_word (fields_after call good es ws) x
      each x = by_effect es x (IsWordTo last_word (fields_after call good es ws) x)
          (λ none. let was = old x in (was.0, left_none call good es ws x none ∙ was.1, was.2))
          (λ e some.
          let new = fits_on d.most call good es ws fit x e some in
          let most = most_small d.most plain.most x in
          let up = new.2 in
          (new.0, after_some ws same x e some ∙ new.1, omega (arith, most, up)))

  -- fields that were up to their greatest are so still
  pub up_left : (ws : List Value) → length ws ≡ length d.most → ((x : ℕ) → IsWordTo (most_at (greatest d) x) ws x) → call.client ≤ last_client
      → fits d.most call good (fun_at d.facts.funs call.fun).effects ws ≡ true
      → are_up_to (greatest d) (fields_after call good (fun_at d.facts.funs call.fun).effects ws) ≡ true
  up_left ws same old client fit = up_from (greatest d) (fields_after call good es ws) (after_length call good es ws ∙ same ∙ sym (greatest_length d)) each
    where
      few : (x : ℕ) (e : Effect) (n : ℕ) → effect_on es x ≡ Some e → effect_of call good e (field_at ws x) ≡ Word n → has_client d.facts x ≡ true → n ≤ last_client
      few x e n some is its_client =
          let was = word_low (most_at (greatest d) x) x ws (old x) in
          let top = greatest_client d x its_client in
          let new = client_left call good e (field_at ws x) (client_effect d.facts call.fun x e its_client low high some) client (omega (arith, was, top)) in
          let same_word : n ≡ word_of (effect_of call good e (field_at ws x)) = ap word_of (sym is) in
          omega (arith, new, same_word)

      each : (x : ℕ) → IsWordTo (most_at (greatest d) x) (fields_after call good es ws) x
      each x = by_effect es x (IsWordTo (most_at (greatest d) x) (fields_after call good es ws) x)
          (λ none. let was = old x in (was.0, left_none call good es ws x none ∙ was.1, was.2))
          (λ e some. let new = fits_on d.most call good es ws fit x e some in (new.0, after_some ws same x e some ∙ new.1, greatest_up d x new.0 new.2 (few x e new.0 some new.1)))

  -- a field that isn't left 0
  pub some_after : (ws : List Value) → length ws ≡ length d.most → (x : ℕ) (some : Bool) → leaves_some (effect_on (fun_at d.facts.funs call.fun).effects x) some ≡ true → 1 ≤ call.client
      → (some ≡ true → 1 ≤ word_of (field_at ws x)) → 1 ≤ word_of (field_at (fields_after call good (fun_at d.facts.funs call.fun).effects ws) x)
  some_after ws same x some leaves client old = by_effect es x (1 ≤ word_of (field_at (fields_after call good es ws) x))
      (λ none.
      let was = old (ap (λ o. leaves_some o some) (sym none) ∙ leaves) in
      let same_word = ap word_of (left_none call good es ws x none) in
      omega (arith, was, same_word))
      (λ e is.
      let new = some_left call good e (field_at ws x) some (ap (λ o. leaves_some o some) (sym is) ∙ leaves) client old in
      let same_word = ap word_of (after_some ws same x e is) in
      omega (arith, new, same_word))

-- ---- fields that are never 0

module _ (facts : Facts) (x state : ℕ) (is : is_never_zero facts state x ≡ true) where
  keeps : (all_from (makes_some facts x state) 1 facts.funs && list_all (moves_some facts x (never_zero facts x) state) facts.moves && list_all (stays_listed facts x (never_zero facts x) state) facts.steps) ≡ true
  keeps = let all = never_zero_keeps facts x in all.keep state is

  made_moved : (all_from (makes_some facts x state) 1 facts.funs && list_all (moves_some facts x (never_zero facts x) state) facts.moves) ≡ true
  made_moved = (both_true (all_from (makes_some facts x state) 1 facts.funs && list_all (moves_some facts x (never_zero facts x) state) facts.moves) (list_all (stays_listed facts x (never_zero facts x) state) facts.steps) keeps).0

  -- who makes a descriptor in such a state sets the field
  pub never_zero_made : (fun : ℕ) → 1 ≤ fun → fun ≤ length facts.funs → (fun_at facts.funs fun).creation ≡ true → state_after facts fun fun ≡ state → leaves_some (effect_on (fun_at facts.funs fun).effects x) false ≡ true
  never_zero_made fun low high makes leads =
      implied ((fun_at facts.funs fun).creation && (state_after facts fun fun == state)) (leaves_some (effect_on (fun_at facts.funs fun).effects x) false)
      (fun_in (makes_some facts x state) facts.funs (both_true (all_from (makes_some facts x state) 1 facts.funs) (list_all (moves_some facts x (never_zero facts x) state) facts.moves) made_moved).0 fun low high)
      (ap (λ b. b && (state_after facts fun fun == state)) makes ∙ ap (λ n. n == state) leads ∙ own_test state)

  -- who leaves such a state does so, or found the field not 0
  pub never_zero_moved : (fun old : ℕ) → has_pair facts.moves old fun ≡ true → (fun_at facts.funs fun).creation ≡ false → (fun_at facts.funs fun).terminal ≡ false → state_after facts fun old ≡ state
      → leaves_some (effect_on (fun_at facts.funs fun).effects x) (is_never_zero facts old x) ≡ true
  never_zero_moved fun old pair makes ends leads =
      implied (not (fun_at facts.funs fun).creation && not (fun_at facts.funs fun).terminal && (state_after facts fun old == state)) (leaves_some (effect_on (fun_at facts.funs fun).effects x) (is_never_zero facts old x))
      (pair_passes (moves_some facts x (never_zero facts x) state) facts.moves
      (both_true (all_from (makes_some facts x state) 1 facts.funs) (list_all (moves_some facts x (never_zero facts x) state) facts.moves) made_moved).1 old fun pair)
      (ap (λ b. not b && not (fun_at facts.funs fun).terminal && (state_after facts fun old == state)) makes ∙ ap (λ b. not b && (state_after facts fun old == state)) ends ∙ ap (λ n. n == state) leads ∙ own_test state)

  -- a step from such a state leads to such a state
  pub never_zero_on : (fun : ℕ) → has_pair facts.steps state fun ≡ true → is_never_zero facts (state_after facts fun state) x ≡ true
  never_zero_on fun pair =
      implied (state == state) (is_never_zero facts (state_after facts fun state) x)
      (pair_passes (stays_listed facts x (never_zero facts x) state) facts.steps
      (both_true (all_from (makes_some facts x state) 1 facts.funs && list_all (moves_some facts x (never_zero facts x) state) facts.moves) (list_all (stays_listed facts x (never_zero facts x) state) facts.steps) keeps).1
      state fun pair) (own_test state)

-- ---- the law

module _ (d : Described) (plain : IsPlain d) where
  row_length : (r : Row) → IsDescribedRow d r → length r.fields ≡ length d.most
  row_length r row = up_length (greatest d) r.fields row.fields ∙ greatest_length d

  empty_words : (most : ℕ) (x : ℕ) → IsWordTo most (map empty_field d.facts.fields) x
  empty_words most x = (0, empty_at d.facts.fields plain.words x, omega arith)

  row_words : (r : Row) → IsDescribedRow d r → (x : ℕ) → IsWordTo last_word r.fields x
  row_words r row x =
      let one = up_at (greatest d) r.fields row.fields x in
      let low = greatest_low d x in
      let small = most_small d.most plain.most x in
      let up = one.2 in
      (one.0, one.1, omega (arith, low, small, up))

  module _ (o : Object) (call : Call) (good : Good) (sound : IsDescribedSound d o) (passes : Passes d.facts o call) (is : described_table d o call ≡ Some (Ok good)) where
    its_fun : IsPlainFun d call.fun (fun_at d.facts.funs call.fun)
    its_fun = plain_fun d plain call.fun passes.is_call.first passes.is_call.last

    answered : (makes : Bool) → (fun_at d.facts.funs call.fun).creation ≡ makes → answer_of d call makes o.given (row_at o.rows call.desc) ≡ Some (Ok good)
    answered makes makes_is = ap (λ b. answer_of d call b o.given (row_at o.rows call.desc)) (sym makes_is) ∙ is

    made : (fun_at d.facts.funs call.fun).creation ≡ true → IsDescribedSound d (after d.facts o call (Ok good))
    made makes =
        let done = done_tells d call.fun (o.given + 1) (env_of d call true (row_at o.rows call.desc)) good (answered true makes) in
        let new = new_row d.facts call good in
        let blank = map empty_field d.facts.fields in
        let same : length blank ≡ length d.most = empty_length d.facts.fields ∙ sym plain.fields in
        let fit = left_fits d call good true (row_at o.rows call.desc) (o.given + 1) done in
        let root : new.parent ≡ 0 = ap (λ b. cond b call.desc 0) its_fun.no_parent in
        let row : IsRow d.facts (o.rows ++ new ∷ []) new = record {
          creator_first = passes.within.client_first;
          creator_last = passes.within.client_last;
          parent = subst (λ n. ((n == 0) || (nat_lt n new.id && is_live (o.rows ++ new ∷ []) n)) ≡ true) (sym root) refl;
          its_parent = ap (λ b. cond b (may_be_root d.facts.parents || not (new.parent == 0)) (new.parent == 0)) its_fun.no_parent ∙ ap (λ n. n == 0) root;
          fields = words_left d plain call good passes.is_call.first passes.is_call.last blank same (empty_words last_word) fit;
        } in
        let own : IsDescribedRow d new = record {
          fields = up_left d plain call good passes.is_call.first passes.is_call.last blank same (λ x. empty_words (most_at (greatest d) x) x) passes.within.client_last fit;
          some = λ x never. some_after d plain call good passes.is_call.first passes.is_call.last blank same x false
              (never_zero_made d.facts x new.state never call.fun passes.is_call.first passes.is_call.last makes refl) passes.within.client_first (λ no. absurd (cc no));
        } in
        let kept = sound_more d.facts (IsDescribedRow d) o new (sound.general, sound.rows) (sym (ap (λ (g : Good). g.desc) done.is)) row own in
        subst (IsDescribedSound d) (sym (after_is d.facts o call good true false its_fun.no_query its_fun.no_file makes (its_fun.made makes))) (record { general = kept.0; rows = kept.1 })

    ended : (fun_at d.facts.funs call.fun).creation ≡ false → (fun_at d.facts.funs call.fun).terminal ≡ true → IsDescribedSound d (after d.facts o call (Ok good))
    ended makes ends =
        let kept = sound_left d.facts (IsDescribedRow d) o call.desc (sound.general, sound.rows) plain.alone (childless d.facts o call passes its_fun.no_query ends plain.alone) in
        subst (IsDescribedSound d) (sym (after_is d.facts o call good false true its_fun.no_query its_fun.no_file makes ends)) (record { general = kept.0; rows = kept.1 })

    turned_one : (fun_at d.facts.funs call.fun).creation ≡ false → (fun_at d.facts.funs call.fun).terminal ≡ false → IsDescribedSound d (after d.facts o call (Ok good))
    turned_one makes ends =
        let kept = sound_changed d.facts (IsDescribedRow d) o call good (sound.general, sound.rows) turns in
        subst (IsDescribedSound d) (sym (after_is d.facts o call good false false its_fun.no_query its_fun.no_file makes ends)) (record { general = kept.0; rows = kept.1 })
      where
        turns : (r : Row) → row_at o.rows call.desc ≡ Some r → IsRow d.facts o.rows r → IsDescribedRow d r → AreFields d.facts.fields (row_after d.facts call good r).fields × IsDescribedRow d (row_after d.facts call good r)
        turns r found are row =
            let done = done_tells d call.fun 0 (env_of d call false (Some r)) good (ap (λ found_row. answer_of d call false o.given found_row) (sym found) ∙ answered false makes) in
            let fit = left_fits d call good false (Some r) 0 done in
            let same = row_length r row in
            let pair = in_its_state d.facts o call r passes its_fun.no_query (its_fun.on makes) found in (
              words_left d plain call good passes.is_call.first passes.is_call.last r.fields same (row_words r row) fit,
              record {
                fields = up_left d plain call good passes.is_call.first passes.is_call.last r.fields same (up_at (greatest d) r.fields row.fields) passes.within.client_last fit;
                some = λ x never. some_after d plain call good passes.is_call.first passes.is_call.last r.fields same x (is_never_zero d.facts r.state x)
                    (never_zero_moved d.facts x (state_after d.facts call.fun r.state) never call.fun r.state pair makes ends refl) passes.within.client_first (row.some x);
              },
            )

    pub keeps_sound : IsDescribedSound d (after d.facts o call (Ok good))
    keeps_sound = at (fun_at d.facts.funs call.fun).creation (fun_at d.facts.funs call.fun).terminal refl refl
      where
        at : (makes ends : Bool) → (fun_at d.facts.funs call.fun).creation ≡ makes → (fun_at d.facts.funs call.fun).terminal ≡ ends → IsDescribedSound d (after d.facts o call (Ok good))
        at true ends makes is_end = made makes
        at false true makes is_end = ended makes is_end
        at false false makes is_end = turned_one makes is_end

  -- the empty object of a described service is sound, an Ok keeps an object sound, and a new descriptor has the next id
  pub described_answers_and_keeps : AnswersAndKeeps d.facts (described_table d) (IsDescribedSound d)
  described_answers_and_keeps = record {
    empty = record { general = record { rows = tt; files = tt }; rows = tt };
    general = λ o sound. sound.general;
    keeps = λ o call good sound passes is. keeps_sound o call good sound passes is;
    next = λ o call good is makes.
        let done = done_tells d call.fun (o.given + 1) (env_of d call true (row_at o.rows call.desc)) good (ap (λ b. answer_of d call b o.given (row_at o.rows call.desc)) (sym makes) ∙ is) in
        sym (ap (λ (g : Good). g.desc) done.is);
  }
