-- The counted words of a described service stay far from the end of their type.
use Rattle.std.proofs.Common.{◌≡◌, ℕ, zero, suc, ◌+◌, ◌<◌, ◌≤◌, ◌^◌, max, Bool, true, false, cond, not, List, [], ◌∷◌, ◌++◌, None, Some, length, map, filter, refl, sym, ◌∙◌, ap, subst, ◌⊎◌, inl, inr, arith}
use Rattle.std.specs.Prelude.{◌-◌, ◌==◌, ◌&&◌, ◌||◌, nat_le, if◌then◌else◌, slice_set}
use Rattle.std.specs.List.{list_all}
use Rattle.std.specs.declared.option.Option.{Option}
use Rattle.std.proofs.lemmas.Bool.Decides.{nat_tests}
use Rattle.sg_facts.specs.sg_base.declared.value.Value.{Value}
use Rattle.sg_facts.specs.sg_base.declared.value.Value.TheVariants.{Word, Text}
use Rattle.sg_facts.specs.sg_base.declared.call.Call.{Call}
use Rattle.sg_facts.specs.sg_base.declared.reply.Good.{Good}
use Rattle.sg_facts.specs.sg_base.declared.reply.Reply.TheVariants.{Ok}
use Rattle.sg_facts.specs.declared.row.Row.{Row}
use Rattle.sg_facts.specs.declared.shape.Effect.{Effect}
use Rattle.sg_facts.specs.declared.shape.Effect.TheVariants.{SetCaller, SetArg, AddArg, SetRet, AddRet, Clear, SubOne, SubRet}
use Rattle.sg_facts.specs.Allowed.{implies, is_replayed}
use Rattle.sg_facts.specs.Counted.{is_counted, most_counted, most_in}
use Rattle.sg_facts.specs.Facts.{Facts, fun_at}
use Rattle.sg_facts.specs.Kinds.{MayAsk}
use Rattle.sg_facts.specs.Laws.{CountsSlowly, Passes, most_set, set_to, slow}
use Rattle.sg_facts.specs.Limits.{last_client}
use Rattle.sg_facts.specs.Object.{Object, after}
use Rattle.sg_facts.specs.Sound.{AreRows}
use Rattle.sg_facts.specs.Track.{effect_of, ends_with, field_at, fields_after, first_word, new_row, row_at, word_of}
use Rattle.sg_facts.specs.Inside.Rows.{row_after}
use Rattle.sg_facts.specs.Fields.{empty_field}
use Rattle.sg_described.specs.Described.{Described}
use Rattle.sg_described.specs.DescribedSound.{IsDescribedRow, IsDescribedSound, are_up_to}
use Rattle.sg_described.specs.Known.{greatest}
use Rattle.sg_described.specs.Meaning.{answer_of, described_table, env_of, fits, is_up_to, most_at}
use Rattle.sg_described.specs.NeverZero.{all_from}
use Rattle.sg_described.specs.Safe.{IsPlain, adds, counts_slowly, replays_slowly}
use Rattle.sg_described.proofs.Keeping.Answering.{IsDone, IsPlainFun, done_tells, plain_fun}
use Rattle.sg_described.proofs.Keeping.Basics.{both_true, fun_in, implied}
use Rattle.sg_described.proofs.Keeping.Effects.{after_length, cleared_none, set_length}
use Rattle.sg_described.proofs.Keeping.Fitting.{empty_at, greatest_low, up_to_word}
use Rattle.sg_described.proofs.Keeping.SoundLaw.{after_is, keeps_sound, left_fits, turned}

-- ---- the greatest counted word of fields and of rows

kept : (b : Bool) (most n m rest new : ℕ) → (b ≡ true → n ≤ max most m) → new ≤ max most rest → max (cond b n 0) new ≤ max most (max (cond b m 0) rest)
kept true most n m rest new own later = let one = own refl in omega (arith, one, later)
kept false most n m rest new own later = omega (arith, later)

module _ (facts : Facts) (most : ℕ) where
  -- counted fields are at most a number, or no greater than before
  abbrev pub NotAbove : List Value → List Value → Type 0
  NotAbove old new = (x : ℕ) → is_counted facts x ≡ true → word_of (field_at new x) ≤ max most (word_of (field_at old x))

  in_from : (from : ℕ) (old new : List Value) → length new ≡ length old → ((x : ℕ) → is_counted facts (from + x) ≡ true → word_of (field_at new x) ≤ max most (word_of (field_at old x)))
      → most_in facts from new ≤ max most (most_in facts from old)
  in_from from [] [] same each = omega arith
  in_from from [] (w ∷ new) same each = absurd (omega (arith, same))
  in_from from (v ∷ old) [] same each = absurd (omega (arith, same))
  in_from from (v ∷ old) (w ∷ new) same each =
      let none : from + 0 ≡ from = omega arith in
      kept (is_counted facts from) most (word_of w) (word_of v) (most_in facts (from + 1) old) (most_in facts (from + 1) new) (λ is. each 0 (ap (is_counted facts) none ∙ is))
      (in_from (from + 1) old new (omega (arith, same)) (λ x is. let further : from + suc x ≡ from + 1 + x = omega arith in each (suc x) (ap (is_counted facts) further ∙ is)))

  in_fields : (old new : List Value) → length new ≡ length old → NotAbove old new → most_in facts 0 new ≤ max most (most_in facts 0 old)
  in_fields old new same each = in_from 0 old new same (λ x is. let none : x ≡ 0 + x = omega arith in each x (ap (is_counted facts) none ∙ is))

  counted_changed : (change : Row → Row) (rows : List Row) → ((r : Row) → most_in facts 0 (change r).fields ≤ max most (most_in facts 0 r.fields)) → most_counted facts (map change rows) ≤ max most (most_counted facts rows)
  counted_changed change [] each = omega arith
  counted_changed change (r ∷ rows) each = let own = each r in let rest = counted_changed change rows each in omega (arith, own, rest)

module _ (facts : Facts) where
  counted_more : (rows : List Row) (new : Row) → most_counted facts (rows ++ new ∷ []) ≤ max (most_counted facts rows) (most_in facts 0 new.fields)
  counted_more [] new = omega arith
  counted_more (r ∷ rows) new = let rest = counted_more rows new in omega (arith, rest)

  counted_left : (test : Row → Bool) (rows : List Row) → most_counted facts (filter test rows) ≤ most_counted facts rows
  counted_left test [] = omega arith
  counted_left test (r ∷ rows) = at (test r) (counted_left test rows)
    where
      at : (b : Bool) → most_counted facts (filter test rows) ≤ most_counted facts rows → most_counted facts (cond b (r ∷ filter test rows) (filter test rows)) ≤ max (most_in facts 0 r.fields) (most_counted facts rows)
      at true rest = omega (arith, rest)
      at false rest = omega (arith, rest)

  -- fields up to their greatest, where those that count are slow
  up_in : (from : ℕ) (ms : List ℕ) (vs : List Value) → are_up_to ms vs ≡ true → ((x : ℕ) → is_counted facts (from + x) ≡ true → most_at ms x ≤ slow) → most_in facts from vs ≤ slow
  up_in from [] [] up each = omega arith
  up_in from [] (v ∷ vs) up each = absurd (cc up)
  up_in from (m ∷ ms) [] up each = omega arith
  up_in from (m ∷ ms) (v ∷ vs) up each =
      let parts = both_true (is_up_to m v) (are_up_to ms vs) up in
      let own = up_to_word m v parts.0 in
      let rest = up_in (from + 1) ms vs parts.1 (λ x is. let further : from + suc x ≡ from + 1 + x = omega arith in each (suc x) (ap (is_counted facts) further ∙ is)) in
      at (is_counted facts from) (λ is. let none : from + 0 ≡ from = omega arith in each 0 (ap (is_counted facts) none ∙ is)) own rest
    where
      at : (b : Bool) → (b ≡ true → m ≤ slow) → (n : ℕ) × (v ≡ Word n) × (n ≤ m) → most_in facts (from + 1) vs ≤ slow → max (cond b (word_of v) 0) (most_in facts (from + 1) vs) ≤ slow
      at true low own rest = let few = low refl in let word = ap word_of own.1 in let up = own.2 in omega (arith, few, word, up, rest)
      at false low own rest = omega (arith, rest)

slow_at : (d : Described) (from : ℕ) (ms : List ℕ) → all_from (counts_slowly d) from ms ≡ true → (x : ℕ) → is_counted d.facts (from + x) ≡ true → most_at ms x ≤ slow
slow_at d from [] all x is = omega arith
slow_at d from (m ∷ ms) all zero is =
    let none : from + 0 ≡ from = omega arith in
    let low = implied (is_counted d.facts from) (nat_le m slow) (both_true (counts_slowly d from m) (all_from (counts_slowly d) (suc from) ms) all).0 (ap (is_counted d.facts) (sym none) ∙ is) in
    grind (arith, nat_tests, low)
slow_at d from (m ∷ ms) all (suc x) is =
    let further : suc from + x ≡ from + suc x = omega arith in
    slow_at d (suc from) ms (both_true (counts_slowly d from m) (all_from (counts_slowly d) (suc from) ms) all).1 x (ap (is_counted d.facts) further ∙ is)

-- a field after one was set is that, or as before
set_or : (ws : List Value) (y : ℕ) (w : Value) (x : ℕ) → (field_at (slice_set ws y w) x ≡ field_at ws x) ⊎ ((y ≡ x) × (field_at (slice_set ws y w) x ≡ w))
set_or [] y w x = inl refl
set_or (v ∷ ws) zero w zero = inr (refl, refl)
set_or (v ∷ ws) zero w (suc x) = inl refl
set_or (v ∷ ws) (suc y) w zero = inl refl
set_or (v ∷ ws) (suc y) w (suc x) = elim (set_or ws y w x) [ inl same ↦ inl same | inr own ↦ inr (ap suc own.0, own.1) ]

-- ---- the law

module _ (d : Described) (plain : IsPlain d) (counts : all_from (counts_slowly d) 0 d.most ≡ true) where
  slow_field : (x : ℕ) → is_counted d.facts x ≡ true → most_at d.most x ≤ slow
  slow_field x is = let none : 0 + x ≡ x = omega arith in slow_at d 0 d.most counts x (ap (is_counted d.facts) none ∙ is)

  -- rows of a sound object count slowly
  rows_slow : (low high : ℕ) (rows : List Row) → AreRows (IsDescribedRow d) low high rows → most_counted d.facts rows ≤ slow
  rows_slow low high [] are = omega arith
  rows_slow low high (r ∷ rows) are =
      let row = are.2 in
      let own = up_in d.facts 0 (greatest d) r.fields row.fields
      (λ x is.
      let none : 0 + x ≡ x = omega arith in
      let few = slow_field x (ap (is_counted d.facts) (sym none) ∙ is) in
      let low = greatest_low d x in
      omega (arith, few, low)) in
      let rest = rows_slow r.id high rows are.3 in
      omega (arith, own, rest)

  module _ (call : Call) (good : Good) (client : call.client ≤ last_client) (fs : List Value) where
    -- a counted field after an effect of a replayed call
    effect_low : (y : ℕ) (e : Effect) (v : Value) (most : ℕ) → is_counted d.facts y ≡ true → is_up_to (most_at d.most y) (effect_of call good e (field_at fs y)) ≡ true
        → implies (is_counted d.facts y) (not (adds e)) ≡ true → set_to call e ≤ most → word_of (effect_of call good e v) ≤ max (max slow most) (word_of v)
    effect_low y SetCaller v most is fit adds_none set = omega (arith, client)
    effect_low y (SetArg k) v most is fit adds_none set = omega (arith, set)
    effect_low y (AddArg k) v most is fit adds_none set = let none = implied (is_counted d.facts y) false adds_none is in absurd (cc none)
    effect_low y SetRet v most is fit adds_none set =
        let own = up_to_word (most_at d.most y) (Word (first_word good)) fit in
        let word = ap word_of own.1 in
        let up = own.2 in
        let few = slow_field y is in
        omega (arith, word, up, few)
    effect_low y AddRet v most is fit adds_none set = let none = implied (is_counted d.facts y) false adds_none is in absurd (cc none)
    effect_low y Clear v most is fit adds_none set = let none = cleared_none call good v in omega (arith, none)
    effect_low y SubOne v most is fit adds_none set = omega arith
    effect_low y SubRet v most is fit adds_none set = omega arith

    effects_low : (es : List (ℕ × Effect)) (ws : List Value) (most : ℕ) → fits d.most call good es fs ≡ true → list_all (λ e. implies (is_counted d.facts e.0) (not (adds e.1))) es ≡ true
        → most_set d.facts call es ≤ most → NotAbove d.facts (max slow most) ws (fields_after call good es ws)
    effects_low [] ws most fit none set x is = omega arith
    effects_low (e ∷ es) ws most fit none set x is =
        let fit_parts = both_true (is_up_to (most_at d.most e.0) (effect_of call good e.1 (field_at fs e.0))) (fits d.most call good es fs) fit in
        let none_parts = both_true (implies (is_counted d.facts e.0) (not (adds e.1))) (list_all (λ o. implies (is_counted d.facts o.0) (not (adds o.1))) es) none in
        let new = effect_of call good e.1 (field_at ws e.0) in
        let rest = effects_low es (slice_set ws e.0 new) most fit_parts.1 none_parts.1 (omega (arith, set)) x is in
        elim (set_or ws e.0 new x) [
          | inl same ↦ let word = ap word_of same in omega (arith, rest, word)
          | inr own ↦
              let counted : is_counted d.facts e.0 ≡ true = ap (is_counted d.facts) own.0 ∙ is in
              let its : set_to call e.1 ≤ most = of_two (is_counted d.facts e.0) counted set in
              let low = effect_low e.0 e.1 (field_at ws e.0) most counted fit_parts.0 none_parts.0 its in
              let word = ap word_of own.1 in
              let old = ap (λ y. word_of (field_at ws y)) own.0 in
              omega (arith, rest, low, word, old)
        ]
      where
        of_two : (b : Bool) → b ≡ true → max (cond b (set_to call e.1) 0) (most_set d.facts call es) ≤ most → set_to call e.1 ≤ most
        of_two true counted set = omega (arith, set)
        of_two false counted set = absurd (cc counted)

  module _ (recounts : all_from (replays_slowly d) 1 d.facts.funs ≡ true) (held : Object) (call : Call) (good : Good) (may : MayAsk d.facts held call) (replayed : is_replayed d.facts call.fun ≡ true)
      (is : described_table d held call ≡ Some (Ok good)) where
    its : IsPlainFun d call.fun (fun_at d.facts.funs call.fun)
    its = plain_fun d plain call.fun may.is_call.first may.is_call.last

    abbrev es : List (ℕ × Effect)
    es = (fun_at d.facts.funs call.fun).effects

    abbrev most : ℕ
    most = most_set d.facts call (fun_at d.facts.funs call.fun).effects

    adds_none : list_all (λ e. implies (is_counted d.facts e.0) (not (adds e.1))) es ≡ true
    adds_none = implied (is_replayed d.facts call.fun) (list_all (λ e. implies (is_counted d.facts e.0) (not (adds e.1))) es)
        (fun_in (replays_slowly d) d.facts.funs recounts call.fun may.is_call.first may.is_call.last) replayed

    fit : (makes : Bool) → (fun_at d.facts.funs call.fun).creation ≡ makes → fits d.most call good es (env_of d call makes (row_at held.rows call.desc)).fields ≡ true
    fit makes makes_is =
        left_fits d call good makes (row_at held.rows call.desc) (cond makes (held.given + 1) 0)
        (done_tells d call.fun (cond makes (held.given + 1) 0) (env_of d call makes (row_at held.rows call.desc)) good (ap (λ b. answer_of d call b held.given (row_at held.rows call.desc)) (sym makes_is) ∙ is))

    low_fields : (makes : Bool) → (fun_at d.facts.funs call.fun).creation ≡ makes → (ws : List Value) → most_in d.facts 0 (fields_after call good es ws) ≤ max (max slow most) (most_in d.facts 0 ws)
    low_fields makes makes_is ws =
        in_fields d.facts (max slow most) ws (fields_after call good es ws) (after_length call good es ws)
        (effects_low call good may.within.client_last (env_of d call makes (row_at held.rows call.desc)).fields es ws most (fit makes makes_is) adds_none (omega arith))

    empty_low : (from : ℕ) (vs : List Value) → ((x : ℕ) → field_at vs x ≡ Word 0) → most_in d.facts from vs ≤ 0
    empty_low from [] each = omega arith
    empty_low from (v ∷ vs) each = let own = ap word_of (each 0) in let rest = empty_low (from + 1) vs (λ x. each (suc x)) in at (is_counted d.facts from) own rest
      where
        at : (b : Bool) → word_of v ≡ 0 → most_in d.facts (from + 1) vs ≤ 0 → max (cond b (word_of v) 0) (most_in d.facts (from + 1) vs) ≤ 0
        at true own rest = omega (arith, own, rest)
        at false own rest = omega (arith, rest)

    made : (fun_at d.facts.funs call.fun).creation ≡ true → most_counted d.facts (held.rows ++ new_row d.facts call good ∷ []) ≤ max (max slow most) (most_counted d.facts held.rows + 1)
    made makes =
        let blank = map empty_field d.facts.fields in
        let own = low_fields true makes blank in
        let none = empty_low 0 blank (empty_at d.facts.fields plain.words) in
        let more = counted_more d.facts held.rows (new_row d.facts call good) in
        omega (arith, own, none, more)

    changed : (fun_at d.facts.funs call.fun).creation ≡ false → most_counted d.facts (map (λ r. if r.id == call.desc then row_after d.facts call good r else r) held.rows) ≤ max (max slow most) (most_counted d.facts held.rows + 1)
    changed makes =
        let all = counted_changed d.facts (max slow most) (λ r. if r.id == call.desc then row_after d.facts call good r else r) held.rows one in
        omega (arith, all)
      where
        one : (r : Row) → most_in d.facts 0 (if r.id == call.desc then row_after d.facts call good r else r).fields ≤ max (max slow most) (most_in d.facts 0 r.fields)
        one r = at (r.id == call.desc)
          where
            at : (b : Bool) → most_in d.facts 0 (cond b (row_after d.facts call good r) r).fields ≤ max (max slow most) (most_in d.facts 0 r.fields)
            at true = low_fields false makes r.fields
            at false = omega arith

    replays_low : most_counted d.facts (after d.facts held call (Ok good)).rows ≤ max (max slow most) (most_counted d.facts held.rows + 1)
    replays_low = at (fun_at d.facts.funs call.fun).creation (fun_at d.facts.funs call.fun).terminal refl refl
      where
        by : (makes ends : Bool) → (fun_at d.facts.funs call.fun).creation ≡ makes → (fun_at d.facts.funs call.fun).terminal ≡ ends
            → most_counted d.facts (turned d.facts held call good false makes ends false).rows ≤ max (max slow most) (most_counted d.facts held.rows + 1)
            → most_counted d.facts (after d.facts held call (Ok good)).rows ≤ max (max slow most) (most_counted d.facts held.rows + 1)
        by makes ends is_making is_end low =
            subst (λ o. most_counted d.facts o.rows ≤ max (max slow most) (most_counted d.facts held.rows + 1)) (sym (after_is d.facts held call good makes ends its.no_query its.no_file is_making is_end)) low

        at : (makes ends : Bool) → (fun_at d.facts.funs call.fun).creation ≡ makes → (fun_at d.facts.funs call.fun).terminal ≡ ends
            → most_counted d.facts (after d.facts held call (Ok good)).rows ≤ max (max slow most) (most_counted d.facts held.rows + 1)
        at true ends is_making is_end = by true ends is_making is_end (made is_making)
        at false true is_making is_end =
            let fewer = counted_left d.facts (λ r. not (ends_with d.facts held.rows call.desc r.id)) held.rows in
            by false true is_making is_end (omega (arith, fewer))
        at false false is_making is_end = by false false is_making is_end (changed is_making)

  -- an Ok leaves each counted word slow, that of a replayed call also at what it sets it to
  pub described_counts_slowly : all_from (replays_slowly d) 1 d.facts.funs ≡ true → CountsSlowly d.facts (described_table d) (IsDescribedSound d)
  described_counts_slowly recounts = record {
    calls = λ o call good sound passes is.
        let kept = keeps_sound d plain o call good sound passes is in
        let low = rows_slow 0 (after d.facts o call (Ok good)).given (after d.facts o call (Ok good)).rows kept.rows in
        omega (arith, low);
    replays = λ held call good may replayed is. replays_low recounts held call good may replayed is;
  }
