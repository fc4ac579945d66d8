-- An Ok may be tracked where the rows after it are the service's: their fields are of their kinds, and so each field that
-- was set once came to a value of its kind.
use Rattle.std.proofs.Common.{◌≡◌, ℕ, zero, suc, ◌<◌, ◌≤◌, Bool, true, false, cond, not, ◌&&◌, ◌||◌, List, [], ◌∷◌, ◌++◌, Some, length, map, refl, sym, ◌∙◌, ap, subst, inl, inr, arith}
use Rattle.std.specs.Prelude.{◌==◌, if◌then◌else◌, nat_le}
use Rattle.std.specs.List.{list_all, list_any}
use Rattle.std.proofs.Math.ListN.{set}
use Rattle.std.proofs.lemmas.Bool.Decides.{eqb_tells, nat_tests}
use Rattle.std.proofs.lemmas.List.{length-set}
use Rattle.sg_facts.specs.sg_base.declared.value.Value.{Value}
use Rattle.sg_facts.specs.sg_base.declared.value.Value.TheVariants.{Word, Text}
use Rattle.sg_facts.specs.sg_base.declared.call.Call.{Call}
use Rattle.sg_facts.specs.sg_base.declared.reply.Good.{Good}
use Rattle.sg_facts.specs.declared.row.Row.{Row}
use Rattle.sg_facts.specs.declared.shape.Effect.{Effect}
use Rattle.sg_facts.specs.Allowed.{acts_on_one, each_replays_well, steps_make_none, implies, is_allowed, is_text_field, keeps_private, keeps_to, leaves_own, replays_all, sets_once}
use Rattle.sg_facts.specs.Facts.{Facts, Field, Fun, fun_at, no_fun, takes_desc, takes_parent}
use Rattle.sg_facts.specs.Sound.{AreFields, AreRows, IsOfField, IsRow}
use Rattle.sg_facts.specs.Track.{effect_of, field_at, fields_after, new_row, row_at, rows_after}
use Rattle.sg_facts.specs.Inside.Rows.{row_after}
use Rattle.sg_facts.specs.Fields.{empty_field}
use Rattle.sg_track.specs.Drafts.{EachNew, IsDraftWord, IsValue}
use Rattle.sg_track.specs.Tracked.{HasPlace, MayTrackOk, Tracked, changed_rows}
use Rattle.sg_track.proofs.Ascending.{same_test}

-- ---- fields that were set once

pub set_other : (fields : List Value) (i x : ℕ) (v : Value) → (i ≡ x → ⊥) → field_at (set fields i v) x ≡ field_at fields x
set_other [] i x v apart = refl
set_other (f ∷ fields) zero zero v apart = absurd (apart refl)
set_other (f ∷ fields) zero (suc x) v apart = refl
set_other (f ∷ fields) (suc i) zero v apart = refl
set_other (f ∷ fields) (suc i) (suc x) v apart = set_other fields i x v (λ same. apart (ap suc same))

pub set_same : (fields : List Value) (x : ℕ) (v : Value) → x < length fields → field_at (set fields x v) x ≡ v
set_same [] x v within = absurd (omega arith)
set_same (f ∷ fields) zero v within = refl
set_same (f ∷ fields) (suc x) v within = set_same fields x v (omega arith)

-- a field that no effect sets stays
pub untouched : (call : Call) (good : Good) (es : List (ℕ × Effect)) (fields : List Value) (x : ℕ) → list_any (λ e. e.0 == x) es ≡ false → field_at (fields_after call good es fields) x ≡ field_at fields x
untouched call good [] fields x none = refl
untouched call good (e ∷ es) fields x none =
    let v = effect_of call good e.1 (field_at fields e.0) in
    elim (eqb_tells e.0 x) [
      | inl same ↦ absurd (let wrong : true ≡ false = sym (ap (λ b. b || list_any (λ o. o.0 == x) es) same.0) ∙ none in cc wrong)
      | inr apart ↦
          let rest : list_any (λ o. o.0 == x) es ≡ false = sym (ap (λ b. b || list_any (λ o. o.0 == x) es) apart.0) ∙ none in
          untouched call good es (set fields e.0 v) x rest ∙ set_other fields e.0 x v apart.1
    ]

both_true : (a b : Bool) → (a && b) ≡ true → (a ≡ true) × (b ≡ true)
both_true true true is = (refl, refl)
both_true true false is = absurd (cc is)
both_true false b is = absurd (cc is)

not_true : (b : Bool) → not b ≡ true → b ≡ false
not_true true is = absurd (cc is)
not_true false is = refl

either_true : (a b : Bool) → b ≡ true → (a || b) ≡ true
either_true true b is = refl
either_true false b is = is

-- what the fields come to tells each new value
pub final_new : (P : Value → Type 0) (call : Call) (good : Good) (es : List (ℕ × Effect)) (fields : List Value) → sets_once es ≡ true
    → ((x : ℕ) → x < length fields → list_any (λ e. e.0 == x) es ≡ true → P (field_at (fields_after call good es fields) x)) → EachNew P call good es fields
final_new P call good [] fields once final = tt
final_new P call good (e ∷ es) fields once final =
    let v = effect_of call good e.1 (field_at fields e.0) in
    let parts = both_true (not (list_any (λ o. o.0 == e.0) es)) (sets_once es) once in (
      λ within.
          let stays = untouched call good es (set fields e.0 v) e.0 (not_true (list_any (λ o. o.0 == e.0) es) parts.0) in
          subst P (stays ∙ set_same fields e.0 v within) (final e.0 within (ap (λ b. b || list_any (λ o. o.0 == e.0) es) (same_test e.0 e.0 refl))),
      final_new P call good es (set fields e.0 v) parts.1 (λ x within touched.
          final x (omega (arith, within, length-set fields e.0 v)) (either_true (e.0 == x) (list_any (λ o. o.0 == x) es) touched)),
    )

pub length_after : (call : Call) (good : Good) (es : List (ℕ × Effect)) (fields : List Value) → length (fields_after call good es fields) ≡ length fields
length_after call good [] fields = refl
length_after call good (e ∷ es) fields = length_after call good es (set fields e.0 (effect_of call good e.1 (field_at fields e.0))) ∙ length-set fields e.0 (effect_of call good e.1 (field_at fields e.0))

-- ---- fields of their kinds

of_field : (f : Field) (v : Value) → IsOfField f v → f.text ≡ false → IsDraftWord v
of_field f (Word n) is number = is.1
of_field f (Text bytes) is number = absurd (let wrong : true ≡ false = sym is ∙ number in cc wrong)

of_any : (f : Field) (v : Value) → IsOfField f v → IsValue v
of_any f (Word n) is = is.1
of_any f (Text bytes) is = tt

number_at : (fs : List Field) (vs : List Value) (x : ℕ) → AreFields fs vs → x < length vs → is_text_field fs x ≡ false → IsDraftWord (field_at vs x)
number_at [] [] x are within number = absurd (omega arith)
number_at [] (v ∷ vs) x are within number = absurd are
number_at (f ∷ fs) [] x are within number = absurd are
number_at (f ∷ fs) (v ∷ vs) zero are within number = of_field f v are.0 number
number_at (f ∷ fs) (v ∷ vs) (suc x) are within number = number_at fs vs x are.1 (omega arith) number

value_at : (fs : List Field) (vs : List Value) (x : ℕ) → AreFields fs vs → x < length vs → IsValue (field_at vs x)
value_at [] [] x are within = absurd (omega arith)
value_at [] (v ∷ vs) x are within = absurd are
value_at (f ∷ fs) [] x are within = absurd are
value_at (f ∷ fs) (v ∷ vs) zero are within = of_any f v are.0
value_at (f ∷ fs) (v ∷ vs) (suc x) are within = value_at fs vs x are.1 (omega arith)

-- a field that is set is no text
no_text : (fs : List Field) (es : List (ℕ × Effect)) (x : ℕ) → list_all (λ e. not (is_text_field fs e.0)) es ≡ true → list_any (λ e. e.0 == x) es ≡ true → is_text_field fs x ≡ false
no_text fs [] x all any = absurd (cc any)
no_text fs (e ∷ es) x all any =
    let parts = both_true (not (is_text_field fs e.0)) (list_all (λ o. not (is_text_field fs o.0)) es) all in
    elim (eqb_tells e.0 x) [
      | inl same ↦ ap (is_text_field fs) (sym same.1) ∙ not_true (is_text_field fs e.0) parts.0
      | inr apart ↦ no_text fs es x parts.1 (sym (ap (λ b. b || list_any (λ o. o.0 == x) es) apart.0) ∙ any)
    ]

-- ---- what a shape keeps to

parts_of : (facts : Facts) → is_allowed facts ≡ true → (nat_le (length facts.fields) 8 ≡ true) × (list_all (keeps_to facts) facts.funs ≡ true)
parts_of facts allowed =
    let few = nat_le (length facts.fields) 8 in
    let all = list_all (keeps_to facts) facts.funs in
    let n = length facts.funs in
    let six = (both_true (few && keeps_private facts && all && replays_all facts n && list_all (acts_on_one facts) facts.funs && each_replays_well facts n) (steps_make_none facts) allowed).0 in
    let five = (both_true (few && keeps_private facts && all && replays_all facts n && list_all (acts_on_one facts) facts.funs) (each_replays_well facts n) six).0 in
    let four = (both_true (few && keeps_private facts && all && replays_all facts n) (list_all (acts_on_one facts) facts.funs) five).0 in
    let front = (both_true (few && keeps_private facts && all) (replays_all facts n) four).0 in
    let two = both_true (few && keeps_private facts) all front in
    ((both_true few (keeps_private facts) two.0).0, two.1)

few_fields : (facts : Facts) → is_allowed facts ≡ true → length facts.fields ≤ 8
few_fields facts allowed = let few = (parts_of facts allowed).0 in grind (arith, nat_tests, few)

abbrev sets_no_text : Facts → Fun → Bool
sets_no_text facts f = list_all (λ e. not (is_text_field facts.fields e.0)) f.effects

-- a function sets no field twice and, unless it makes a descriptor, no text
record Keeps (facts : Facts) (f : Fun) : Type 0 where
  once : sets_once f.effects ≡ true
  no_text : f.creation ≡ false → sets_no_text facts f ≡ true

each_fun : (test : Fun → Bool) (funs : List Fun) (n : ℕ) → list_all test funs ≡ true → test no_fun ≡ true → test (fun_at funs n) ≡ true
each_fun test funs zero all none = none
each_fun test [] (suc n) all none = none
each_fun test (f ∷ funs) (suc zero) all none = (both_true (test f) (list_all test funs) all).0
each_fun test (f ∷ funs) (suc (suc n)) all none = each_fun test funs (suc n) (both_true (test f) (list_all test funs) all).1 none

keeps : (facts : Facts) (n : ℕ) → is_allowed facts ≡ true → Keeps facts (fun_at facts.funs n)
keeps facts n allowed = told (fun_at facts.funs n) (each_fun (keeps_to facts) facts.funs n (parts_of facts allowed).1 refl)
  where
    told : (f : Fun) → keeps_to facts f ≡ true → Keeps facts f
    told f is =
        let two = implies f.query (not (takes_desc f) && not (takes_parent f)) && implies f.uses_file (facts.resc_data && takes_desc f) in
        let text = f.creation || sets_no_text facts f in
        let block = implies f.block (not f.creation && not f.terminal) in
        let five = (both_true (two && text && sets_once f.effects && block) (leaves_own facts.funs f.leaves) is).0 in
        let four = both_true (two && text && sets_once f.effects) block five in
        let parts = both_true (two && text) (sets_once f.effects) four.0 in
        let texts = (both_true two text parts.0).1 in
        record { once = parts.1; no_text = λ makes. sym (ap (λ b. b || sets_no_text facts f) makes) ∙ texts }

-- ---- rows of the service

met : (P : Row → Type 0) (low high id : ℕ) (rows : List Row) (r : Row) → AreRows P low high rows → row_at rows id ≡ Some r → P r
met P low high id [] r are there = absurd (cc there)
met P low high id (x ∷ rows) r are there = at (x.id == id) there (met P x.id high id rows r are.3)
  where
    at : (b : Bool) → cond b (Some x) (row_at rows id) ≡ Some r → (row_at rows id ≡ Some r → P r) → P r
    at true there rest = let one : x ≡ r = cc there in subst P one are.2
    at false there rest = rest there

met_last : (P : Row → Type 0) (low high : ℕ) (rows : List Row) (r : Row) → AreRows P low high (rows ++ r ∷ []) → P r
met_last P low high [] r are = are.2
met_last P low high (x ∷ rows) r are = met_last P x.id high rows r are.3

changed_there : (change : Row → Row) → ((r : Row) → (change r).id ≡ r.id) → (rows : List Row) (id : ℕ) (r : Row) → row_at rows id ≡ Some r
    → row_at (map (λ x. if x.id == id then change x else x) rows) id ≡ Some (change r)
changed_there change same [] id r there = absurd (cc there)
changed_there change same (x ∷ rows) id r there = elim (eqb_tells x.id id) [
  | inl here ↦
      let found : Some x ≡ Some r = sym (ap (λ b. cond b (Some x) (row_at rows id)) here.0) ∙ there in
      let one : x ≡ r = cc found in
      ap (λ b. row_at (cond b (change x) x ∷ map (λ y. if y.id == id then change y else y) rows) id) here.0
      ∙ ap (λ b. cond b (Some (change x)) (row_at (map (λ y. if y.id == id then change y else y) rows) id)) (same_test (change x).id id (same x ∙ here.1))
      ∙ ap (λ y. Some (change y)) one
  | inr apart ↦
      let further : row_at rows id ≡ Some r = sym (ap (λ b. cond b (Some x) (row_at rows id)) apart.0) ∙ there in
      ap (λ b. row_at (cond b (change x) x ∷ map (λ y. if y.id == id then change y else y) rows) id) apart.0
      ∙ ap (λ b. cond b (Some x) (row_at (map (λ y. if y.id == id then change y else y) rows) id)) apart.0
      ∙ changed_there change same rows id r further
]

module _ (facts : Facts) (t : Tracked) (call : Call) (good : Good) (given : ℕ) (all : List Row) where
  -- the row that a creation makes
  made : sets_once (fun_at facts.funs call.fun).effects ≡ true → IsRow facts all (new_row facts call good)
      → EachNew IsValue call good (fun_at facts.funs call.fun).effects (map empty_field facts.fields)
  made once is =
      let es = (fun_at facts.funs call.fun).effects in
      let fields = map empty_field facts.fields in
      final_new IsValue call good es fields once
      (λ x within touched. value_at facts.fields (fields_after call good es fields) x is.fields (omega (arith, within, length_after call good es fields)))

  -- the row that a function changes
  changed : (r : Row) → sets_once (fun_at facts.funs call.fun).effects ≡ true → sets_no_text facts (fun_at facts.funs call.fun) ≡ true
      → IsRow facts all (row_after facts call good r) → EachNew IsDraftWord call good (fun_at facts.funs call.fun).effects r.fields
  changed r once keeps is =
      let es = (fun_at facts.funs call.fun).effects in
      final_new IsDraftWord call good es r.fields once
      (λ x within touched. number_at facts.fields (fields_after call good es r.fields) x is.fields (omega (arith, within, length_after call good es r.fields)) (no_text facts.fields es x keeps touched))

  -- an Ok may be tracked where the shape is allowed and the rows after it are the service's
  pub may_track : is_allowed facts ≡ true → AreRows (IsRow facts all) 0 given (rows_after facts t.rows call good)
      → ((fun_at facts.funs call.fun).creation ≡ true → HasPlace facts t call good) → MayTrackOk facts t call good
  may_track allowed are place = record {
    makes = λ is. record {
      place = place is;
      few = few_fields facts allowed;
      values = λ row.
          let rows_is : rows_after facts t.rows call good ≡ t.rows ++ new_row facts call good ∷ [] = rw (row, is) refl in
          made (keeps facts call.fun allowed).once (met_last (IsRow facts all) 0 given t.rows (new_row facts call good) (subst (AreRows (IsRow facts all) 0 given) rows_is are));
    };
    changes = λ row makes ends r there.
        let rows_is : rows_after facts t.rows call good ≡ changed_rows facts t.rows call good = rw (row, makes, ends) refl in
        changed r (keeps facts call.fun allowed).once ((keeps facts call.fun allowed).no_text makes)
        (met (IsRow facts all) 0 given call.desc (changed_rows facts t.rows call good) (row_after facts call good r) (subst (AreRows (IsRow facts all) 0 given) rows_is are)
        (changed_there (row_after facts call good) (λ x. refl) t.rows call.desc r there));
  }
