-- What an answered call makes of a row is reachable: each field is set, or not, as its effect may leave it.
use Rattle.std.proofs.Common.{◌≡◌, ℕ, zero, suc, ◌+◌, ◌-◌, ◌<◌, ◌≤◌, Bool, true, false, cond, not, List, [], ◌∷◌, None, Some, length, map, refl, sym, ◌∙◌, ap, inl, inr, arith}
use Rattle.std.specs.Prelude.{◌==◌, ◌||◌, ◌&&◌, if◌then◌else◌}
use Rattle.std.specs.List.{list_any}
use Rattle.std.specs.declared.option.Option.{Option}
use Rattle.std.proofs.Math.ListN.{set}
use Rattle.std.proofs.lemmas.Bool.Decides.{eqb_tells}
use Rattle.std.proofs.lemmas.List.{length-set}
use Rattle.sg_facts.specs.sg_base.declared.value.Value.{Value}
use Rattle.sg_facts.specs.sg_base.declared.value.Value.TheVariants.{Word, Text}
use Rattle.sg_facts.specs.sg_base.declared.call.Call.{Call}
use Rattle.sg_facts.specs.sg_base.declared.reply.Good.{Good}
use Rattle.sg_facts.specs.declared.row.Row.{Row}
use Rattle.sg_facts.specs.declared.shape.Effect.{Effect}
use Rattle.sg_facts.specs.declared.shape.Effect.TheVariants.{SetCaller, SetArg, AddArg, SetRet, AddRet, Clear, SubOne, SubRet}
use Rattle.sg_facts.specs.Allowed.{sets_once}
use Rattle.sg_facts.specs.Facts.{Field, fun_at}
use Rattle.sg_facts.specs.Fields.{empty_field, is_set}
use Rattle.sg_facts.specs.Held.{set_of}
use Rattle.sg_facts.specs.Interface.{Declared, declares, moves_on}
use Rattle.sg_facts.specs.Track.{arg_at, effect_of, field_at, fields_after, first_word, new_row, word_of}
use Rattle.sg_facts.specs.Inside.Rows.{row_after}
use Rattle.sg_facts.specs.Walks.{IsReachable, effect_on, made, may_lead, may_leave, moved}
use Rattle.sg_facts.specs.Inside.Walking.{none_set}
use Rattle.sg_track.proofs.Premises.{length_after, set_other, set_same, untouched}

pub none_not_more : (n : ℕ) → (suc n == 0) ≡ false
none_not_more n = elim (eqb_tells (suc n) 0) [ inl same ↦ absurd (omega (arith, same.1)) | inr apart ↦ apart.0 ]

set_more : (n : ℕ) → not (suc n == 0) ≡ true
set_more n = ap not (none_not_more n)

set_word : (n : ℕ) → 0 < n → is_set (Word n) ≡ true
set_word zero some = absurd (omega (arith, some))
set_word (suc n) some = set_more n

or_left : (a b : Bool) → a ≡ true → (a || b) ≡ true
or_left a b is = ap (λ c. c || b) is

-- no text that isn't empty
abbrev pub IsNoText : Value → Type 0
IsNoText (Word n) = Unit {0}
IsNoText (Text []) = Unit {0}
IsNoText (Text (b ∷ bs)) = ⊥

adds : (v : Value) (a : ℕ) → IsNoText v → (is_set (Word (word_of v + a)) || not (is_set v)) ≡ true
adds (Word zero) a plain = or_true (is_set (Word (0 + a)))
  where
    or_true : (b : Bool) → (b || true) ≡ true
    or_true true = refl
    or_true false = refl
adds (Word (suc n)) a plain = or_left (is_set (Word (suc n + a))) (not (is_set (Word (suc n)))) (set_word (suc n + a) (omega arith))
adds (Text []) a plain = or_true (is_set (Word (0 + a)))
  where
    or_true : (b : Bool) → (b || true) ≡ true
    or_true true = refl
    or_true false = refl
adds (Text (b ∷ bs)) a plain = absurd plain

-- what is subtracted from a field leaves one that isn't set so
subtracts : (v : Value) (a : ℕ) → (is_set v || not (is_set (Word (word_of v - a)))) ≡ true
subtracts (Word zero) a = ap (λ n. not (is_set (Word n))) (let none : 0 - a ≡ 0 = omega arith in none)
subtracts (Word (suc n)) a = or_left (is_set (Word (suc n))) (not (is_set (Word (suc n - a)))) (set_more n)
subtracts (Text []) a = ap (λ n. not (is_set (Word n))) (let none : 0 - a ≡ 0 = omega arith in none)
subtracts (Text (b ∷ bs)) a = or_left (is_set (Text (b ∷ bs))) (not (is_set (Word (0 - a)))) (set_more (length bs))

module _ (call : Call) (good : Good) (client : 1 ≤ call.client) where
  -- an effect leaves its field as it may
  leaves : (e : Effect) (v : Value) → IsNoText v → may_leave (Some e) (is_set v) (is_set (effect_of call good e v)) ≡ true
  leaves SetCaller v plain = set_word call.client (omega (arith, client))
  leaves (SetArg k) v plain = refl
  leaves (AddArg k) v plain = adds v (word_of (arg_at call k)) plain
  leaves SetRet v plain = refl
  leaves AddRet v plain = adds v (first_word good) plain
  leaves Clear (Word n) plain = refl
  leaves Clear (Text bs) plain = refl
  leaves SubOne (Word zero) plain = refl
  leaves SubOne (Word (suc n)) plain = or_left (is_set (Word (suc n))) (not (is_set (Word (suc n - 1)))) (set_more n)
  leaves SubOne (Text []) plain = refl
  leaves SubOne (Text (b ∷ bs)) plain = or_left (is_set (Text (b ∷ bs))) (not (is_set (Word (0 - 1)))) (set_more (length bs))
  leaves SubRet v plain = subtracts v (first_word good)

  -- what a field comes to
  abbrev comes_to : Option Effect → Value → Value
  comes_to None v = v
  comes_to (Some e) v = effect_of call good e v

  both_true : (a b : Bool) → (a && b) ≡ true → (a ≡ true) × (b ≡ true)
  both_true true true is = (refl, refl)
  both_true true false is = absurd (cc is)
  both_true false b is = absurd (cc is)

  not_true : (b : Bool) → not b ≡ true → b ≡ false
  not_true true is = absurd (cc is)
  not_true false is = refl

  final_at : (es : List (ℕ × Effect)) (fields : List Value) (y : ℕ) → sets_once es ≡ true → y < length fields → field_at (fields_after call good es fields) y ≡ comes_to (effect_on es y) (field_at fields y)
  final_at [] fields y once lt = refl
  final_at (e ∷ es) fields y once lt =
      let v = effect_of call good e.1 (field_at fields e.0) in
      let parts = both_true (not (list_any (λ o. o.0 == e.0) es)) (sets_once es) once in
      elim (eqb_tells e.0 y) [
        | inl same ↦
            let rest : list_any (λ o. o.0 == y) es ≡ false = ap (λ x. list_any (λ o. o.0 == x) es) (sym same.1) ∙ not_true (list_any (λ o. o.0 == e.0) es) parts.0 in
            untouched call good es (set fields e.0 v) y rest
            ∙ ap (λ x. field_at (set fields x v) y) same.1 ∙ set_same fields y v lt
            ∙ ap (λ x. effect_of call good e.1 (field_at fields x)) same.1
            ∙ sym (ap (λ b. comes_to (cond b (Some e.1) (effect_on es y)) (field_at fields y)) same.0)
        | inr apart ↦
            final_at es (set fields e.0 v) y parts.1 (let n : length (set fields e.0 v) ≡ length fields = length-set fields e.0 v in omega (arith, n, lt))
            ∙ ap (comes_to (effect_on es y)) (set_other fields e.0 y v apart.1)
            ∙ sym (ap (λ b. comes_to (cond b (Some e.1) (effect_on es y)) (field_at fields y)) apart.0)
      ]

  left_alone : (b : Bool) → (if b then b else not b) ≡ true
  left_alone true = refl
  left_alone false = refl

  one_field : (e : Option Effect) (v : Value) → ((x : Effect) → e ≡ Some x → IsNoText v) → may_leave e (is_set v) (is_set (comes_to e v)) ≡ true
  one_field None v plain = left_alone (is_set v)
  one_field (Some e) v plain = leaves e v (plain e refl)

  -- so the fields lead where they may
  leads : (es : List (ℕ × Effect)) (x : ℕ) (olds news : List Value) → length news ≡ length olds
      → ((y : ℕ) → y < length olds → may_leave (effect_on es (x + y)) (is_set (field_at olds y)) (is_set (field_at news y)) ≡ true)
      → may_lead es x (map is_set olds) (map is_set news) ≡ true
  leads es x [] [] same each = refl
  leads es x [] (w ∷ news) same each = absurd (omega (arith, same))
  leads es x (v ∷ olds) [] same each = absurd (omega (arith, same))
  leads es x (v ∷ olds) (w ∷ news) same each =
      let first : may_leave (effect_on es x) (is_set v) (is_set w) ≡ true = ap (λ n. may_leave (effect_on es n) (is_set v) (is_set w)) (let e : x ≡ x + 0 = omega arith in e) ∙ each 0 (omega arith) in
      let rest : may_lead es (x + 1) (map is_set olds) (map is_set news) ≡ true
      = leads es (x + 1) olds news (omega (arith, same)) (λ y lt.
      ap (λ n. may_leave (effect_on es n) (is_set (field_at olds y)) (is_set (field_at news y))) (let e : x + 1 + y ≡ x + suc y = omega arith in e) ∙ each (suc y) (omega (arith, lt))) in
      ap (λ b. b && may_lead es (x + 1) (map is_set olds) (map is_set news)) first ∙ rest

  fields_lead : (es : List (ℕ × Effect)) (fields : List Value) → sets_once es ≡ true → ((y : ℕ) (e : Effect) → effect_on es y ≡ Some e → y < length fields → IsNoText (field_at fields y))
      → may_lead es 0 (map is_set fields) (map is_set (fields_after call good es fields)) ≡ true
  fields_lead es fields once plain =
      leads es 0 fields (fields_after call good es fields) (length_after call good es fields)
      (λ y lt.
      let at : effect_on es (0 + y) ≡ effect_on es y = ap (effect_on es) (let e : 0 + y ≡ y = omega arith in e) in
      ap (λ e. may_leave e (is_set (field_at fields y)) (is_set (field_at (fields_after call good es fields) y))) at
      ∙ ap (λ w. may_leave (effect_on es y) (is_set (field_at fields y)) (is_set w)) (final_at es fields y once lt)
      ∙ one_field (effect_on es y) (field_at fields y) (λ e is. plain y e is lt))

  -- ---- rows

  none_are_set : (fs : List Field) → map is_set (map empty_field fs) ≡ none_set fs
  none_are_set [] = refl
  none_are_set (f ∷ fs) = ap (λ b. b ∷ map is_set (map empty_field fs)) (at f.text) ∙ ap (λ l. false ∷ l) (none_are_set fs)
    where
      at : (b : Bool) → is_set (cond b (Text []) (Word 0)) ≡ false
      at true = refl
      at false = refl

  no_text_yet : (fs : List Field) (y : ℕ) → IsNoText (field_at (map empty_field fs) y)
  no_text_yet [] y = tt
  no_text_yet (f ∷ fs) zero = at f.text
    where
      at : (b : Bool) → IsNoText (cond b (Text []) (Word 0))
      at true = tt
      at false = tt
  no_text_yet (f ∷ fs) (suc y) = no_text_yet fs y

  -- the row that a creation makes
  pub made_reachable : (i : Declared) → declares i call.fun ≡ true → (fun_at i.facts.funs call.fun).creation ≡ true → sets_once (fun_at i.facts.funs call.fun).effects ≡ true
      → IsReachable i (new_row i.facts call good).made (new_row i.facts call good).state (set_of (new_row i.facts call good))
  made_reachable i is makes once =
      made call.fun (set_of (new_row i.facts call good)) is makes
      (ap (λ l. may_lead (fun_at i.facts.funs call.fun).effects 0 l (set_of (new_row i.facts call good))) (sym (none_are_set i.facts.fields))
      ∙ fields_lead (fun_at i.facts.funs call.fun).effects (map empty_field i.facts.fields) once (λ y e at lt. no_text_yet i.facts.fields y))

  -- the row that another function changes
  pub moved_reachable : (i : Declared) (r : Row) → IsReachable i r.made r.state (set_of r) → moves_on i r.state call.fun ≡ true → (fun_at i.facts.funs call.fun).terminal ≡ false
      → sets_once (fun_at i.facts.funs call.fun).effects ≡ true
      → ((y : ℕ) (e : Effect) → effect_on (fun_at i.facts.funs call.fun).effects y ≡ Some e → y < length r.fields → IsNoText (field_at r.fields y))
      → IsReachable i (row_after i.facts call good r).made (row_after i.facts call good r).state (set_of (row_after i.facts call good r))
  moved_reachable i r reach moves ends once plain =
      moved r.made call.fun r.state (set_of r) (set_of (row_after i.facts call good r)) reach moves ends (fields_lead (fun_at i.facts.funs call.fun).effects r.fields once plain)
