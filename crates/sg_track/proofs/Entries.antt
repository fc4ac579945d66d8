-- Rows under their ids, as a map keeps them.
use Rattle.std.proofs.Common.{◌≡◌, ℕ, zero, suc, ◌<◌, Bool, true, false, cond, List, [], ◌∷◌, ◌++◌, None, Some, is_some, length, filter, get_or, refl, sym, ◌∙◌, ap, inl, inr, arith}
use Rattle.std.specs.Prelude.{nat_eq, slice_get, IfSome, MatchOption}
use Rattle.std.specs.declared.option.Option.{Option}
use Rattle.std.specs.Map.{lookup, remove_entry, values_of}
use Rattle.std.specs.Option.{option_map}
use Rattle.std.proofs.Math.ListN.{set}
use Rattle.std.proofs.lemmas.Bool.Decides.{eqb_tells}
use Rattle.std.proofs.lemmas.Map.Entries.{length-values_of}
use Rattle.std.proofs.lemmas.Option.{slice_get-map}
use Rattle.indexmap.specs.IndexMap.{set_value_at}
use Rattle.sg_facts.specs.Track.{row_at}
use Rattle.sg_track.specs.declared.kept.Kept.{Kept}
use Rattle.sg_track.specs.Kept.{AreKeyed, Counts, HasRow, rows_in}
use Rattle.sg_track.proofs.Ascending.{other_test, same_test}

-- ---- look-ups

-- the row of an id stands under it
pub row_at-lookup : (es : List (ℕ × Kept)) (id : ℕ) → AreKeyed es → row_at (rows_in es) id ≡ option_map (λ k. k.row) (lookup (nat_eq id) es)
row_at-lookup [] id keyed = refl
row_at-lookup (e ∷ es) id keyed = elim (eqb_tells e.1.row.id id) [
  | inl same ↦
      ap (λ b. cond b (Some e.1.row) (row_at (rows_in es) id)) same.0
      ∙ ap (λ b. option_map (λ k. k.row) (cond b (Some e.1) (lookup (nat_eq id) es))) (sym (same_test id e.0 (sym (keyed.0 ∙ same.1))))
  | inr apart ↦
      ap (λ b. cond b (Some e.1.row) (row_at (rows_in es) id)) apart.0
      ∙ row_at-lookup es id keyed.1
      ∙ ap (λ b. option_map (λ k. k.row) (cond b (Some e.1) (lookup (nat_eq id) es))) (sym (other_test id e.0 (λ is. apart.1 (sym (is ∙ keyed.0)))))
]

-- what a look-up found is the row of the id
pub row_found : (es : List (ℕ × Kept)) (id : ℕ) (k : Kept) → AreKeyed es → Some k ≡ lookup (nat_eq id) es → row_at (rows_in es) id ≡ Some k.row
row_found es id k keyed is = row_at-lookup es id keyed ∙ ap (option_map (λ x. x.row)) (sym is)

-- where it found nothing, there is no row
pub row_missed : (es : List (ℕ × Kept)) (id : ℕ) → AreKeyed es → None ≡ lookup (nat_eq id) es → row_at (rows_in es) id ≡ None
row_missed es id keyed is = row_at-lookup es id keyed ∙ ap (option_map (λ x. x.row)) (sym is)

-- and where there is no row, it finds nothing
pub lookup_missed : (es : List (ℕ × Kept)) (id : ℕ) → AreKeyed es → row_at (rows_in es) id ≡ None → lookup (nat_eq id) es ≡ None
lookup_missed es id keyed none = at (lookup (nat_eq id) es) (sym (row_at-lookup es id keyed) ∙ none)
  where
    at : (o : Option Kept) → option_map (λ k. k.row) o ≡ None → o ≡ None
    at None is = refl
    at (Some k) is = absurd (cc is)

-- the count beside what a look-up found
pub count_found : (number : ℕ → ℕ) (es : List (ℕ × Kept)) (id : ℕ) (k : Kept) → AreKeyed es → Counts number (values_of es) → Some k ≡ lookup (nat_eq id) es → k.children ≡ number id
count_found number [] id k keyed counts is = absurd (cc is)
count_found number (e ∷ es) id k keyed counts is = elim (eqb_tells id e.0) [
  | inl same ↦
      let found : Some k ≡ Some e.1 = is ∙ ap (λ b. cond b (Some e.1) (lookup (nat_eq id) es)) same.0 in
      let one : k ≡ e.1 = cc found in
      ap (λ x. x.children) one ∙ counts.0 ∙ ap number (sym (same.1 ∙ keyed.0))
  | inr apart ↦ count_found number es id k keyed.1 counts.1 (is ∙ ap (λ b. cond b (Some e.1) (lookup (nat_eq id) es)) apart.0)
]

nothing : (o : Option Kept) → false ≡ is_some o → o ≡ None
nothing None is = refl
nothing (Some k) is = absurd (cc is)

-- the place that a look-up found has the row of the id
pub place_tells : (es : List (ℕ × Kept)) (id : ℕ) (r : Option ℕ) → AreKeyed es → is_some r ≡ is_some (lookup (nat_eq id) es)
    → IfSome r (λ i. i < length es) → IfSome r (λ i. slice_get (values_of es) i ≡ lookup (nat_eq id) es)
    → MatchOption r (row_at (rows_in es) id ≡ None) (λ at. HasRow (values_of es) at id)
place_tells es id None keyed found within value = row_at-lookup es id keyed ∙ ap (option_map (λ k. k.row)) (nothing (lookup (nat_eq id) es) found)
place_tells es id (Some i) keyed found within value = record {
  within = omega (arith, within, length-values_of es);
  there = row_at-lookup es id keyed ∙ ap (option_map (λ k. k.row)) (sym value) ∙ sym (slice_get-map (λ k. k.row) (values_of es) i);
}

-- what was read at a place
pub read_any : (kept : List Kept) (n : ℕ) (d k : Kept) → slice_get kept n ≡ Some k → k ≡ get_or kept n d
read_any [] n d k is = absurd (cc is)
read_any (x ∷ kept) zero d k is = let one : x ≡ k = cc is in sym one
read_any (x ∷ kept) (suc n) d k is = read_any kept n d k is

pub read_value : (kept : List Kept) (n : ℕ) (k : Kept) → slice_get kept n ≡ Some k → k ≡ get_or kept n k
read_value kept n k is = read_any kept n k k is

-- ---- a write at a place

pub values-set : (es : List (ℕ × Kept)) (n : ℕ) (new : Kept) → values_of (set_value_at es n new) ≡ set (values_of es) n new
values-set [] n new = refl
values-set (e ∷ es) zero new = refl
values-set (e ∷ es) (suc n) new = ap (λ kept. e.1 ∷ kept) (values-set es n new)

-- a row is written under its id
pub keyed-set : (es : List (ℕ × Kept)) (n : ℕ) (new d : Kept) → new.row.id ≡ (get_or (values_of es) n d).row.id → AreKeyed es → AreKeyed (set_value_at es n new)
keyed-set [] n new d same keyed = tt
keyed-set (e ∷ es) zero new d same keyed = (keyed.0 ∙ sym same, keyed.1)
keyed-set (e ∷ es) (suc n) new d same keyed = (keyed.0, keyed-set es n new d same keyed.1)

-- ---- rows come and go

pub values-more : (es : List (ℕ × Kept)) (e : ℕ × Kept) → values_of (es ++ e ∷ []) ≡ values_of es ++ e.1 ∷ []
values-more [] e = refl
values-more (x ∷ es) e = ap (λ kept. x.1 ∷ kept) (values-more es e)

pub keyed-more : (es : List (ℕ × Kept)) (e : ℕ × Kept) → e.0 ≡ e.1.row.id → AreKeyed es → AreKeyed (es ++ e ∷ [])
keyed-more [] e is keyed = (is, tt)
keyed-more (x ∷ es) e is keyed = (keyed.0, keyed-more es e is keyed.1)

pub values-filter : (test : Kept → Bool) (es : List (ℕ × Kept)) → values_of (filter (λ e. test e.1) es) ≡ filter test (values_of es)
values-filter test [] = refl
values-filter test (e ∷ es) = at (test e.1) (values-filter test es)
  where
    at : (b : Bool) → values_of (filter (λ x. test x.1) es) ≡ filter test (values_of es)
        → values_of (cond b (e ∷ filter (λ x. test x.1) es) (filter (λ x. test x.1) es)) ≡ cond b (e.1 ∷ filter test (values_of es)) (filter test (values_of es))
    at true rest = ap (λ kept. e.1 ∷ kept) rest
    at false rest = rest

pub keyed-filter : (test : ℕ × Kept → Bool) (es : List (ℕ × Kept)) → AreKeyed es → AreKeyed (filter test es)
keyed-filter test [] keyed = tt
keyed-filter test (e ∷ es) keyed = at (test e) (keyed-filter test es keyed.1)
  where
    at : (b : Bool) → AreKeyed (filter test es) → AreKeyed (cond b (e ∷ filter test es) (filter test es))
    at true rest = (keyed.0, rest)
    at false rest = rest

pub keyed-remove : (test : ℕ → Bool) (es : List (ℕ × Kept)) → AreKeyed es → AreKeyed (remove_entry test es)
keyed-remove test [] keyed = tt
keyed-remove test (e ∷ es) keyed = at (test e.0) (keyed-remove test es keyed.1)
  where
    at : (b : Bool) → AreKeyed (remove_entry test es) → AreKeyed (cond b es (e ∷ remove_entry test es))
    at true rest = keyed.1
    at false rest = (keyed.0, rest)

pub counts-remove : (number : ℕ → ℕ) (test : ℕ → Bool) (es : List (ℕ × Kept)) → Counts number (values_of es) → Counts number (values_of (remove_entry test es))
counts-remove number test [] counts = tt
counts-remove number test (e ∷ es) counts = at (test e.0) (counts-remove number test es counts.1)
  where
    at : (b : Bool) → Counts number (values_of (remove_entry test es)) → Counts number (values_of (cond b es (e ∷ remove_entry test es)))
    at true rest = counts.1
    at false rest = (counts.0, rest)
