-- The place of the first row whose id is an id or greater.
use Rattle.std.proofs.Common.{◌≡◌, ℕ, zero, suc, ◌<◌, ◌≤◌, true, false, List, [], ◌∷◌, length, get_or, take, drop, refl, ◌∙◌, ap, inl, inr, arith}
use Rattle.std.specs.Prelude.{nat_lt}
use Rattle.std.specs.List.{AllWithin}
use Rattle.std.specs.List.Sorted.{IsPartitionedBy}
use Rattle.std.specs.Map.{values_of}
use Rattle.std.proofs.lemmas.Bool.Decides.{eqb_tells, nat_tests}
use Rattle.std.proofs.lemmas.Map.Entries.{length-values_of}
use Rattle.sg_facts.specs.Sound.{AreRows}
use Rattle.sg_facts.specs.sg_base.Lists.{Each}
use Rattle.sg_track.specs.declared.kept.Kept.{Kept}
use Rattle.sg_track.specs.Kept.{rows_in}
use Rattle.sg_track.specs.Tracked.{HasLowerParent}
use Rattle.sg_track.proofs.Ascending.{later}

value_at : (es : List (ℕ × Kept)) (n : ℕ) (d : ℕ × Kept) → get_or (values_of es) n d.1 ≡ (get_or es n d).1
value_at [] n d = refl
value_at (e ∷ es) zero d = refl
value_at (e ∷ es) (suc n) d = value_at es n d

-- a row before one with a smaller id has a smaller one too
pub ids_rise : (high id : ℕ) (es : List (ℕ × Kept)) → AreRows HasLowerParent 0 high (rows_in es) → IsPartitionedBy (λ e. nat_lt e.1.row.id id) es
ids_rise high id es are i j d most within passes = elim (eqb_tells i j) [
  | inl same ↦ ap (λ n. nat_lt (get_or es n d).1.row.id id) same.1 ∙ passes
  | inr apart ↦
      let less = later HasLowerParent 0 high (values_of es) i j d.1 are (omega (arith, most, apart.1)) (omega (arith, within, length-values_of es)) in
      let first : (get_or (values_of es) i d.1).row.id ≡ (get_or es i d).1.row.id = ap (λ k. k.row.id) (value_at es i d) in
      let second : (get_or (values_of es) j d.1).row.id ≡ (get_or es j d).1.row.id = ap (λ k. k.row.id) (value_at es j d) in
      grind (arith, nat_tests, passes, less, first, second)
]

-- each of the first rows has a smaller id
pub all_lower : (id : ℕ) (es : List (ℕ × Kept)) (n : ℕ) → AllWithin (λ e. nat_lt e.1.row.id id ≡ true) es 0 n → Each (λ r. r.id < id) (take n (rows_in es))
all_lower id [] zero all = tt
all_lower id [] (suc n) all = tt
all_lower id (e ∷ es) zero all = tt
all_lower id (e ∷ es) (suc n) all = (
  (let here = all zero e (omega arith) (omega arith) in grind (arith, nat_tests, here)),
  all_lower id es n (λ k d from less. all (suc k) d (omega arith) (omega (arith, less))),
)

-- each of the others has the id or a greater one
pub none_lower : (id : ℕ) (es : List (ℕ × Kept)) (n : ℕ) → AllWithin (λ e. nat_lt e.1.row.id id ≡ false) es n (length es) → Each (λ r. id ≤ r.id) (drop n (rows_in es))
none_lower id [] zero all = tt
none_lower id [] (suc n) all = tt
none_lower id (e ∷ es) zero all = (
  (let here = all zero e (omega arith) (omega arith) in grind (arith, nat_tests, here)),
  none_lower id es zero (λ k d from less. all (suc k) d (omega arith) (omega (arith, less))),
)
none_lower id (e ∷ es) (suc n) all = none_lower id es n (λ k d from less. all (suc k) d (omega (arith, from)) (omega (arith, less)))
