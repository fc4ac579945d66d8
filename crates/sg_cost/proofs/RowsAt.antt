-- The row whose id stands at a place among the ids of rows.
use Rattle.std.proofs.Common.{◌≡◌, ℕ, zero, suc, ◌+◌, ◌<◌, List, [], ◌∷◌, ◌++◌, Some, drop, length, map, refl, sym, ◌∙◌, ap, subst, take, arith}
use Rattle.std.specs.Prelude.{slice_get, slice_index_or}
use Rattle.std.proofs.lemmas.List.{length-map}
use Rattle.sg_cost.proofs.Indexed.{divided, each_at, one_more, read_at}
use Rattle.sg_cost.proofs.LineCosts.{each_of, own_rows}
use Rattle.sg_facts.specs.Track.{row_at}
use Rattle.sg_facts.specs.declared.row.Row.{Row}
use Rattle.sg_needs.specs.sg_track.Tracked.{AreTracked}

-- what stands at a place
standing : {A : Type 0} (xs : List A) (n : ℕ) → n < length xs → (x : A) × (slice_get xs n ≡ Some x)
standing [] n at = absurd (omega (arith, at))
standing (x ∷ xs) zero at = (x, refl)
standing (x ∷ xs) (suc n) at = standing xs n (omega (arith, at))

mapped_at : {A : Type 0} (f : A → ℕ) (xs : List A) (n d : ℕ) (x : A) → slice_get xs n ≡ Some x → slice_index_or (map f xs) n d ≡ f x
mapped_at f [] n d x is = absurd (cc is)
mapped_at f (y ∷ xs) zero d x is = ap f (cc is)
mapped_at f (y ∷ xs) (suc n) d x is = mapped_at f xs n d x is

pub record RowHere (rows : List Row) (n id : ℕ) : Type 0 where
  pub row : Row
  pub its : id ≡ row.id
  pub there : row_at rows row.id ≡ Some row
  pub is : rows ≡ take n rows ++ row ∷ drop (suc n) rows
  pub more : take (n + 1) rows ≡ take n rows ++ row ∷ []

pub row_here : (given : ℕ) (rows : List Row) → AreTracked given rows → (ids : List ℕ) → ids ≡ map (λ r. r.id) rows → (n d : ℕ) → n < length ids → RowHere rows n (slice_index_or ids n d)
row_here given rows are ids is n d at =
    let few : n < length rows = subst (λ k. n < k) (ap length is ∙ length-map rows (λ r. r.id)) at in
    let s = standing rows n few in
    let own : s.0 ≡ slice_index_or rows n s.0 = sym (read_at rows n s.0 s.0 s.1) in
    record {
      row = s.0;
      its = ap (λ l. slice_index_or l n d) is ∙ mapped_at (λ r. r.id) rows n d s.0 s.1;
      there = subst (λ r. row_at rows r.id ≡ Some r) (sym own) (each_at (λ r. row_at rows r.id ≡ Some r) rows n s.0 few (each_of (λ r. row_at rows r.id ≡ Some r) 0 given rows (own_rows 0 given rows are)));
      is = divided rows n s.0 few own;
      more = one_more rows n s.0 few own;
    }
