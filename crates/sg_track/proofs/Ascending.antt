-- Rows in ascending ids, read at their places.
use Rattle.std.proofs.Common.{◌≡◌, ℕ, zero, suc, ◌<◌, Bool, true, false, cond, List, [], ◌∷◌, Some, length, get_or, ◌∙◌, ap, inl, inr, arith}
use Rattle.std.specs.Prelude.{◌==◌, slice_get}
use Rattle.std.proofs.lemmas.Bool.Decides.{eqb_tells}
use Rattle.sg_facts.specs.Sound.{AreRows}
use Rattle.sg_facts.specs.Track.{row_at}
use Rattle.sg_facts.specs.declared.row.Row.{Row}
use Rattle.sg_track.specs.declared.kept.Kept.{Kept}
use Rattle.sg_track.specs.Kept.{rows_of}

-- ---- ids that are one, or two

pub same_test : (m n : ℕ) → m ≡ n → (m == n) ≡ true
same_test m n is = elim (eqb_tells m n) [ inl same ↦ same.0 | inr apart ↦ absurd (apart.1 is) ]

pub other_test : (m n : ℕ) → (m ≡ n → ⊥) → (m == n) ≡ false
other_test m n isn't = elim (eqb_tells m n) [ inl same ↦ absurd (isn't same.1) | inr apart ↦ apart.0 ]

-- ---- rows at their places

module _ (P : Row → Type 0) where
  -- ids are above the range's lower end
  pub above : (low high : ℕ) (kept : List Kept) (n : ℕ) (d : Kept) → AreRows P low high (rows_of kept) → n < length kept → low < (get_or kept n d).row.id
  above low high [] n d are within = absurd (omega arith)
  above low high (k ∷ kept) zero d are within = are.0
  above low high (k ∷ kept) (suc n) d are within = omega (arith, are.0, above k.row.id high kept n d are.3 (omega arith))

  -- later ids are greater
  pub later : (low high : ℕ) (kept : List Kept) (i j : ℕ) (d : Kept) → AreRows P low high (rows_of kept) → i < j → j < length kept
      → (get_or kept i d).row.id < (get_or kept j d).row.id
  later low high [] i j d are less within = absurd (omega arith)
  later low high (k ∷ kept) i zero d are less within = absurd (omega arith)
  later low high (k ∷ kept) zero (suc j) d are less within = above k.row.id high kept j d are.3 (omega arith)
  later low high (k ∷ kept) (suc i) (suc j) d are less within = later k.row.id high kept i j d are.3 (omega arith) (omega arith)

  pub at_head : (b : Bool) (k : Kept) (kept : List Kept) (id : ℕ) → (k.row.id == id) ≡ b → row_at (rows_of (k ∷ kept)) id ≡ cond b (Some k.row) (row_at (rows_of kept) id)
  at_head b k kept id is = ap (λ t. cond t (Some k.row) (row_at (rows_of kept) id)) is

  -- the row at the place of an id is the one that it has
  pub found : (low high id : ℕ) (kept : List Kept) (n : ℕ) (d : Kept) → AreRows P low high (rows_of kept) → n < length kept → (get_or kept n d).row.id ≡ id
      → row_at (rows_of kept) id ≡ slice_get (rows_of kept) n
  found low high id [] n d are within is = absurd (omega arith)
  found low high id (k ∷ kept) zero d are within is = elim (eqb_tells k.row.id id) [
    | inl same ↦ at_head true k kept id same.0
    | inr other ↦ absurd (other.1 is)
  ]
  found low high id (k ∷ kept) (suc n) d are within is =
      let after = above k.row.id high kept n d are.3 (omega arith) in
      elim (eqb_tells k.row.id id) [
        | inl same ↦ absurd (omega (arith, after, is, same.1))
        | inr other ↦ at_head false k kept id other.0 ∙ found k.row.id high id kept n d are.3 (omega arith) is
      ]
