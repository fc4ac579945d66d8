-- Rows that are found by their ids, in lists under ascending ids.
use Rattle.std.proofs.Common.{◌≡◌, ℕ, ◌<◌, Bool, true, false, cond, List, [], ◌∷◌, Some, refl, ◌∙◌, ap, subst, arith}
use Rattle.std.specs.Prelude.{◌==◌}
use Rattle.std.proofs.lemmas.Bool.Decides.{nat_tests}
use Rattle.sg_facts.specs.declared.row.Row.{Row}
use Rattle.sg_facts.specs.Sound.{AreRows}
use Rattle.sg_facts.specs.Track.{row_at}

pub same_test : (m n : ℕ) → m ≡ n → (m == n) ≡ true
same_test m n is = grind (arith, nat_tests)

pub other_test : (m n : ℕ) → m < n → (m == n) ≡ false
other_test m n below = grind (arith, nat_tests)

-- a row that is found lies above the first number, and meets what all rows meet
pub found_row : (P : Row → Type 0) (low high id : ℕ) (rows : List Row) (r : Row) → AreRows P low high rows → row_at rows id ≡ Some r → (low < r.id) × P r
found_row P low high id [] r are there = absurd (cc there)
found_row P low high id (x ∷ rows) r are there = at (x.id == id) there (found_row P x.id high id rows r are.3)
  where
    at : (b : Bool) → cond b (Some x) (row_at rows id) ≡ Some r → (row_at rows id ≡ Some r → (x.id < r.id) × P r) → (low < r.id) × P r
    at true there rest = let one : x ≡ r = cc there in subst (λ y. (low < y.id) × P y) one (are.0, are.2)
    at false there rest = let further = rest there in (omega (arith, are.0, further.0), further.1)

-- what holds of each row that is found by its id holds of all
pub all_rows : (P Q : Row → Type 0) (low high : ℕ) (rows : List Row) → AreRows P low high rows → ((r : Row) → row_at rows r.id ≡ Some r → Q r) → AreRows Q low high rows
all_rows P Q low high [] are so = tt
all_rows P Q low high (x ∷ rows) are so = (
  are.0,
  are.1,
  so x (ap (λ b. cond b (Some x) (row_at rows x.id)) (same_test x.id x.id refl)),
  all_rows P Q x.id high rows are.3 (λ r there.
      let further = found_row P x.id high r.id rows r are.3 there in
      so r (ap (λ b. cond b (Some x) (row_at rows r.id)) (other_test x.id r.id further.0) ∙ there)),
)
