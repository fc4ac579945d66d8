-- The one field of a row, and the row of a call.
use Rattle.std.proofs.Common.{◌≡◌, ℕ, Bool, true, false, cond, List, [], ◌∷◌, Some, refl, subst}
use Rattle.std.specs.Prelude.{◌==◌, ◌&&◌, nat_le}
use Rattle.sg_describe.specs.sg_facts.Sound.{AreRows}
use Rattle.sg_describe.specs.sg_facts.Track.{row_at}
use Rattle.sg_describe.specs.sg_facts.declared.row.Row.{Row}
use Rattle.sg_describe.specs.sg_facts.sg_base.declared.value.Value.{Value}
use Rattle.sg_describe.specs.sg_facts.sg_base.declared.value.Value.TheVariants.{Word, Text}
use Rattle.sg_describe.specs.sg_described.DescribedSound.{are_up_to}

-- what holds of rows holds of the one of an id
pub row_meets : (P : Row → Type 0) (low high id : ℕ) (rows : List Row) (r : Row) → AreRows P low high rows → row_at rows id ≡ Some r → P r
row_meets P low high id [] r are there = absurd (cc there)
row_meets P low high id (x ∷ rows) r are there = at (x.id == id) there (row_meets P x.id high id rows r are.3)
  where
    at : (b : Bool) → cond b (Some x) (row_at rows id) ≡ Some r → (row_at rows id ≡ Some r → P r) → P r
    at true there later = let one : x ≡ r = cc there in subst P one are.2
    at false there later = later there

-- fields that are one word
pub record IsOneWord (most : ℕ) (fields : List Value) : Type 0 where
  pub word : ℕ
  pub is : fields ≡ Word word ∷ []
  pub fits : nat_le word most ≡ true

pub one_word : (most : ℕ) (fields : List Value) → are_up_to (most ∷ []) fields ≡ true → IsOneWord most fields
one_word most [] is = absurd (cc is)
one_word most (Text bytes ∷ fields) is = absurd (cc is)
one_word most (Word n ∷ v ∷ fields) is = absurd (at (nat_le n most) is)
  where
    at : (b : Bool) → (b && false) ≡ true → ⊥
    at true is = cc is
    at false is = cc is
one_word most (Word n ∷ []) is = record { word = n; is = refl; fits = at (nat_le n most) is }
  where
    at : (b : Bool) → (b && true) ≡ true → b ≡ true
    at true is = refl
    at false is = absurd (cc is)
