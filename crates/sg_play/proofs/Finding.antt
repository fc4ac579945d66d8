-- The calls of a client among others, in ascending numbers.
use Rattle.std.proofs.Common.{◌≡◌, ◌≢◌, ◌⊎◌, ℕ, zero, suc, ◌<◌, ◌≤◌, cond, List, [], ◌∷◌, length, refl, sym, ◌∙◌, ap, inl, inr, arith}
use Rattle.std.specs.Prelude.{◌-◌, slice_index_or}
use Rattle.std.specs.declared.cmp.Ordering.TheVariants.{Less, Equal, Greater}
use Rattle.std.specs.Cmp.{nat_cmp_is}
use Rattle.std.specs.Ordering.{nat_cmp, ordering_index}
use Rattle.std.proofs.lemmas.Bool.{cases_lt}
use Rattle.std.proofs.lemmas.Bool.Decides.{eqb_tells}
use Rattle.sg_plain.specs.Calls.{most_client, part_of}
use Rattle.sg_plain.specs.Playing.Playable.{AreClients}
use Rattle.sg_facts.proofs.Replaying.Found.{other_test, same_test}

-- the greatest number of a client is that of the last part
pub last_is_most : {C : Type 0} → (clients : List (ℕ × List C)) (d : ℕ × List C) → 1 ≤ length clients → (slice_index_or clients (length clients - 1) d).0 ≡ most_client clients
last_is_most [] d some = absurd (omega (arith, some))
last_is_most (c ∷ []) d some = refl
last_is_most (c ∷ e ∷ clients) d some =
    let next : length (c ∷ e ∷ clients) - 1 ≡ suc (length (e ∷ clients) - 1) = omega arith in
    ap (λ n. (slice_index_or (c ∷ e ∷ clients) n d).0) next ∙ last_is_most (e ∷ clients) d (omega arith)

-- ---- halving

compared : (x y : ℕ) → ((nat_cmp x y ≡ Less) × (x < y)) ⊎ (((nat_cmp x y ≡ Equal) × (x ≡ y)) ⊎ ((nat_cmp x y ≡ Greater) × (y < x)))
compared x y = elim (cases_lt x y) [
  | inl less ↦ inl (sym (nat_cmp_is x y Less less), less)
  | inr more ↦ elim (eqb_tells x y) [
    | inl same ↦ inr (inl (sym (nat_cmp_is x y Equal same.1), same.1))
    | inr other ↦ let after : y < x = omega (arith, more, other.1) in inr (inr (sym (nat_cmp_is x y Greater after), after))
  ]
]

pub equal_of : (x y : ℕ) → nat_cmp x y ≡ Equal → x ≡ y
equal_of x y is = elim (compared x y) [
  | inl less ↦ absurd (cc (is, less.0))
  | inr rest ↦ elim rest [ inl same ↦ same.1 | inr more ↦ absurd (cc (is, more.0)) ]
]

-- a number is no other than those before and after it
never_equal : (x y : ℕ) → (nat_cmp x y ≡ Less) ⊎ (nat_cmp x y ≡ Greater) → x ≢ y
never_equal x y is same = elim is [ inl less ↦ cc (less, nat_cmp_is x y Equal same) | inr more ↦ cc (more, nat_cmp_is x y Equal same) ]

cmp_rises : (x y c : ℕ) → x ≤ y → ordering_index (nat_cmp x c) ≤ ordering_index (nat_cmp y c)
cmp_rises x y c below = elim (compared x c) [
  | inl less ↦ omega (arith, ap ordering_index less.0)
  | inr rest ↦ elim rest [
    | inl same ↦ elim (compared y c) [
      | inl before ↦ absurd (omega (arith, below, same.1, before.1))
      | inr others ↦ elim others [ inl at ↦ omega (arith, ap ordering_index same.0, ap ordering_index at.0) | inr after ↦ omega (arith, ap ordering_index same.0, ap ordering_index after.0) ]
    ]
    | inr more ↦ elim (compared y c) [
      | inl before ↦ absurd (omega (arith, below, more.1, before.1))
      | inr others ↦ elim others [ inl at ↦ absurd (omega (arith, below, more.1, at.1)) | inr after ↦ omega (arith, ap ordering_index more.0, ap ordering_index after.0) ]
    ]
  ]
]

above_at : {C : Type 0} → (low : ℕ) (clients : List (ℕ × List C)) (k : ℕ) (d : ℕ × List C) → AreClients low clients → k < length clients → low < (slice_index_or clients k d).0
above_at low [] k d are within = absurd (omega (arith, within))
above_at low (c ∷ clients) zero d are within = are.0
above_at low (c ∷ clients) (suc k) d are within = omega (arith, are.0, above_at c.0 clients k d are.2 (omega (arith, within)))

numbers_rise : {C : Type 0} → (low : ℕ) (clients : List (ℕ × List C)) (i j : ℕ) (d : ℕ × List C) → AreClients low clients → i ≤ j → j < length clients
    → (slice_index_or clients i d).0 ≤ (slice_index_or clients j d).0
numbers_rise low [] i j d are order within = absurd (omega (arith, within))
numbers_rise low (c ∷ clients) zero zero d are order within = omega arith
numbers_rise low (c ∷ clients) zero (suc j) d are order within = omega (arith, above_at c.0 clients j d are.2 (omega (arith, within)))
numbers_rise low (c ∷ clients) (suc i) zero d are order within = absurd (omega (arith, order))
numbers_rise low (c ∷ clients) (suc i) (suc j) d are order within = numbers_rise c.0 clients i j d are.2 (omega (arith, order)) (omega (arith, within))

-- the order of the parts by their clients rises
pub rises : {C : Type 0} → (clients : List (ℕ × List C)) (client : ℕ) → AreClients 0 clients → (i j : ℕ) (d : ℕ × List C) → i ≤ j → j < length clients
    → ordering_index (nat_cmp (slice_index_or clients i d).0 client) ≤ ordering_index (nat_cmp (slice_index_or clients j d).0 client)
rises clients client are i j d order within = cmp_rises (slice_index_or clients i d).0 (slice_index_or clients j d).0 client (numbers_rise 0 clients i j d are order within)

part_at : {C : Type 0} → (low : ℕ) (clients : List (ℕ × List C)) (k : ℕ) (d : ℕ × List C) → AreClients low clients → k < length clients
    → part_of (slice_index_or clients k d).0 clients ≡ (slice_index_or clients k d).1
part_at low [] k d are within = absurd (omega (arith, within))
part_at low (c ∷ clients) zero d are within = ap (λ b. cond b c.1 (part_of c.0 clients)) (same_test c.0 c.0 refl)
part_at low (c ∷ clients) (suc k) d are within =
    let there = slice_index_or clients k d in
    let less = above_at c.0 clients k d are.2 (omega (arith, within)) in
    ap (λ b. cond b c.1 (part_of there.0 clients)) (other_test c.0 there.0 (λ same. omega (arith, less, same))) ∙ part_at c.0 clients k d are.2 (omega (arith, within))

-- the part that is found is the client's
pub found : {C : Type 0} → (clients : List (ℕ × List C)) (client place : ℕ) (d : ℕ × List C) → AreClients 0 clients → place < length clients → nat_cmp (slice_index_or clients place d).0 client ≡ Equal
    → part_of client clients ≡ (slice_index_or clients place d).1
found clients client place d are within is = ap (λ n. part_of n clients) (sym (equal_of (slice_index_or clients place d).0 client is)) ∙ part_at 0 clients place d are within

no_part : {C : Type 0} → (client : ℕ) (clients : List (ℕ × List C)) → ((k : ℕ) (d : ℕ × List C) → k < length clients → (slice_index_or clients k d).0 ≢ client) → part_of client clients ≡ []
no_part client [] none = refl
no_part client (c ∷ clients) none =
    ap (λ b. cond b c.1 (part_of client clients)) (other_test c.0 client (none 0 c (omega arith))) ∙ no_part client clients (λ k d within. none (suc k) d (omega (arith, within)))

-- none is found where the client has no part
pub not_found : {C : Type 0} → (clients : List (ℕ × List C)) (client place : ℕ) → ((k : ℕ) (d : ℕ × List C) → 0 ≤ k → k < place → nat_cmp (slice_index_or clients k d).0 client ≡ Less)
    × ((k : ℕ) (d : ℕ × List C) → place ≤ k → k < length clients → nat_cmp (slice_index_or clients k d).0 client ≡ Greater) → part_of client clients ≡ []
not_found {C = C} clients client place (before, behind) = no_part client clients (λ k d within. by k d within (cases_lt k place))
  where
    by : (k : ℕ) (d : ℕ × List C) → k < length clients → (k < place) ⊎ (place ≤ k) → (slice_index_or clients k d).0 ≢ client
    by k d within (inl less) = never_equal (slice_index_or clients k d).0 client (inl (before k d (omega arith) less))
    by k d within (inr more) = never_equal (slice_index_or clients k d).0 client (inr (behind k d more within))
