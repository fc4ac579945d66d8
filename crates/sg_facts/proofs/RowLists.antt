-- Lists of rows, when a row comes, is changed or goes.
use Rattle.std.proofs.Common.{◌≡◌, ℕ, ◌<◌, ◌≤◌, Bool, true, false, cond, ◌||◌, List, [], ◌∷◌, ◌++◌, Some, map, filter, refl, sym, ◌∙◌, ap, subst, inl, inr, arith}
use Rattle.std.specs.Prelude.{◌==◌, if◌then◌else◌}
use Rattle.std.specs.List.{list_any}
use Rattle.std.specs.declared.option.Option.{Option}
use Rattle.std.proofs.lemmas.Bool.{cases_Bool}
use Rattle.std.proofs.lemmas.Bool.Decides.{nat_tests}
use Rattle.sg_facts.specs.declared.row.Row.{Row}
use Rattle.sg_facts.specs.Track.{row_at, is_live}
use Rattle.sg_facts.specs.Sound.{AreRows}

-- ---- rows under ascending ids

pub wider : (P : Row → Type 0) (low low' high high' : ℕ) (rows : List Row) → low' ≤ low → high ≤ high' → AreRows P low high rows → AreRows P low' high' rows
wider P low low' high high' [] l h are = tt
wider P low low' high high' (r ∷ rows) l h are = (omega (arith, are.0), omega (arith, are.1), are.2, wider P r.id r.id high high' rows (omega arith) h are.3)

-- each row meets another condition
pub other : (P Q : Row → Type 0) → ((r : Row) → P r → Q r) → (low high : ℕ) (rows : List Row) → AreRows P low high rows → AreRows Q low high rows
other P Q turn low high [] are = tt
other P Q turn low high (r ∷ rows) are = (are.0, are.1, turn r are.2, other P Q turn r.id high rows are.3)

-- each row meets both conditions
pub both : (P Q : Row → Type 0) (low high : ℕ) (rows : List Row) → AreRows P low high rows → AreRows Q low high rows → AreRows (λ r. P r × Q r) low high rows
both P Q low high [] are also_are = tt
both P Q low high (r ∷ rows) are also_are = (are.0, are.1, (are.2, also_are.2), both P Q r.id high rows are.3 also_are.3)

-- a row comes last
pub more : (P : Row → Type 0) (low high : ℕ) (rows : List Row) (new : Row) → AreRows P low high rows → low < new.id → high < new.id → P new → AreRows P low new.id (rows ++ new ∷ [])
more P low high [] new are below above meets = (below, omega arith, meets, tt)
more P low high (r ∷ rows) new are below above meets = (are.0, omega (arith, are.1), are.2, more P r.id high rows new are.3 (omega (arith, are.1)) above meets)

-- rows are changed under their ids
pub changed : (P Q : Row → Type 0) (change : Row → Row) → ((r : Row) → (change r).id ≡ r.id) → ((r : Row) → P r → Q (change r))
    → (low high : ℕ) (rows : List Row) → AreRows P low high rows → AreRows Q low high (map change rows)
changed P Q change same turn low high [] are = tt
changed P Q change same turn low high (r ∷ rows) are =
    (omega (arith, same r, are.0), omega (arith, same r, are.1), turn r are.2, subst (λ n. AreRows Q n high (map change rows)) (sym (same r)) (changed P Q change same turn r.id high rows are.3))

-- rows go
pub left : (P : Row → Type 0) (test : Row → Bool) (low high : ℕ) (rows : List Row) → AreRows P low high rows → AreRows P low high (filter test rows)
left P test low high [] are = tt
left P test low high (r ∷ rows) are = at (test r) (left P test r.id high rows are.3)
  where
    at : (b : Bool) → AreRows P r.id high (filter test rows) → AreRows P low high (cond b (r ∷ filter test rows) (filter test rows))
    at true rest = (are.0, are.1, are.2, rest)
    at false rest = wider P r.id low high high (filter test rows) (omega (arith, are.0)) (omega arith) rest

-- no row passes a test
pub none_pass : (P : Row → Type 0) (test : Row → Bool) (low high : ℕ) (rows : List Row) → list_any test rows ≡ false → AreRows P low high rows
    → AreRows (λ r. P r × (test r ≡ false)) low high rows
none_pass P test low high [] none are = tt
none_pass P test low high (r ∷ rows) none are = at (test r) refl none (none_pass P test r.id high rows)
  where
    at : (b : Bool) → test r ≡ b → (b || list_any test rows) ≡ false → (list_any test rows ≡ false → AreRows P r.id high rows → AreRows (λ x. P x × (test x ≡ false)) r.id high rows)
        → AreRows (λ x. P x × (test x ≡ false)) low high (r ∷ rows)
    at true is none rest = absurd (cc none)
    at false is none rest = (are.0, are.1, (are.2, is), rest none are.3)

-- ---- look-ups

pub is_live-more : (rows : List Row) (new : Row) (id : ℕ) → is_live rows id ≡ true → is_live (rows ++ new ∷ []) id ≡ true
is_live-more [] new id live = absurd (cc live)
is_live-more (r ∷ rows) new id live = at (r.id == id) live (is_live-more rows new id)
  where
    at : (b : Bool) → (b || is_live rows id) ≡ true → (is_live rows id ≡ true → is_live (rows ++ new ∷ []) id ≡ true) → (b || is_live (rows ++ new ∷ []) id) ≡ true
    at true live rest = refl
    at false live rest = rest live

pub is_live-changed : (change : Row → Row) → ((r : Row) → (change r).id ≡ r.id) → (rows : List Row) (id : ℕ) → is_live (map change rows) id ≡ is_live rows id
is_live-changed change same [] id = refl
is_live-changed change same (r ∷ rows) id = ap (λ n. (n == id) || is_live (map change rows) id) (same r) ∙ ap (λ b. (r.id == id) || b) (is_live-changed change same rows id)

-- two ids that a test tells apart are two
told_apart : (test : ℕ → Bool) (m n : ℕ) → test m ≡ false → test n ≡ true → (m == n) ≡ false
told_apart test m n out is = elim (cases_Bool (m == n)) [
  | inl same ↦
      let one : m ≡ n = grind (arith, nat_tests) in
      let both : false ≡ true = sym out ∙ ap test one ∙ is in
      absurd (cc both)
  | inr apart ↦ apart
]

-- the row of an id that stays when rows go
pub row_at-left : (test : ℕ → Bool) (rows : List Row) (id : ℕ) → test id ≡ true → row_at (filter (λ r. test r.id) rows) id ≡ row_at rows id
row_at-left test [] id stays = refl
row_at-left test (r ∷ rows) id stays = at (test r.id) (λ out. told_apart test r.id id out stays) (row_at-left test rows id stays)
  where
    at : (t : Bool) → (t ≡ false → (r.id == id) ≡ false) → row_at (filter (λ x. test x.id) rows) id ≡ row_at rows id
        → row_at (cond t (r ∷ filter (λ x. test x.id) rows) (filter (λ x. test x.id) rows)) id ≡ cond (r.id == id) (Some r) (row_at rows id)
    at true apart rest = ap (λ x. cond (r.id == id) (Some r) x) rest
    at false apart rest = rest ∙ ap (λ b. cond b (Some r) (row_at rows id)) (sym (apart refl))

pub is_live-left : (test : ℕ → Bool) (rows : List Row) (id : ℕ) → test id ≡ true → is_live (filter (λ r. test r.id) rows) id ≡ is_live rows id
is_live-left test [] id stays = refl
is_live-left test (r ∷ rows) id stays = at (test r.id) (λ out. told_apart test r.id id out stays) (is_live-left test rows id stays)
  where
    at : (t : Bool) → (t ≡ false → (r.id == id) ≡ false) → is_live (filter (λ x. test x.id) rows) id ≡ is_live rows id
        → is_live (cond t (r ∷ filter (λ x. test x.id) rows) (filter (λ x. test x.id) rows)) id ≡ ((r.id == id) || is_live rows id)
    at true apart rest = ap (λ x. (r.id == id) || x) rest
    at false apart rest = rest ∙ ap (λ b. b || is_live rows id) (sym (apart refl))

-- a row that is there stays when one comes
pub row_at-more : (rows : List Row) (new r : Row) (id : ℕ) → row_at rows id ≡ Some r → row_at (rows ++ new ∷ []) id ≡ Some r
row_at-more [] new r id there = absurd (cc there)
row_at-more (x ∷ rows) new r id there = at (x.id == id) there (row_at-more rows new r id)
  where
    at : (b : Bool) → cond b (Some x) (row_at rows id) ≡ Some r → (row_at rows id ≡ Some r → row_at (rows ++ new ∷ []) id ≡ Some r)
        → cond b (Some x) (row_at (rows ++ new ∷ []) id) ≡ Some r
    at true there rest = there
    at false there rest = rest there

-- a row stays when that of another id is changed
pub row_at-changed : (change : Row → Row) → ((r : Row) → (change r).id ≡ r.id) → (rows : List Row) (of id : ℕ) → (id == of) ≡ false
    → row_at (map (λ r. if r.id == of then change r else r) rows) id ≡ row_at rows id
row_at-changed change same [] of id apart = refl
row_at-changed change same (r ∷ rows) of id apart = at (r.id == of) refl (row_at-changed change same rows of id apart)
  where
    rest_of : Option Row
    rest_of = row_at (map (λ x. if x.id == of then change x else x) rows) id

    at : (b : Bool) → (r.id == of) ≡ b → rest_of ≡ row_at rows id
        → cond ((cond b (change r) r).id == id) (Some (cond b (change r) r)) rest_of ≡ cond (r.id == id) (Some r) (row_at rows id)
    at true is rest =
        let one : r.id ≡ of = grind (arith, nat_tests) in
        let other_id : (r.id == id) ≡ false = grind (arith, nat_tests) in
        ap (λ n. cond (n == id) (Some (change r)) rest_of) (same r) ∙ ap (λ b. cond b (Some (change r)) rest_of) other_id ∙ rest
        ∙ ap (λ b. cond b (Some r) (row_at rows id)) (sym other_id)
    at false is rest = ap (λ x. cond (r.id == id) (Some r) x) rest

-- a live id has a row
pub row_of_live : (rows : List Row) (id : ℕ) → is_live rows id ≡ true → (r : Row) × (row_at rows id ≡ Some r) × (r.id ≡ id)
row_of_live [] id live = absurd (cc live)
row_of_live (r ∷ rows) id live = at (r.id == id) (λ is. grind (arith, nat_tests)) live (row_of_live rows id)
  where
    at : (b : Bool) → (b ≡ true → r.id ≡ id) → (b || is_live rows id) ≡ true → (is_live rows id ≡ true → (x : Row) × (row_at rows id ≡ Some x) × (x.id ≡ id))
        → (x : Row) × (cond b (Some r) (row_at rows id) ≡ Some x) × (x.id ≡ id)
    at true is live rest = (r, refl, is refl)
    at false is live rest = rest live

-- the row of an id has the id
pub id_of_row : (rows : List Row) (id : ℕ) (r : Row) → row_at rows id ≡ Some r → r.id ≡ id
id_of_row [] id r there = absurd (cc there)
id_of_row (x ∷ rows) id r there = at (x.id == id) (λ is. grind (arith, nat_tests)) there (id_of_row rows id r)
  where
    at : (b : Bool) → (b ≡ true → x.id ≡ id) → cond b (Some x) (row_at rows id) ≡ Some r → (row_at rows id ≡ Some r → r.id ≡ id) → r.id ≡ id
    at true is there rest = let one : x ≡ r = cc there in sym (ap (λ v. v.id) one) ∙ is refl
    at false is there rest = rest there

-- an id with a row is live
pub live_of_row : (rows : List Row) (id : ℕ) (r : Row) → row_at rows id ≡ Some r → is_live rows id ≡ true
live_of_row [] id r there = absurd (cc there)
live_of_row (x ∷ rows) id r there = at (x.id == id) there (live_of_row rows id r)
  where
    at : (b : Bool) → cond b (Some x) (row_at rows id) ≡ Some r → (row_at rows id ≡ Some r → is_live rows id ≡ true) → (b || is_live rows id) ≡ true
    at true there rest = refl
    at false there rest = rest there
